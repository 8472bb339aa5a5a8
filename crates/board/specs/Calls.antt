-- Document 01, 'The call list' and 'The line, source 3 and the deadline': the calls. A call is a case of `Call`, with
-- its members. Each case has three rules: its own refusal, the board after it, and the members of its answer. A direct
-- call's answer is made of these three, and a run of a call list uses the same three.
use Rattle.std.specs.Prelude.{ℕ, ◌+◌, ◌^◌, ◌<◌, Bool, true, false, cond, List, [], ◌∷◌, get_or, leb, ltb, eqb}
use Rattle.std.proofs.Math.Option.{Option, none, some}
use Rattle.wide.specs.Bits.{flag_of}
use Rattle.wide.specs.Number.{largest}
use Rattle.clock.specs.declared.HostTime.{HostTime as HostTimeOf}
use Rattle.clock.specs.Clock.{rate_of, nanos_per_second, advance_clock}
use Rattle.clock.specs.Sound.{sound_rate}
use Rattle.clock.specs.Fields.{with_host}
use Rattle.controller.specs.Controller.{source_set, controller_read, controller_written, output_of}
use Rattle.board.specs.declared.Board.{Board}
use Rattle.board.specs.declared.calls.Call.{Call}
use Rattle.board.specs.declared.calls.Call.TheVariants.{
  HostTime,
  Read,
  Write,
  Advance,
  Deadline,
  Skip,
  Source,
  ControllerRead,
  ControllerWrite,
  Output,
}
use Rattle.board.specs.Channels.{advanced_all, matches_all}
use Rattle.board.specs.Fields.{fresh_board_at, fresh_board, with_timers, with_clock, with_controller}
use Rattle.board.specs.Board.{line, exact_deadline, word_deadline, wired, sound}
use Rattle.board.specs.Registers.{base}
use Rattle.board.specs.RegisterWrites.{written_at}
use Rattle.board.specs.RegisterReads.{read_at}

-- ---- the calls by their members as numbers

-- an advance of c cycles
abbrev pub advance_by : ℕ → Call
advance_by c = Advance (record { 0 = c })

abbrev pub host_time_to : HostTimeOf → Call
host_time_to h = HostTime h.nanoseconds h.seconds

-- ---- 01 host time

abbrev pub nanoseconds_too_large : ℕ
nanoseconds_too_large = 7

-- 'Host time: 1; 7 nanoseconds ≥ 10^9.'
unfoldable pub host_time_refusal : HostTimeOf → ℕ
host_time_refusal h = cond (leb nanos_per_second h.nanoseconds) nanoseconds_too_large 0

-- ---- 02 read, 03 write

abbrev pub address_too_large : ℕ
address_too_large = 6

abbrev pub addresses_end : ℕ
addresses_end = 0x380

-- 'Read, write: 1; 6 address ≥ 0x380.'
unfoldable pub address_refusal : ℕ → ℕ
address_refusal address = cond (leb addresses_end address) address_too_large 0

-- ---- 04 advance

-- c cycles arrive at the channels and the clock
unfoldable pub moved_board : ℕ → Board → Board
moved_board c b =
    with_clock (advance_clock (rate_of b.clock) c b.clock)
    (with_timers (advanced_all b.timer_enable c b.timers) b)

-- the same with source 3 set to the line: the board after an accepted advance
unfoldable pub advanced_board : ℕ → Board → Board
advanced_board c b = wired (moved_board c b)

-- ---- 05 deadline

abbrev pub is_present : Option ℕ → Bool
is_present none = false
is_present (some d) = true

-- 'zeros if none'
abbrev pub or_zero : Option ℕ → ℕ
or_zero none = 0
or_zero (some d) = d

-- ---- 06 skip. Skip is document 01's term

-- the cycles of a skip's advance, or none: 'with the line high or no D, it makes no advance, changes nothing and passes
-- 0'; else it advances once by D and passes that
abbrev pub skip_length : Board → Option ℕ
skip_length b = cond (line b) none (exact_deadline b)

abbrev pub deadline_too_large : ℕ
deadline_too_large = 13

-- the refusal of a skip's advance: one advance takes at most 2^64 − 1 cycles
abbrev pub length_refusal : Option ℕ → ℕ
length_refusal none = 0
length_refusal (some d) = cond (ltb largest d) deadline_too_large 0

-- S-2: 'A skip with the line low whose D is above 2^64 − 1 is now refused'; '13, D too large for one skip'. This
-- refusal depends on the board
abbrev pub skip_refusal : Board → ℕ
skip_refusal b = length_refusal (skip_length b)

abbrev pub moved_by : Option ℕ → Board → Board
moved_by none b = b
moved_by (some n) b = moved_board n b

-- ---- 07 source

abbrev pub source_too_large : ℕ
source_too_large = 8

abbrev pub source_of_line : ℕ
source_of_line = 9

abbrev pub level_too_large : ℕ
level_too_large = 10

-- 'Source: 1; 8 number > 15; 9 number 3; 10 level above 1.'
unfoldable pub source_refusal : ℕ → ℕ → ℕ
source_refusal number level =
    cond (ltb 15 number) source_too_large (cond (eqb number 3) source_of_line (cond (ltb 1 level) level_too_large 0))

-- ---- what a call means

-- what a call does on a board: its own refusal, 0 for none; the board after it, before source 3 is set to the line; the
-- members of its answer as numbers, in document 01's order
pub record Effect : Type 0 where
  pub refusal : ℕ
  pub board : Board
  pub members : List ℕ

abbrev pub effect_of : Call → Board → Effect
-- '01 host time .. it sets the two host fields and makes no alarm check'
effect_of (HostTime nanoseconds seconds) b =
    record {
      refusal = host_time_refusal (record { seconds = seconds; nanoseconds = nanoseconds });
      board = with_clock (with_host (record { seconds = seconds; nanoseconds = nanoseconds }) b.clock) b;
      members = [];
    }
-- '02 read: address 2 → 1'
effect_of (Read address) b =
    record {
      refusal = address_refusal address;
      board = (read_at (address + base) b).board;
      members = (read_at (address + base) b).byte ∷ [];
    }
-- '03 write: address 2, byte → none'
effect_of (Write byte address) b =
    record { refusal = address_refusal address; board = written_at (address + base) byte b; members = [] }
-- '04 advance', and by S-4 'Call 04 answers the line and four 16-byte counts, channel 0 first'
effect_of (Advance c) b =
    record {
      refusal = 0;
      board = moved_board c.0 b;
      members = flag_of (line (moved_board c.0 b)) ∷ matches_all b.timer_enable c.0 b.timers;
    }
-- '05 deadline: none → present 1, D 16, 64-bit deadline 8 (zeros if none)'
effect_of Deadline b =
    record {
      refusal = 0;
      board = b;
      members =
          flag_of (is_present (exact_deadline b)) ∷ or_zero (exact_deadline b) ∷
          or_zero (word_deadline (exact_deadline b))
          ∷ [];
    }
-- '06 skip: none → passed 8, line 1'
effect_of Skip b =
    record {
      refusal = skip_refusal b;
      board = moved_by (skip_length b) b;
      members = or_zero (skip_length b) ∷ flag_of (line (moved_by (skip_length b) b)) ∷ [];
    }
-- '07 source: number, level → none'
effect_of (Source number level) b =
    record {
      refusal = source_refusal number level;
      board = with_controller (source_set b.controller number (eqb level 1)) b;
      members = [];
    }
-- '08 controller read: address 4 → 1'
effect_of (ControllerRead address) b =
    record { refusal = 0; board = b; members = controller_read b.controller address ∷ [] }
-- '09 controller write: address 4, byte → none'
effect_of (ControllerWrite byte address) b =
    record { refusal = 0; board = with_controller (controller_written b.controller address byte) b; members = [] }
-- '0A output: none → valid, number'
effect_of Output b =
    record {
      refusal = 0;
      board = b;
      members = flag_of (output_of b.controller).valid ∷ (output_of b.controller).number.0 ∷ [];
    }

-- 'After every accepted call the controller's source 3 is set to the line': the board that an accepted call leaves
abbrev pub board_after : Call → Board → Board
board_after call b = wired (effect_of call b).board

-- each member of a call is within its width, as the code's types have it
abbrev pub CallFits : Call → Type 0
CallFits (HostTime nanoseconds seconds) = (nanoseconds < 2 ^ 32) × (seconds < 2 ^ 64)
CallFits (Read address) = address < 2 ^ 16
CallFits (Write byte address) = (byte < 2 ^ 8) × (address < 2 ^ 16)
CallFits (Advance c) = c.0 < 2 ^ 64
CallFits Deadline = Unit {0}
CallFits Skip = Unit {0}
CallFits (Source number level) = (number < 2 ^ 8) × (level < 2 ^ 8)
CallFits (ControllerRead address) = address < 2 ^ 32
CallFits (ControllerWrite byte address) = (byte < 2 ^ 8) × (address < 2 ^ 32)
CallFits Output = Unit {0}

-- ---- a direct call

-- what a direct call answers: the board, the refusal, 0 for none, and the members
pub record DirectAnswer : Type 0 where
  pub board : Board
  pub refusal : ℕ
  pub members : List ℕ

abbrev pub not_sound : ℕ
not_sound = 1

-- 1 comes first, then the call's own refusal
abbrev pub refusal_of : Board → ℕ → ℕ
refusal_of b own = cond (sound b) own not_sound

-- 'Direct calls refuse alike and return the board given, every answer member 0.' A missing member is 0
unfoldable pub answer_of : Call → Board → DirectAnswer
answer_of call b =
    cond (eqb (refusal_of b (effect_of call b).refusal) 0)
    (record { board = board_after call b; refusal = 0; members = (effect_of call b).members })
    (record { board = b; refusal = refusal_of b (effect_of call b).refusal; members = [] })

-- ---- a member of an answer, by its place, 0 where it is missing

abbrev pub member_at : ℕ → DirectAnswer → ℕ
member_at k a = get_or a.members k 0

abbrev pub flag_at : ℕ → DirectAnswer → Bool
flag_at k a = eqb (member_at k a) 1

-- ---- a board is made

-- S-7: '15, another rate'
abbrev pub another_rate : ℕ
another_rate = 15

-- S-7: 'A fresh board takes its rate, one of these or 48,000,000, and the board carries it. .. 15, another rate, before
-- all else when a board is made (a fresh board is handed back)'
unfoldable pub fresh_of : ℕ → DirectAnswer
fresh_of rate =
    cond (sound_rate rate) (record { board = fresh_board_at rate; refusal = 0; members = [] })
    (record { board = fresh_board; refusal = another_rate; members = [] })
