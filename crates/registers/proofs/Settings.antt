-- Rows about registers and latches, computed from the rules: what document 01 says of latches, its setting I through
-- writes, and readings that would be wrong. Assumes nothing.
use Prim.Native.Nat.{ℕ, ◌+◌}
use mathlib.Core.Path.{◌≡◌, refl}
use mathlib.Core.Bool.{Bool, true, false, cond, not, ◌&&◌}
use mathlib.Core.List.{List, [], ◌∷◌, ◌++◌}
use lib.Dec.{eqb, leb}
use Rattle.wide.specs.Fields.{with_byte}
use Rattle.channel.specs.Channel.{fresh_timer, enabled_of, with_counter, with_flags}
use Rattle.channel.specs.Registers.{word_of, control_written, byte_written}
use Rattle.clock.specs.declared.Clock.{Clock}
use Rattle.clock.specs.Fields.{fresh_clock, with_control, with_time, with_alarm, with_host}
use Rattle.clock.specs.Clock.{shifted, own_nanoseconds, time_of, time_seconds, alarm_reached, check_alarm}
use Rattle.clock.specs.Registers.{
  signed_difference,
  set_time,
  time_kept,
  change_control,
  write_control,
  marked,
  shadow_byte,
  offset_for,
  commit_seconds,
  write_seconds,
  time_nanoseconds,
}
use Rattle.board.specs.declared.Board.{Board}
use Rattle.board.specs.declared.calls.Call.TheVariants.{Read, Write}
use Rattle.board.specs.Loops.{map_from, fold_from}
use Rattle.board.specs.Fields.{fresh_board, with_timers, with_clock, with_channel}
use Rattle.board.specs.Board.{wired}
use Rattle.board.specs.Calls.{address_refusal, effect_of, board_after, answer_of}
use Rattle.board.proofs.Kept.{fresh-sound}
use Rattle.board.specs.RegisterWords.{timer_word, clock_word, live_word}
use Rattle.board.specs.RegisterReads.{
  read_live,
  read_count_high,
  read_channel,
  seconds_latched,
  read_low,
  read_high,
  read_at,
}
use Rattle.board.specs.RegisterWrites.{timer_written, clock_written, written_at}

-- ---- lists of accepted reads

-- the bytes that reads at some addresses answer, one after another
bytes : List ℕ → Board → List ℕ
bytes [] b = []
bytes (address ∷ more) b = (effect_of (Read address) b).members ++ bytes more (board_after (Read address) b)

-- the board after a read
after : ℕ → Board → Board
after address b = board_after (Read address) b

-- and after a write
written : ℕ → ℕ → Board → Board
written address v b = board_after (Write v address) b

same : List ℕ → List ℕ → Bool
same [] [] = true
same [] (y ∷ ys) = false
same (x ∷ xs) [] = false
same (x ∷ xs) (y ∷ ys) = eqb x y && same xs ys

-- ---- boards

-- channel 0 has a count
counted : Board
counted = with_channel 0 (with_counter 0x0102_0304_0506_0708 fresh_timer) fresh_board

-- its low word's byte 0 is read, then a byte of each word is written: the last of the low, the first of the high
moved : Board
moved = written 0x28C 0xEE (written 0x28B 0xFF (after 0x288 counted))

clocked : Clock → Board
clocked k = with_clock k fresh_board

-- the clock's seconds are read by byte 0 of the low word, then the clock is at 0
dated : Board
dated = with_clock fresh_clock (after 0x088 (clocked (with_time 0x0102_0304_0506_0708 0 fresh_clock)))

-- the clock runs from host time, and its alarm is reached but not checked
reached : Board
reached =
    clocked
    (with_host (record { seconds = 9; nanoseconds = 0 })
    (with_alarm (record { enable = 0; seconds = 9; pending = false; armed = true }) (with_control 5 fresh_clock)))

-- 'I set enable on, seven distinct seconds bytes': byte i of the eight is i + 1
seconds : List ℕ → Board → Board
seconds [] b = b
seconds (i ∷ more) b = seconds more (written (cond (leb i 3) (0x08C + i) (0x084 + i)) (i + 1) b)

seven : Board
seven = seconds (7 ∷ 6 ∷ 5 ∷ 4 ∷ 3 ∷ 2 ∷ 1 ∷ []) (clocked (with_control 3 fresh_clock))

-- every channel is pending
pendings : Board
pendings =
    let h = with_flags true false fresh_timer in
    with_timers (h ∷ h ∷ h ∷ h ∷ []) fresh_board

-- ---- the rows

rows : Bool
rows =
    -- TIMER_ID
    same (bytes (0x000 ∷ 0x001 ∷ 0x002 ∷ 0x003 ∷ []) fresh_board) (0x51 ∷ 0x54 ∷ 0x00 ∷ 0x01 ∷ [])
    -- the low count is not latched
    && same (bytes (0x28B ∷ []) moved) (0xFF ∷ [])
    -- the high count is, until byte 3 is read
    && same (bytes (0x28C ∷ 0x28D ∷ 0x28E ∷ 0x28C ∷ 0x28F ∷ 0x28C ∷ []) moved) (1 ∷ 2 ∷ 3 ∷ 1 ∷ 4 ∷ 0xEE ∷ [])
    -- without byte 0 of the low word it is not
    && same (bytes (0x289 ∷ 0x28C ∷ []) (written 0x28C 0xEE counted)) (6 ∷ 0xEE ∷ [])
    -- both words of the clock's seconds are, each until its own byte 3
    && same (bytes (0x089 ∷ 0x08B ∷ 0x089 ∷ 0x08C ∷ 0x08F ∷ 0x08C ∷ []) dated) (6 ∷ 8 ∷ 0 ∷ 1 ∷ 4 ∷ 0 ∷ [])
    -- a read by a latch makes no alarm check, a live one does
    && not (after 0x088 reached).clock.alarm.pending
    && (after 0x089 reached).clock.alarm.pending
    && same (bytes (0x087 ∷ []) reached) (1 ∷ [])
    -- so does a byte of the clock's control that changes nothing
    && (written 0x080 0xFF reached).clock.alarm.pending
    -- seven bytes of the seconds do not commit, the eighth does
    && eqb seven.clock.seconds 0
    && eqb seven.clock.shadow.mask 254
    && eqb (seconds (0 ∷ []) seven).clock.seconds 0x0102_0304_0506_0708
    -- byte 3 has the channels' bits
    && eqb (written 0x007 0xFF fresh_board).timer_enable 15
    && eqb (written 0x004 0xFF fresh_board).timer_enable 0
    && same (bytes (0x00B ∷ []) (written 0x00F 5 pendings)) (10 ∷ [])
    && same (bytes (0x00B ∷ []) (written 0x00E 5 pendings)) (15 ∷ [])

rows_hold : rows ≡ true
unfolding bytes after written same counted moved clocked dated reached seconds seven pendings rows with_byte enabled_of
    word_of control_written byte_written shifted own_nanoseconds time_of time_seconds alarm_reached check_alarm
    signed_difference set_time time_kept change_control write_control marked shadow_byte offset_for commit_seconds
    write_seconds time_nanoseconds map_from fold_from wired timer_word clock_word live_word read_live read_count_high
    read_channel seconds_latched read_low read_high read_at timer_written clock_written written_at
rows_hold = refl

-- document 01's worked run: the fresh board's clock control is 1
pub first_read : (answer_of (Read 0x083) fresh_board).members ≡ 1 ∷ []
unfolding answer_of address_refusal read_at read_live live_word clock_word alarm_reached check_alarm
first_read = rw fresh-sound

-- 'Read, write: 1; 6 address ≥ 0x380.'
pub first_refused : answer_of (Read 0x380) fresh_board ≡ record { board = fresh_board; refusal = 6; members = [] }
unfolding answer_of address_refusal
first_refused = rw fresh-sound
