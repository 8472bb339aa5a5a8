-- Document 01's 'Settings that a quick reading gets wrong': one table over the rules, with the readings that it calls
-- wrong, its worked run and skips about S-2's limit, by one computation. Assumes nothing.
use Prim.Native.Nat.{ℕ, ◌+◌, ◌-◌, ◌^◌}
use mathlib.Core.Path.{◌≡◌, refl}
use mathlib.Core.Bool.{Bool, true, false, cond, not, ◌&&◌}
use mathlib.Core.List.{List, [], ◌∷◌, ◌++◌}
use mathlib.Core.Option.{Option, none, some}
use lib.ListN.{get_or, replicate}
use lib.Dec.{leb, eqb}
use Rattle.wide.specs.Fields.{be_at, be, with_byte}
use Rattle.channel.specs.declared.HardwareTimer.{HardwareTimer}
use Rattle.channel.specs.Channel.{fresh_timer, enabled_of, irq_enabled_of, disabled, sound_timer, line_of}
use Rattle.channel.specs.Channel.{with_control as timer_control, with_counter, with_compare, with_reload}
use Rattle.channel.specs.Channel.{with_prescaler}
use Rattle.channel.specs.Channel.{with_flags}
use Rattle.channel.specs.Prescaler.{advanced}
use Rattle.channel.specs.Matches.{points_met, matches_in}
use Rattle.channel.specs.Modes.{one_shot, reloaded, matched, periodic, distance, free_running, ticked_in, ticked}
use Rattle.channel.specs.Deadline.{ticks_to_go, deadline_of}
use Rattle.channel.specs.Registers.{word_of, control_written, byte_written}
use Rattle.clock.specs.declared.Clock.{Clock}
use Rattle.clock.specs.Fields.{fresh_clock_at, fresh_clock, with_control, with_time, with_alarm, with_host}
use Rattle.clock.specs.Clock.{shifted, own_nanoseconds, time_of, time_seconds, alarm_reached, check_alarm, moved_time}
use Rattle.clock.specs.Clock.{end_advance, advance_clock}
use Rattle.clock.specs.Sound.{sound_rate, sound_offset, sound_alarm, sound_fields, alarm_ahead, sound_clock}
use Rattle.clock.specs.Deadline.{clock_deadline}
use Rattle.clock.specs.Registers.{signed_difference, set_time, time_kept, change_control, write_control, marked}
use Rattle.clock.specs.Registers.{shadow_byte, offset_for, commit_seconds, write_seconds, time_nanoseconds}
use Rattle.controller.specs.declared.IrqOutput.{IrqOutput}
use Rattle.controller.specs.Bits.{with_bit, without}
use Rattle.controller.specs.Controller.{source_set, output_of, lowest_from, controller_written, pending_cleared}
use Rattle.board.specs.declared.Board.{Board}
use Rattle.board.specs.declared.calls.Call.TheVariants.{Read, Write, Skip, ControllerWrite}
use Rattle.board.specs.Loops.{map_from, fold_from}
use Rattle.board.specs.Fields.{fresh_board_at, fresh_board, with_timers, with_timer_enable, with_clock}
use Rattle.board.specs.Board.{line, exact_deadline, wired, sound_parts, sound}
use Rattle.board.specs.Calls.{effect_of, board_after, answer_of, address_refusal, moved_board, advanced_board}
use Rattle.board.specs.Calls.{advance_by}
use Rattle.board.specs.Calls.{fresh_of}
use Rattle.board.specs.Demand.{source3}
use Rattle.board.specs.RegisterWords.{timer_word, clock_word, live_word}
use Rattle.board.specs.RegisterReads.{read_live, read_count_high, read_channel, seconds_latched, read_low, read_high}
use Rattle.board.specs.RegisterReads.{read_at}
use Rattle.board.specs.RegisterWrites.{timer_written, clock_written, written_at}
use Rattle.format.specs.Format.{members_at, members_bytes, record_of}
use Rattle.format.specs.Codec.{frame_refusal, call_of, refusal_at}
use Rattle.list.specs.Run.{result_of, stepped, Run, run_on, run_of}

-- ---- boards

-- channel 0 alone runs, in a mode, with its interrupt enabled
abbrev in_mode : ℕ → HardwareTimer
in_mode mode = timer_control (12 + mode) fresh_timer

abbrev running : HardwareTimer → Board
running h = with_timer_enable 1 (with_timers (h ∷ fresh_timer ∷ fresh_timer ∷ fresh_timer ∷ []) fresh_board)

abbrev channel0 : Board → HardwareTimer
channel0 b = get_or b.timers 0 fresh_timer

abbrev clocked : Clock → Board
clocked k = with_clock k fresh_board

abbrev setting_a : Board
setting_a = running (with_compare 10 (with_prescaler 2 (in_mode 0)))

abbrev setting_b : Board
setting_b = running (with_compare 10 (with_reload 4 (in_mode 1)))

abbrev setting_c : ℕ → Board
setting_c reload = running (with_reload reload (with_counter (2 ^ 64 - 3) (with_compare (2 ^ 64 - 2) (in_mode 1))))

abbrev timer_d : HardwareTimer
timer_d = with_flags false true (in_mode 2)

-- the same timer with a compare: so many cycles away, and 2^64 where it is 0
abbrev away : ℕ → Board
away compare = running (with_compare compare timer_d)

-- a skip alone, with so much room for its answer
skipped : ℕ → ℕ → Run
skipped compare room = run_of (away compare) (0x06 ∷ 0x00 ∷ 0x00 ∷ []) room

-- a channel's control is past its four bits
abbrev unsound : Board
unsound = running (timer_control 16 fresh_timer)

-- the alarm armed and enabled
abbrev alarmed : ℕ → Clock → Clock
alarmed s k = with_alarm (record { enable = 1; seconds = s; pending = false; armed = true }) k

gives : Option ℕ → ℕ → Bool
gives none n = false
gives (some d) n = eqb d n

-- of a rate, as G and the alarm on host time
abbrev setting_f : ℕ → Board
setting_f rate = clocked (alarmed 2 (fresh_clock_at rate))

abbrev setting_g : ℕ → Board
setting_g rate = clocked (with_time (2 ^ 64 - 1) 0 (fresh_clock_at rate))

-- the clock runs from host time, which is at the alarm
abbrev polling : ℕ → Board
polling rate =
    clocked (with_host (record { seconds = 9; nanoseconds = 0 }) (alarmed 9 (with_control 5 (fresh_clock_at rate))))

-- F, G and poll of a board of a rate: D of F, the cycles of a second, and the limit of poll
at_rate : ℕ → ℕ → ℕ → Bool
at_rate second d limit =
    -- F alarm 2, armed, alarm enable 1: D 96,000,000
    gives (exact_deadline (setting_f second)) d
    && not (line (advanced_board (d - 1) (setting_f second)))
    && line (advanced_board d (setting_f second))
    -- G seconds 2^64 − 1: 47,999,999 cycles leave that subsecond, 48,000,000 leave 0
    && eqb (advanced_board (second - 1) (setting_g second)).clock.subsecond (second - 1)
    && eqb (advanced_board (second - 1) (setting_g second)).clock.seconds (2 ^ 64 - 1)
    && eqb (advanced_board second (setting_g second)).clock.subsecond 0
    && eqb (advanced_board second (setting_g second)).clock.seconds (2 ^ 64 - 1)
    -- poll: the check at 48,000
    && not (line (advanced_board (limit - 1) (polling second)))
    && eqb (advanced_board (limit - 1) (polling second)).clock.poll (limit - 1)
    && line (advanced_board limit (polling second))
    -- and each call leaves the rate
    && eqb (advanced_board limit (polling second)).clock.rate second

abbrev setting_h : ℕ → IrqOutput
setting_h enable = output_of (record { pending = 0x0220; enable = enable; levels = 0 })

-- the board after an accepted write
abbrev written : ℕ → ℕ → Board → Board
written address v b = board_after (Write v address) b

-- the byte of an accepted read
abbrev read_byte : ℕ → Board → ℕ
read_byte address b = get_or (effect_of (Read address) b).members 0 0

-- byte i of the eight seconds bytes is i + 1
seconds : List ℕ → Board → Board
seconds [] b = b
seconds (i ∷ more) b = seconds more (written (cond (leb i 3) (0x08C + i) (0x084 + i)) (i + 1) b)

setting_i : Board
setting_i = seconds (7 ∷ 6 ∷ 5 ∷ 4 ∷ 3 ∷ 2 ∷ 1 ∷ []) (clocked (with_control 3 fresh_clock))

setting_j : Run
setting_j = run_of fresh_board [] 0

-- the low count's byte 0 is read, then its last byte is written
low_count : Board
low_count =
    written 0x28B 0xFF (board_after (Read 0x288) (running (with_counter 0x0102_0304_0506_0708 fresh_timer)))

-- mode 1 with its match behind it, and enable clear
abbrev resting : HardwareTimer
resting = timer_control 9 (with_counter 10 (with_compare 4 (with_reload 4 fresh_timer)))

-- the line is high, and the pending bit of source 3 that it latched is cleared
steady : Board
steady = board_after (ControllerWrite 8 1) (advanced_board 30 setting_a)

-- document 01's worked run
worked : Run
worked =
    run_of fresh_board
    (0x02 ∷ 0x00 ∷ 0x02 ∷ 0x00 ∷ 0x83 ∷ 0x04 ∷ 0x00 ∷ 0x08 ∷ 0x00 ∷ 0x00 ∷ 0x00 ∷ 0x00 ∷ 0x00 ∷ 0x00 ∷ 0x00 ∷ 0x01
    ∷ 0x0A ∷ 0x00 ∷ 0x00 ∷ 0xFF ∷ [])
    32_768

-- ---- the table

same : List ℕ → List ℕ → Bool
same [] [] = true
same [] (y ∷ ys) = false
same (x ∷ xs) [] = false
same (x ∷ xs) (y ∷ ys) = eqb x y && same xs ys

pub settings : Bool
settings =
    -- A mode 0, compare 10, prescaler 2: D 30, low at 29
    gives (exact_deadline setting_a) 30
    && not (line (advanced_board 29 setting_a))
    && line (advanced_board 30 setting_a)
    -- B mode 1, compare 10, reload 4, 19 ticks: compare 22
    && eqb (channel0 (advanced_board 19 setting_b)).compare 22
    -- C mode 1, counter 2^64 − 3, compare 2^64 − 2, 1 tick: reload 1 gives compare 2^64 − 1, reload 4 clears enable
    && eqb (channel0 (advanced_board 1 (setting_c 1))).compare (2 ^ 64 - 1)
    && enabled_of (channel0 (advanced_board 1 (setting_c 1))).control
    && not (enabled_of (channel0 (advanced_board 1 (setting_c 4))).control)
    -- D mode 2 armed, all zero: D 2^64; after 2^64 − 1 ticks low, one more high. A distance of 0 is not 0
    && gives (exact_deadline (running timer_d)) (2 ^ 64)
    && not (line (advanced_board (2 ^ 64 - 1) (running timer_d)))
    && line (advanced_board 1 (advanced_board (2 ^ 64 - 1) (running timer_d)))
    -- E the same, prescaler 2^32 − 1: D 2^96
    && gives (exact_deadline (running (with_prescaler (2 ^ 32 - 1) timer_d))) (2 ^ 96)
    -- S-2: a skip is accepted at D 2^64 − 1, passes that and ends with the line high; its answer has 12 bytes
    && gives (exact_deadline (away (2 ^ 64 - 1))) (2 ^ 64 - 1)
    && eqb (answer_of Skip (away (2 ^ 64 - 1))).refusal 0
    && line (answer_of Skip (away (2 ^ 64 - 1))).board
    && same (answer_of Skip (away (2 ^ 64 - 1))).members ((2 ^ 64 - 1) ∷ 1 ∷ [])
    && eqb (skipped (2 ^ 64 - 1) 12).outcome.calls 1
    && eqb (skipped (2 ^ 64 - 1) 11).outcome.refusal 11
    -- at D 2^64 it is refused with 13, in a run too, where 13 comes before 11, and nothing moves
    && eqb (answer_of Skip (away 0)).refusal 13
    && eqb (channel0 (answer_of Skip (away 0)).board).counter 0
    && same (answer_of Skip (away 0)).members []
    && eqb (skipped 0 12).outcome.refusal 13
    && eqb (skipped 0 11).outcome.refusal 13
    && eqb (skipped 0 12).outcome.calls 0
    && eqb (channel0 (skipped 0 12).outcome.board).counter 0
    -- S-4: the advance of setting B meets 3 compare points, the line being high after it; in parts of 9, 1 and 9 ticks
    -- they are 0, 1 and 2. A jump over 2^64 points counts 2^64. Refused, the line and the counts are 0
    && same (answer_of (advance_by 19) setting_b).members (1 ∷ 3 ∷ 0 ∷ 0 ∷ 0 ∷ [])
    && same (answer_of (advance_by 9) setting_b).members (0 ∷ 0 ∷ 0 ∷ 0 ∷ 0 ∷ [])
    && same (answer_of (advance_by 1) (advanced_board 9 setting_b)).members (1 ∷ 1 ∷ 0 ∷ 0 ∷ 0 ∷ [])
    && same (answer_of (advance_by 9) (advanced_board 1 (advanced_board 9 setting_b))).members
    (1 ∷ 2 ∷ 0 ∷ 0 ∷ 0 ∷ [])
    && same (answer_of (advance_by (2 ^ 64 - 1)) (running (with_reload 1 (in_mode 1)))).members
    (1 ∷ 2 ^ 64 ∷ 0 ∷ 0 ∷ 0 ∷ [])
    && same (answer_of (advance_by 1) unsound).members []
    -- F, G and poll at document 01's rate, and by S-7 at the two others
    && at_rate 48_000_000 96_000_000 48_000
    && at_rate 12_000_000 24_000_000 12_000
    && at_rate 1_000_000 2_000_000 1_000
    -- a board is made at the three, and another rate is refused with 15 and gives a fresh board
    && eqb (fresh_of 12_000_000).refusal 0
    && eqb (fresh_of 12_000_000).board.clock.rate 12_000_000
    && eqb (fresh_of 1_000_000).refusal 0
    && eqb (fresh_of 48_000_000).refusal 0
    && eqb (fresh_of 24_000_000).refusal 15
    && eqb (fresh_of 24_000_000).board.clock.rate 48_000_000
    -- a board that carries another rate is refused with 1, by a call and by a run, and comes back as it was
    && eqb (answer_of (advance_by 1) (fresh_board_at 24_000_000)).refusal 1
    && eqb (answer_of (advance_by 1) (fresh_board_at 24_000_000)).board.clock.rate 24_000_000
    && eqb (run_of (fresh_board_at 24_000_000) [] 0).outcome.refusal 1
    -- H pending bits 5 and 9, enable 0x0200: 9; 0x0220: 5
    && (setting_h 0x0200).valid
    && eqb (setting_h 0x0200).number.0 9
    && (setting_h 0x0220).valid
    && eqb (setting_h 0x0220).number.0 5
    -- I set enable on, seven distinct seconds bytes: no commit
    && eqb setting_i.clock.seconds 0
    && eqb (seconds (0 ∷ []) setting_i).clock.seconds 0x0102_0304_0506_0708
    -- J empty list: no calls, refusal 0
    && eqb setting_j.outcome.calls 0
    && eqb setting_j.outcome.refusal 0
    -- wrong: the low count latched
    && eqb (read_byte 0x28B low_count) 0xFF
    -- wrong: a disabled channel's compare moved, where the match disables it, and where it does not run
    && eqb (channel0 (advanced_board 1 (setting_c 4))).compare (2 ^ 64 - 2)
    && eqb (channel0 (advanced_board 7 (running resting))).compare 4
    -- wrong: pending from a steady level
    && source3 (advanced_board 30 setting_a)
    && line (advanced_board 1 steady)
    && not (source3 (advanced_board 1 steady))
    -- wrong: subsecond 1 kept when the clock is switched off
    && eqb (written 0x083 0 (clocked (with_time 0 1 fresh_clock))).clock.subsecond 0
    -- the worked run
    && eqb worked.outcome.calls 3
    && eqb worked.outcome.refusal 2
    && eqb worked.outcome.used 19
    && same worked.answers (2 ∷ 0 ∷ 1 ∷ 1 ∷ 4 ∷ 0 ∷ 65 ∷ replicate 65 0 ++ 10 ∷ 0 ∷ 2 ∷ 0 ∷ 0 ∷ [])

pub settings_hold : settings ≡ true
unfolding
    skipped at_rate seconds setting_i setting_j low_count steady worked gives same settings be_at be with_byte
    enabled_of
    irq_enabled_of disabled sound_timer line_of advanced points_met matches_in one_shot reloaded matched periodic
    distance
    free_running ticked_in ticked ticks_to_go deadline_of word_of control_written byte_written shifted own_nanoseconds
    time_of time_seconds alarm_reached check_alarm moved_time end_advance advance_clock sound_rate sound_offset
    sound_alarm
    sound_fields alarm_ahead sound_clock clock_deadline signed_difference set_time time_kept change_control
    write_control
    marked shadow_byte offset_for commit_seconds write_seconds time_nanoseconds with_bit without source_set output_of
    lowest_from controller_written pending_cleared map_from fold_from line exact_deadline wired sound_parts sound
    answer_of
    fresh_of moved_board advanced_board timer_word clock_word live_word read_live read_count_high read_channel
    seconds_latched
    read_low read_high read_at timer_written clock_written written_at address_refusal members_at frame_refusal
    members_bytes
    record_of call_of refusal_at result_of stepped run_on run_of
settings_hold = refl
