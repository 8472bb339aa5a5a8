-- Previews computed from the rules: about deadlines, without one, with the line high, and refused. Assumes nothing.
use Prim.Native.Nat.{ℕ, ◌+◌, ◌-◌, ◌^◌}
use mathlib.Core.Path.{◌≡◌, refl}
use mathlib.Core.Bool.{false, true}
use mathlib.Core.List.{List, [], ◌∷◌}
use lib.ListN.{length, replicate}
use Rattle.channel.specs.declared.HardwareTimer.{HardwareTimer}
use Rattle.channel.specs.Channel.{
  fresh_timer,
  enabled_of,
  irq_enabled_of,
  disabled,
  sound_timer,
  line_of,
  with_control as timer_control,
  with_compare,
  with_prescaler,
  with_flags,
}
use Rattle.channel.specs.Prescaler.{advanced}
use Rattle.channel.specs.Modes.{one_shot, distance, free_running, ticked_in, ticked}
use Rattle.clock.specs.Fields.{fresh_clock_at, fresh_clock, with_control, with_alarm}
use Rattle.clock.specs.Clock.{
  shifted,
  own_nanoseconds,
  time_of,
  time_seconds,
  alarm_reached,
  check_alarm,
  moved_time,
  end_advance,
  advance_clock,
}
use Rattle.clock.specs.Sound.{sound_rate, sound_offset, sound_alarm, sound_fields, alarm_ahead, sound_clock}
use Rattle.controller.specs.Bits.{with_bit}
use Rattle.controller.specs.Controller.{source_set}
use Rattle.board.specs.declared.Board.{Board}
use Rattle.board.specs.Loops.{map_from, fold_from}
use Rattle.board.specs.Fields.{fresh_board, with_timers, with_timer_enable, with_clock}
use Rattle.board.specs.Board.{line, wired, sound_parts, sound}
use Rattle.board.specs.Calls.{moved_board, advanced_board}
use Rattle.preview.specs.Preview.{preview_refusal, preview_of, previewed_buffer}

-- ---- boards

-- channel 0 alone runs, in a mode, with its interrupt enabled
abbrev running : HardwareTimer → Board
running h = with_timer_enable 1 (with_timers (h ∷ fresh_timer ∷ fresh_timer ∷ fresh_timer ∷ []) fresh_board)

abbrev in_mode : ℕ → HardwareTimer
in_mode mode = timer_control (12 + mode) fresh_timer

-- document 01's setting A: D is 30
abbrev setting_a : Board
setting_a = running (with_compare 10 (with_prescaler 2 (in_mode 0)))

-- a free-running channel with a compare: so many cycles away, and 2^64, as in setting D, where it is 0
abbrev away : ℕ → Board
away compare = running (with_compare compare (with_flags false true (in_mode 2)))

-- setting F of a rate: D is 96,000,000 at document 01's
abbrev setting_f : ℕ → Board
setting_f rate =
    with_clock (with_alarm (record { enable = 1; seconds = 2; pending = false; armed = true }) (fresh_clock_at rate))
    fresh_board

-- the clock's control: 5 is enabled and in realtime, 4 in realtime alone
abbrev controlled : ℕ → Board → Board
controlled control b = with_clock (with_control control fresh_clock) b

-- a channel's control is past its four bits
abbrev unsound : Board
unsound = running (timer_control 16 fresh_timer)

-- ---- the rows

-- the refusal, and behind it what a buffer of so many bytes, each 7, then holds
abbrev shown : Board → List ℕ → ℕ → List ℕ
shown b totals room =
    (preview_of b (length totals) room).refusal ∷ previewed_buffer b totals (replicate room 7)

pub rows :
    -- at D and about it, in any order and with repeats; the bytes behind the totals' stay
    (shown setting_a (30 ∷ 29 ∷ 0 ∷ 31 ∷ (2 ^ 64 - 1) ∷ 29 ∷ 30 ∷ []) 9 ≡ 0 ∷ 1 ∷ 0 ∷ 0 ∷ 1 ∷ 1 ∷ 0 ∷ 1 ∷ 7 ∷ 7 ∷ [])
    × (shown (setting_f 48_000_000) (96_000_000 ∷ 95_999_999 ∷ []) 2 ≡ 0 ∷ 1 ∷ 0 ∷ [])
    × (shown (setting_f 12_000_000) (24_000_000 ∷ 23_999_999 ∷ []) 2 ≡ 0 ∷ 1 ∷ 0 ∷ [])
    × (shown (setting_f 1_000_000) (2_000_000 ∷ 1_999_999 ∷ []) 2 ≡ 0 ∷ 1 ∷ 0 ∷ [])
    -- a D of 2^64 − 1 is the largest that a total reaches
    × (shown (away (2 ^ 64 - 1)) ((2 ^ 64 - 1) ∷ (2 ^ 64 - 2) ∷ []) 2 ≡ 0 ∷ 1 ∷ 0 ∷ [])
    × (shown (away 0) ((2 ^ 64 - 1) ∷ 0 ∷ []) 2 ≡ 0 ∷ 0 ∷ 0 ∷ [])
    -- without a D; and with the line high
    × (shown fresh_board (0 ∷ 1 ∷ (2 ^ 64 - 1) ∷ []) 3 ≡ 0 ∷ 0 ∷ 0 ∷ 0 ∷ [])
    × (shown (advanced_board 30 setting_a) (0 ∷ 1 ∷ (2 ^ 64 - 1) ∷ []) 3 ≡ 0 ∷ 1 ∷ 1 ∷ 1 ∷ [])
    -- no totals, with room and without
    × (shown setting_a [] 2 ≡ 0 ∷ 7 ∷ 7 ∷ [])
    × (shown setting_a [] 0 ≡ 0 ∷ [])
    -- refused by 11, 14 and 1, each ahead of the one before it; by 14 only where the clock is enabled too
    × (shown setting_a (30 ∷ 30 ∷ 30 ∷ []) 2 ≡ 11 ∷ 7 ∷ 7 ∷ [])
    × (shown (controlled 5 setting_a) (30 ∷ 30 ∷ []) 2 ≡ 14 ∷ 7 ∷ 7 ∷ [])
    × (shown (controlled 5 setting_a) (30 ∷ 30 ∷ 30 ∷ []) 2 ≡ 14 ∷ 7 ∷ 7 ∷ [])
    × (shown (controlled 5 setting_a) [] 0 ≡ 14 ∷ [])
    × (shown (controlled 5 unsound) (30 ∷ 30 ∷ 30 ∷ []) 2 ≡ 1 ∷ 7 ∷ 7 ∷ [])
    × (shown (controlled 4 setting_a) (30 ∷ 29 ∷ []) 2 ≡ 0 ∷ 1 ∷ 0 ∷ [])
unfolding
    enabled_of irq_enabled_of disabled sound_timer line_of advanced one_shot distance free_running ticked_in ticked
    shifted
    own_nanoseconds time_of time_seconds alarm_reached check_alarm moved_time end_advance advance_clock sound_rate
    sound_offset
    sound_alarm sound_fields alarm_ahead sound_clock with_bit source_set map_from fold_from line wired sound_parts sound
    moved_board advanced_board preview_refusal preview_of previewed_buffer
rows = (refl, refl, refl, refl, refl, refl, refl, refl, refl, refl, refl, refl, refl, refl, refl, refl)
