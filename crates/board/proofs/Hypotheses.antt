-- What the hypotheses of the deadline's promise shut out: boards outside them, with the deadline that the rules would
-- give and what then comes of it. One table, computed. Assumes nothing.
use Prim.Native.Nat.{ℕ}
use mathlib.Core.Path.{◌≡◌, refl}
use mathlib.Core.Bool.{Bool, true, false, not, ◌&&◌}
use mathlib.Core.Option.{Option, none, some}
use mathlib.Core.List.{[], ◌∷◌}
use lib.Dec.{eqb}
use Rattle.channel.specs.declared.HardwareTimer.{HardwareTimer}
use Rattle.channel.specs.Channel.{
  fresh_timer,
  enabled_of,
  irq_enabled_of,
  disabled,
  sound_timer,
  line_of,
  with_control as timer_control,
  with_compare,
  with_prescaler,
  with_phase,
}
use Rattle.channel.specs.Prescaler.{advanced}
use Rattle.channel.specs.Modes.{ticked, ticked_in, one_shot}
use Rattle.channel.specs.Deadline.{ticks_to_go, deadline_of}
use Rattle.clock.specs.declared.Clock.{Clock}
use Rattle.clock.specs.Clock.{
  shifted,
  own_nanoseconds,
  time_of,
  time_seconds,
  alarm_reached,
  check_alarm,
  moved_time,
  end_advance,
  advance_clock,
}
use Rattle.clock.specs.Fields.{fresh_clock, with_control, with_alarm}
use Rattle.clock.specs.Sound.{sound_rate, sound_offset, sound_alarm, sound_fields, alarm_ahead, sound_clock}
use Rattle.clock.specs.Deadline.{clock_deadline}
use Rattle.controller.specs.Bits.{with_bit}
use Rattle.controller.specs.Controller.{source_set}
use Rattle.board.specs.declared.Board.{Board}
use Rattle.board.specs.declared.calls.Call.{Call}
use Rattle.board.specs.Loops.{map_from, fold_from}
use Rattle.board.specs.Fields.{fresh_board, with_timers, with_timer_enable, with_clock, with_controller}
use Rattle.board.specs.Board.{line, exact_deadline, wired, sound_parts, sound}
use Rattle.board.specs.Calls.{advance_by, host_time_to, host_time_refusal, moved_board, advanced_board, answer_of}
use Rattle.board.specs.Demand.{after, after_all, source3}

-- channel 0 alone runs
abbrev running : HardwareTimer → Board
running h = with_timer_enable 1 (with_timers (h ∷ fresh_timer ∷ fresh_timer ∷ fresh_timer ∷ []) fresh_board)

-- an armed alarm at some seconds, with its interrupt enabled
abbrev alarmed : ℕ → Clock → Clock
alarmed n k = with_alarm (record { enable = 1; seconds = n; pending = false; armed = true }) k

abbrev gives : Option ℕ → ℕ → Bool
gives none n = false
gives (some d) n = eqb d n

abbrev is_none : Option ℕ → Bool
is_none none = true
is_none (some d) = false

-- mode 0, compare 10, prescaler 2: deadline 30
abbrev counting : HardwareTimer
counting = timer_control 12 (with_compare 10 (with_prescaler 2 fresh_timer))

-- an armed alarm that is past: D is 1, and an advance of 0 already sets it
abbrev past : Board
past = with_clock (alarmed 0 fresh_clock) fresh_board

-- the level of source 3 high while the line is low: the rise is not seen
abbrev steady : Board
steady = with_controller (record { pending = 0; enable = 0; levels = 8 }) (running counting)

-- a phase at the divisor: D is 0, and the line is low
abbrev early : Board
early = running (with_phase 3 (with_compare 1 counting))

-- the clock runs from host time: no D, and the line rises after a host time and 48,000 cycles
abbrev hosted : Board
hosted = with_clock (alarmed 9 (with_control 5 fresh_clock)) fresh_board

abbrev nine : Call
nine = host_time_to (record { seconds = 9; nanoseconds = 0 })

pub shut_out :
    (not (sound past) && gives (exact_deadline past) 1 && line (advanced_board 0 past)
    && (not (sound steady) && line (advanced_board 30 steady) && not (source3 (advanced_board 30 steady)))
    && (not (sound early) && gives (exact_deadline early) 0 && not (line early))
    && (sound hosted && is_none (exact_deadline hosted))
    && (line (after_all (nine ∷ advance_by 48_000 ∷ []) hosted)
    && not (line (after_all (nine ∷ advance_by 47_999 ∷ []) hosted))))
    ≡ true
unfolding
    enabled_of irq_enabled_of disabled sound_timer line_of advanced ticked ticked_in one_shot ticks_to_go deadline_of
    shifted
    own_nanoseconds time_of time_seconds alarm_reached check_alarm moved_time end_advance advance_clock sound_rate
    sound_offset
    sound_alarm sound_fields
    alarm_ahead sound_clock clock_deadline with_bit source_set map_from fold_from line exact_deadline wired
    sound_parts sound
    moved_board advanced_board
    host_time_refusal answer_of after after_all
shut_out = refl
