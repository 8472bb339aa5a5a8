-- Settings of document 01 that are the clock's, and readings that it calls wrong, by one computation. Assumes nothing.
use Prim.Native.Nat.{ℕ, ◌+◌, ◌-◌, ◌^◌}
use mathlib.Core.Path.{◌≡◌, refl}
use mathlib.Core.Bool.{Bool, true, false, not, ◌&&◌}
use mathlib.Core.List.{List, [], ◌∷◌}
use mathlib.Core.Option.{Option, none, some}
use lib.Dec.{eqb}
use Rattle.wide.specs.Fields.{with_byte}
use Rattle.clock.specs.declared.Clock.{Clock}
use Rattle.clock.specs.Clock.{
  rate_of,
  shifted,
  own_nanoseconds,
  time_of,
  time_seconds,
  alarm_reached,
  check_alarm,
  moved_time,
  end_advance,
  advance_clock,
}
use Rattle.clock.specs.Deadline.{clock_line, clock_deadline}
use Rattle.clock.specs.Fields.{with_control, with_time, with_alarm, with_host, fresh_clock_at, fresh_clock}
use Rattle.clock.specs.Sound.{sound_rate}
use Rattle.clock.specs.Registers.{
  signed_difference,
  set_time,
  time_kept,
  change_control,
  write_control,
  marked,
  shadow_byte,
  offset_for,
  commit_seconds,
  write_seconds,
  commit_alarm,
  write_alarm,
  time_nanoseconds,
}

-- an armed alarm, enabled
with_armed : ℕ → Clock → Clock
with_armed s k = with_alarm (record { enable = 1; seconds = s; pending = false; armed = true }) k

is_some : Option ℕ → ℕ → Bool
is_some none n = false
is_some (some d) n = eqb d n

-- bytes i + 1 of seconds written at each index i of a list, and zero bytes of the alarm
seconds_bytes : List ℕ → Clock → Clock
seconds_bytes [] k = k
seconds_bytes (i ∷ l) k = seconds_bytes l (write_seconds (rate_of k) i (i + 1) k)

alarm_bytes : List ℕ → Clock → Clock
alarm_bytes [] k = k
alarm_bytes (i ∷ l) k = alarm_bytes l (write_alarm (rate_of k) i 0 k)

-- F: alarm 2, armed, alarm enable 1: D 96,000,000, of a clock of a rate
f : ℕ → Clock
f rate = with_armed 2 (fresh_clock_at rate)

-- G: seconds 2^64 − 1
g : ℕ → Clock
g rate = with_time (2 ^ 64 - 1) 0 (fresh_clock_at rate)

-- I: set enable on, seven distinct seconds bytes
seven : Clock
seven = seconds_bytes (7 ∷ 6 ∷ 5 ∷ 4 ∷ 3 ∷ 2 ∷ 1 ∷ []) (with_control 3 fresh_clock)

-- host time 9 s, and an alarm then
nine : ℕ → Clock
nine rate = with_host (record { seconds = 9; nanoseconds = 0 }) (with_armed 9 (with_control 5 (fresh_clock_at rate)))

-- host time 3 s and 1 ns on a clock at 0, then taken up
ahead : Clock
ahead = write_control (rate_of fresh_clock) 3 5 (with_host (record { seconds = 3; nanoseconds = 1 }) fresh_clock)

after : ℕ → Clock → Clock
after c k = advance_clock (rate_of k) c k

-- F, G and the alarm on host time at a rate: D of F, the cycles of a second, and the limit of poll
rates_row : ℕ → ℕ → ℕ → Bool
rates_row second d limit =
    sound_rate second
    && (is_some (clock_deadline (rate_of (f second)) (f second)) d
    && not (clock_line (after (d - 1) (f second)))
    && clock_line (after d (f second)))
    && (eqb (after (second - 1) (g second)).subsecond (second - 1)
    && eqb (after second (g second)).subsecond 0
    && eqb (after second (g second)).seconds (2 ^ 64 - 1))
    && (not (after (limit - 1) (nine second)).alarm.pending
    && eqb (after (limit - 1) (nine second)).poll (limit - 1)
    && (after limit (nine second)).alarm.pending
    && eqb (after (limit + 1) (nine second)).poll 1)

settings : Bool
settings =
    rates_row 48_000_000 96_000_000 48_000
    && rates_row 12_000_000 24_000_000 12_000
    && rates_row 1_000_000 2_000_000 1_000
    && (not (sound_rate 0) && not (sound_rate 999_999) && not (sound_rate 24_000_000) && not (sound_rate 48_000_001))
    && (eqb seven.seconds 0
    && eqb seven.shadow.mask 254
    && eqb (seconds_bytes (1 ∷ []) seven).seconds 0
    && eqb (seconds_bytes (0 ∷ []) seven).seconds 0x0102_0304_0506_0708
    && eqb (seconds_bytes (0 ∷ []) seven).shadow.mask 0
    && eqb (seconds_bytes (0 ∷ []) fresh_clock).shadow.mask 0)
    && (not (alarm_bytes (0 ∷ 1 ∷ 2 ∷ 3 ∷ 4 ∷ 5 ∷ 6 ∷ []) fresh_clock).alarm.pending
    && (alarm_bytes (0 ∷ 1 ∷ 2 ∷ 3 ∷ 4 ∷ 5 ∷ 6 ∷ 7 ∷ []) fresh_clock).alarm.pending)
    -- subsecond 1 is lost when the clock is switched off: 20 ns are no whole cycle
    && (eqb (time_nanoseconds (rate_of fresh_clock) (with_time 0 1 fresh_clock)) 20
    && eqb (write_control (rate_of fresh_clock) 3 0 (with_time 0 1 fresh_clock)).subsecond 0
    && eqb (write_control (rate_of fresh_clock) 2 0 (with_time 0 1 fresh_clock)).subsecond 1)
    -- at 1,000,000 it is kept: 1,000 ns are a whole cycle
    && (eqb (time_nanoseconds 1_000_000 (with_time 0 1 (fresh_clock_at 1_000_000))) 1_000
    && eqb (write_control 1_000_000 3 0 (with_time 0 1 (fresh_clock_at 1_000_000))).subsecond 1)
    && (ahead.offset.negative
    && eqb ahead.offset.seconds 3
    && eqb ahead.offset.nanoseconds 1
    && eqb (time_of (rate_of ahead) ahead) 0
    && not (signed_difference 5 5).negative)

settings_hold : settings ≡ true
unfolding settings rates_row after with_armed is_some seconds_bytes alarm_bytes f g seven nine ahead sound_rate
    with_byte
    shifted own_nanoseconds time_of time_seconds alarm_reached check_alarm moved_time end_advance advance_clock
    clock_deadline
    signed_difference set_time time_kept change_control write_control marked shadow_byte offset_for commit_seconds
    write_seconds commit_alarm write_alarm time_nanoseconds
settings_hold = refl
