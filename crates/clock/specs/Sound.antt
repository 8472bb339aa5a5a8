-- Document 01, 'An advance arrives at the board': the clock's clauses of a sound board. Sound is document 01's term.
use Rattle.std.specs.Prelude.{ℕ, ◌^◌, ◌<◌, ◌≡◌, Bool, true, not, ◌&&◌, ◌||◌, ltb, eqb}
use Rattle.clock.specs.declared.Offset.{Offset}
use Rattle.clock.specs.declared.Alarm.{Alarm}
use Rattle.clock.specs.declared.Shadow.{Shadow}
use Rattle.clock.specs.declared.HostTime.{HostTime}
use Rattle.clock.specs.declared.Clock.{Clock}
use Rattle.clock.specs.Fields.{fresh_rate}
use Rattle.clock.specs.Clock.{rate_of, nanos_per_second, poll_limit, own_time}

-- S-7: 'Two clients have boards at 1,000,000 and 12,000,000 cycles a second. A fresh board takes its rate, one of these
-- or 48,000,000', and 'a record carrying a rate outside the three is 1'
unfoldable pub sound_rate : ℕ → Bool
sound_rate rate = eqb rate 1_000_000 || (eqb rate 12_000_000 || eqb rate fresh_rate)

-- 'every nanosecond field < 1,000,000,000; no negative zero offset'
unfoldable pub sound_offset : Offset → Bool
sound_offset o =
    ltb o.nanoseconds nanos_per_second && not (o.negative && (eqb o.seconds 0 && eqb o.nanoseconds 0))

-- 'alarm enable < 2; .. alarm pending and armed are not both set'
unfoldable pub sound_alarm : Alarm → Bool
sound_alarm a = ltb a.enable 2 && not (a.pending && a.armed)

-- 'masks < 255'
abbrev pub sound_shadow : Shadow → Bool
sound_shadow s = ltb s.mask 255

abbrev pub sound_host : HostTime → Bool
sound_host h = ltb h.nanoseconds nanos_per_second

-- 'clock control < 8; .. subsecond < F; .. poll < 48,000', and the clauses above
unfoldable pub sound_fields : ℕ → Clock → Bool
sound_fields rate k =
    ltb k.control 8
    && (ltb k.subsecond rate
    && (sound_offset k.offset
    && (sound_alarm k.alarm
    && (sound_shadow k.shadow
    && (ltb k.poll (poll_limit rate) && (sound_shadow k.alarm_shadow && sound_host k.host))))))

-- 'an armed alarm with the clock enabled and not realtime has seconds < alarm'
unfoldable pub alarm_ahead : Clock → Bool
alarm_ahead k = not (k.alarm.armed && own_time k.control) || ltb k.seconds k.alarm.seconds

unfoldable pub sound_clock : ℕ → Clock → Bool
sound_clock rate k = sound_fields rate k && alarm_ahead k

-- each field is within its width, as the code's types have it; soundness bounds the other fields
pub record ClockFits (k : Clock) : Type 0 where
  pub seconds : k.seconds < 2 ^ 64
  pub offset : k.offset.seconds < 2 ^ 64
  pub alarm : k.alarm.seconds < 2 ^ 64
  pub shadow : k.shadow.value < 2 ^ 64
  pub alarm_shadow : k.alarm_shadow.value < 2 ^ 64
  pub host : k.host.seconds < 2 ^ 64

-- what reading the time needs of a clock: that the rate is its own, and four clauses of a sound board
pub record Timed (rate : ℕ) (k : Clock) : Type 0 where
  pub own : rate_of k ≡ rate
  pub known : sound_rate rate ≡ true
  pub subsecond : k.subsecond < rate
  pub offset : k.offset.nanoseconds < nanos_per_second
  pub host : k.host.nanoseconds < nanos_per_second
