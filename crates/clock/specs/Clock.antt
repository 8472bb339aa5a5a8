-- Document 01, 'The clock': its time, the alarm check and an advance. The rate is the number of cycles of a second.
use Rattle.std.specs.Prelude.{ℕ, ◌+◌, ◌-◌, ◌*◌, ◌/◌, ◌%◌, min, Bool, true, false, cond, not, ◌&&◌, leb, ltb}
use Rattle.wide.specs.Bits.{bit}
use Rattle.wide.specs.Number.{largest}
use Rattle.clock.specs.declared.Offset.{Offset}
use Rattle.clock.specs.declared.Alarm.{Alarm}
use Rattle.clock.specs.declared.HostTime.{HostTime}
use Rattle.clock.specs.declared.Clock.{Clock}
use Rattle.clock.specs.Fields.{with_time, with_alarm, with_poll}

-- S-7: 'Document 01's F is the board's rate': this clock's cycles a second
abbrev pub rate_of : Clock → ℕ
rate_of k = k.rate

-- nanoseconds of a second
abbrev pub nanos_per_second : ℕ
nanos_per_second = 1_000_000_000

-- S-7: 'and its 48,000 a thousandth of it': the limit of poll at a rate
abbrev pub poll_limit : ℕ → ℕ
poll_limit rate = rate / 1_000

-- 'Control: bit 0 enable, 1 set enable, 2 realtime.'
abbrev pub enabled : ℕ → Bool
enabled control = bit 0 control

abbrev pub set_enabled : ℕ → Bool
set_enabled control = bit 1 control

abbrev pub realtime : ℕ → Bool
realtime control = bit 2 control

-- 'enabled and realtime (the clock then runs from host time)'
abbrev pub from_host : ℕ → Bool
from_host control = enabled control && realtime control

-- 'enabled, not realtime'
abbrev pub own_time : ℕ → Bool
own_time control = enabled control && not (realtime control)

-- a time of s seconds and n nanoseconds, in nanoseconds
abbrev pub in_nanoseconds : ℕ → ℕ → ℕ
in_nanoseconds s n = s * nanos_per_second + n

abbrev pub host_nanoseconds : HostTime → ℕ
host_nanoseconds h = in_nanoseconds h.seconds h.nanoseconds

-- 'max(0, host + offset)', the offset being sign and magnitude
unfoldable pub shifted : HostTime → Offset → ℕ
shifted h o =
    cond o.negative
    (host_nanoseconds h - in_nanoseconds o.seconds o.nanoseconds)
    (host_nanoseconds h + in_nanoseconds o.seconds o.nanoseconds)

-- 'seconds × 10^9 + floor(subsecond × 10^9 / F)'
unfoldable pub own_nanoseconds : ℕ → Clock → ℕ
own_nanoseconds rate k = in_nanoseconds k.seconds (k.subsecond * nanos_per_second / rate)

-- 'Time in nanoseconds is max(0, host + offset) if enabled and realtime .., else' the clock's own
unfoldable pub time_of : ℕ → Clock → ℕ
time_of rate k = cond (from_host k.control) (shifted k.host k.offset) (own_nanoseconds rate k)

-- 'its seconds are capped at 2^64 − 1'
unfoldable pub time_seconds : ℕ → Clock → ℕ
time_seconds rate k = min (time_of rate k / nanos_per_second) largest

-- 'pending is set and armed cleared'
abbrev pub fired : Alarm → Alarm
fired a = record { enable = a.enable; seconds = a.seconds; pending = true; armed = false }

-- 'The alarm check: clock enabled, armed, not pending, time's seconds ≥ alarm'
unfoldable pub alarm_reached : ℕ → Clock → Bool
alarm_reached rate k =
    enabled k.control
    && (k.alarm.armed && (not k.alarm.pending && leb k.alarm.seconds (time_seconds rate k)))

-- 'then pending is set and armed cleared'
unfoldable pub check_alarm : ℕ → Clock → Clock
check_alarm rate k = cond (alarm_reached rate k) (with_alarm (fired k.alarm) k) k

-- 'if e > 2^64 − 1 − seconds, seconds = 2^64 − 1 and subsecond = 0; else seconds + e and the remainder', u
abbrev pub passed : ℕ → ℕ → Clock → Clock
passed e u k = cond (ltb (largest - k.seconds) e) (with_time largest 0 k) (with_time (k.seconds + e) u k)

-- 'Enabled, not realtime, c > 0: e = floor((subsecond + c) / F)'
unfoldable pub moved_time : ℕ → ℕ → Clock → Clock
moved_time rate c k =
    cond (own_time k.control && ltb 0 c)
    (passed ((k.subsecond + c) / rate) ((k.subsecond + c) % rate) k)
    k

-- 'at 48,000 or more poll is the remainder by 48,000 and the check is made, else poll is the sum without a check'
abbrev pub polled : ℕ → ℕ → Clock → Clock
polled rate n k =
    cond (leb (poll_limit rate) n) (check_alarm rate (with_poll (n % poll_limit rate) k)) (with_poll n k)

-- 'Exception: enabled, realtime, armed, not pending, c > 0.'
abbrev pub polls : ℕ → Clock → Bool
polls c k = from_host k.control && (k.alarm.armed && (not k.alarm.pending && ltb 0 c))

-- 'An advance ends with it, and poll = 0.', or with the exception
unfoldable pub end_advance : ℕ → ℕ → Clock → Clock
end_advance rate c k = cond (polls c k) (polled rate (k.poll + c) k) (check_alarm rate (with_poll 0 k))

-- an advance of c cycles
unfoldable pub advance_clock : ℕ → ℕ → Clock → Clock
advance_clock rate c k = end_advance rate c (moved_time rate c k)
