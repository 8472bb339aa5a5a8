-- Document 01, 'Registers and latches': what a byte written to a register of the clock does, and what it reads as.
use Rattle.std.specs.Prelude.{ℕ, ◌+◌, ◌-◌, ◌*◌, ◌/◌, ◌%◌, ◌^◌, Bool, true, false, cond, not, ◌&&◌, ltb, eqb}
use Rattle.wide.specs.Bits.{bit, flag_of}
use Rattle.wide.specs.Number.{largest}
use Rattle.wide.specs.Fields.{with_byte}
use Rattle.clock.specs.declared.Offset.{Offset}
use Rattle.clock.specs.declared.Alarm.{Alarm}
use Rattle.clock.specs.declared.Shadow.{Shadow}
use Rattle.clock.specs.declared.Clock.{Clock}
use Rattle.clock.specs.Fields.{with_control, with_time, with_offset, with_alarm, with_shadow, with_alarm_shadow}
use Rattle.clock.specs.Clock.{
  nanos_per_second,
  enabled,
  set_enabled,
  realtime,
  from_host,
  host_nanoseconds,
  time_of,
  check_alarm,
}

-- 'four bytes each, most significant first': a register's value with byte i written, as `merge_u32_byte` has it
abbrev pub merge_byte : ℕ → ℕ → ℕ → ℕ
merge_byte i v n = with_byte (3 - i) v n

-- 'the offset being the signed exact difference' a − b, as sign and magnitude; 0 is not negative
unfoldable pub signed_difference : ℕ → ℕ → Offset
signed_difference a b = record {
  negative = ltb a b;
  seconds = cond (ltb a b) (b - a) (a - b) / nanos_per_second;
  nanoseconds = cond (ltb a b) (b - a) (a - b) % nanos_per_second;
}

-- ---- control

-- the clock with seconds, subsecond and the shadow's value set
abbrev pub own_time_set : ℕ → ℕ → Clock → Clock
own_time_set s u k = with_shadow (record { value = s; mask = k.shadow.mask }) (with_time s u k)

-- the clock's own time is set to n nanoseconds, as by `set_internal_time_ns`
unfoldable pub set_time : ℕ → ℕ → Clock → Clock
set_time rate n k =
    cond (ltb largest (n / nanos_per_second))
    (own_time_set largest 0 k)
    (own_time_set (n / nanos_per_second) (n % nanos_per_second * rate / nanos_per_second) k)

-- the clock starts to run from host time: `new_enabled && new_realtime && (!old_enabled || !old_realtime)`
abbrev pub takes_host : ℕ → ℕ → Bool
takes_host new old = from_host new && not (from_host old)

-- seconds and subsecond are set: `old_enabled && !new_enabled`, or `new_enabled && !new_realtime && old_realtime`
abbrev pub takes_own : ℕ → ℕ → Bool
takes_own new old = cond (enabled new) (not (realtime new) && realtime old) (enabled old)

-- a change of control keeps the clock's time, in the offset or in seconds and subsecond
unfoldable pub time_kept : ℕ → ℕ → Clock → Clock
time_kept rate new k =
    cond (takes_host new k.control)
    (with_offset (signed_difference (time_of rate k) (host_nanoseconds k.host)) k)
    (cond (takes_own new k.control) (set_time rate (time_of rate k) k) k)

-- 'Control changes follow `write_rtc_control`'
unfoldable pub change_control : ℕ → ℕ → Clock → Clock
change_control rate new k = check_alarm rate (with_control new (time_kept rate new k))

-- byte i of the control register; the register keeps three bits
unfoldable pub write_control : ℕ → ℕ → ℕ → Clock → Clock
write_control rate i v k = change_control rate (merge_byte i v k.control % 8) k

-- ---- seconds and alarm

-- a mask with bit i set
unfoldable pub marked : ℕ → ℕ → ℕ
marked i m = cond (bit i m) m (m + 2 ^ i)

-- byte i of a shadow's eight is written
unfoldable pub shadow_byte : ℕ → ℕ → Shadow → Shadow
shadow_byte i v s = record { value = with_byte (7 - i) v s.value; mask = marked i s.mask }

-- 'both commit at the eighth distinct byte'
abbrev pub complete : Shadow → Bool
complete s = eqb s.mask 255

-- the shadow with no byte marked
abbrev pub unmarked : Shadow → Shadow
unmarked s = record { value = s.value; mask = 0 }

-- 'With the clock enabled and in realtime a committed seconds also sets offset = seconds × 10^9 − host.'
unfoldable pub offset_for : ℕ → Clock → Clock
offset_for s k =
    cond (from_host k.control)
    (with_offset (signed_difference (s * nanos_per_second) (host_nanoseconds k.host)) k)
    k

-- 'seconds zeroing subsecond, .. then the check'
unfoldable pub commit_seconds : ℕ → Shadow → Clock → Clock
commit_seconds rate s k =
    check_alarm rate (with_shadow (unmarked s) (with_time s.value 0 (offset_for s.value k)))

-- 'Clock seconds need set enable for each byte'
unfoldable pub write_seconds : ℕ → ℕ → ℕ → Clock → Clock
write_seconds rate i v k =
    cond (set_enabled k.control)
    (cond (complete (shadow_byte i v k.shadow))
    (commit_seconds rate (shadow_byte i v k.shadow) k)
    (with_shadow (shadow_byte i v k.shadow) k))
    k

-- 'alarm arming and clearing pending'
abbrev pub armed_at : ℕ → Alarm → Alarm
armed_at s a = record { enable = a.enable; seconds = s; pending = false; armed = true }

-- the alarm, 'then the check'
unfoldable pub commit_alarm : ℕ → Shadow → Clock → Clock
commit_alarm rate s k =
    check_alarm rate (with_alarm_shadow (unmarked s) (with_alarm (armed_at s.value k.alarm) k))

-- 'alarm bytes do not'
unfoldable pub write_alarm : ℕ → ℕ → ℕ → Clock → Clock
write_alarm rate i v k =
    cond (complete (shadow_byte i v k.alarm_shadow))
    (commit_alarm rate (shadow_byte i v k.alarm_shadow) k)
    (with_alarm_shadow (shadow_byte i v k.alarm_shadow) k)

-- ---- the alarm's interrupt

abbrev pub with_enable : ℕ → Alarm → Alarm
with_enable n a = record { enable = n; seconds = a.seconds; pending = a.pending; armed = a.armed }

-- byte i of RTC_IRQ_CTRL, which keeps one bit
unfoldable pub write_alarm_enable : ℕ → ℕ → Clock → Clock
write_alarm_enable i v k = with_alarm (with_enable (merge_byte i v k.alarm.enable % 2) k.alarm) k

abbrev pub cleared : Alarm → Alarm
cleared a = record { enable = a.enable; seconds = a.seconds; pending = false; armed = a.armed }

-- RTC_ACK: bit 0 of byte 3 clears the alarm's pending
unfoldable pub acknowledge : ℕ → ℕ → Clock → Clock
acknowledge i v k = cond (eqb i 3 && bit 0 v) (with_alarm (cleared k.alarm) k) k

-- ---- the words that the registers read as

-- RTC_STATUS
abbrev pub status_word : Alarm → ℕ
status_word a = flag_of a.pending + 2 * flag_of a.armed

-- RTC_SUBSEC: the nanoseconds of the time
unfoldable pub time_nanoseconds : ℕ → Clock → ℕ
time_nanoseconds rate k = time_of rate k % nanos_per_second
