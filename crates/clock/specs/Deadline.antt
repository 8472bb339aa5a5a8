-- Document 01, 'The line, source 3 and the deadline': the line and the deadline of the clock. Line and deadline are
-- document 01's terms.
use Rattle.std.specs.Prelude.{ℕ, ◌-◌, ◌*◌, Bool, cond, not, ◌&&◌, leb}
use Rattle.std.proofs.Math.Option.{Option, none, some}
use Rattle.wide.specs.Bits.{bit}
use Rattle.clock.specs.declared.Clock.{Clock}
use Rattle.clock.specs.Clock.{own_time}

-- 'the alarm is pending and enabled'
abbrev pub clock_line : Clock → Bool
clock_line k = k.alarm.pending && bit 0 k.alarm.enable

-- 'The clock, enabled, not realtime, alarm enabled, armed, not pending'
abbrev pub awaited : Clock → Bool
awaited k =
    own_time k.control && (bit 0 k.alarm.enable && (k.alarm.armed && not k.alarm.pending))

-- '(alarm − seconds) × F − subsecond'
abbrev pub to_alarm : ℕ → Clock → ℕ
to_alarm rate k = (k.alarm.seconds - k.seconds) * rate - k.subsecond

-- that, 'or 1 where alarm ≤ seconds'
abbrev pub alarm_cycles : ℕ → Clock → ℕ
alarm_cycles rate k = cond (leb k.alarm.seconds k.seconds) 1 (to_alarm rate k)

-- a clock whose alarm is so awaited 'has' it; another clock has none
unfoldable pub clock_deadline : ℕ → Clock → Option ℕ
clock_deadline rate k = cond (awaited k) (some (alarm_cycles rate k)) none
