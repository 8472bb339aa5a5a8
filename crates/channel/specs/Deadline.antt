-- Document 01, 'The line, source 3 and the deadline': the deadline of one channel.
use Rattle.std.specs.Prelude.{ℕ, zero, suc, ◌+◌, ◌-◌, ◌*◌, Bool, cond, not, ◌&&◌, nat_lt}
use Rattle.std.proofs.Math.Option.{Option, none, some}
use Rattle.std.specs.declared.option.Option as code
use Rattle.std.specs.declared.option.Option.TheVariants.{None, Some}
use Rattle.channel.specs.declared.HardwareTimer.{HardwareTimer}
use Rattle.channel.specs.declared.Ticks.{Ticks}
use Rattle.channel.specs.Channel.{mode_of, irq_enabled_of, divisor}
use Rattle.channel.specs.Modes.{distance}
use Rattle.channel.specs.Prescaler.{runs}

-- 'compare − counter if positive, else 1'
abbrev pub ticks_up : ℕ → ℕ → ℕ
ticks_up counter compare = cond (nat_lt counter compare) (compare - counter) 1

-- 'N ticks to go: modes 0 and 1, compare − counter if positive, else 1; mode 2 if armed, the distance; else none.'
unfoldable pub ticks_to_go : ℕ → ℕ → ℕ → Bool → Option ℕ
ticks_to_go zero counter compare armed = some (ticks_up counter compare)
ticks_to_go (suc zero) counter compare armed = some (ticks_up counter compare)
ticks_to_go (suc (suc zero)) counter compare armed = cond armed (some (distance counter compare)) none
ticks_to_go (suc (suc (suc mode))) counter compare armed = none

-- 'Its deadline is V − phase + (N − 1) × V.'
abbrev pub in_cycles : ℕ → ℕ → Option ℕ → Option ℕ
in_cycles v phase none = none
in_cycles v phase (some n) = some (v - phase + (n - 1) * v)

-- 'A running channel with interrupt enable, not pending'
abbrev pub waiting : Bool → HardwareTimer → Bool
waiting selected h = runs selected h && irq_enabled_of h.control && not h.pending

-- document 01's term deadline, of one channel
unfoldable pub deadline_of : Bool → HardwareTimer → Option ℕ
deadline_of selected h =
    cond (waiting selected h)
    (in_cycles (divisor h) h.phase (ticks_to_go (mode_of h.control) h.counter h.compare h.armed))
    none

-- the code's ticks to go as an optional number: it holds one less than the number, which can be 2^64, as no word can
abbrev pub to_go_of : code.Option Ticks → Option ℕ
to_go_of None = none
to_go_of (Some n) = some (n.0 + 1)
