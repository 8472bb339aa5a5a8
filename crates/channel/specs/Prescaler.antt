-- Document 01, 'Cycles become ticks'.
use Rattle.std.specs.Prelude.{ℕ, ◌+◌, ◌/◌, ◌%◌, Bool, cond, ◌&&◌}
use Rattle.channel.specs.declared.HardwareTimer.{HardwareTimer}
use Rattle.channel.specs.Channel.{enabled_of, divisor, with_phase}
use Rattle.channel.specs.Modes.{ticked}

-- 'For c cycles and divisor V = prescaler + 1, ticks t = floor((phase + c) / V), and phase becomes the remainder.'
abbrev pub ticks_of : ℕ → HardwareTimer → ℕ
ticks_of c h = (h.phase + c) / divisor h

abbrev pub phase_after : ℕ → HardwareTimer → ℕ
phase_after c h = (h.phase + c) % divisor h

-- 'A channel runs if enabled and its bit in timer enable is set': that bit is `selected`
abbrev pub runs : Bool → HardwareTimer → Bool
runs selected h = enabled_of h.control && selected

-- c cycles arrive at a channel. 'A channel that does not run is untouched by an advance, phase included.'
unfoldable pub advanced : Bool → ℕ → HardwareTimer → HardwareTimer
advanced selected c h = cond (runs selected h) (ticked (ticks_of c h) (with_phase (phase_after c h) h)) h
