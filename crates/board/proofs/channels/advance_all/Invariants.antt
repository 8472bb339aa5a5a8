-- `channels::advance_all` meets its contract. The loop has advanced the channels below i. Assumes nothing.
use Prim.Native.Nat.{ℕ}
use mathlib.Core.Path.{◌≡◌}
use Rattle.wide.specs.declared.number.Wide.{Wide}
use Rattle.wide.specs.Bits.{bit}
use Rattle.wide.specs.Number.{wide_of}
use Rattle.channel.specs.declared.HardwareTimer.{HardwareTimer}
use Rattle.channel.specs.Prescaler.{advanced}
use Rattle.channel.specs.Matches.{matches_of}
use Rattle.board.proofs.Loops.{map_to, given_to}
use Rattle.board.proofs.channels.advance_all.Given as goal

-- what becomes of a channel, and what it meets
abbrev pub after : ℕ → ℕ → ℕ → HardwareTimer → HardwareTimer
after enable c k h = advanced (bit k enable) c h

abbrev pub meets : ℕ → ℕ → ℕ → HardwareTimer → Wide
meets enable c k h = wide_of (matches_of (bit k enable) c h)

abbrev pub invariant-loop-i : goal.invariant-loop-i
invariant-loop-i l = record {
  timers : l.out ≡ map_to (after l.timer_enable l.cycles.0) l.i 0 l.initial.out;
  matches : l.matches ≡ given_to (meets l.timer_enable l.cycles.0) (wide_of 0) l.i 0 l.initial.out;
}
