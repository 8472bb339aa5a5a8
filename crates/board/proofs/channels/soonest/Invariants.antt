-- `channels::soonest` meets its contract. Assumes nothing.
use mathlib.Core.Option.{none}
use Rattle.wide.specs.Bits.{bit}
use Rattle.wide.specs.Deadline.{number_of, sooner}
use Rattle.channel.specs.Deadline.{deadline_of}
use Rattle.board.proofs.Loops.{Joined}
use Rattle.board.proofs.channels.soonest.Given as goal

abbrev pub invariant-loop-i : goal.invariant-loop-i
invariant-loop-i l =
    Joined (λ k h. deadline_of (bit k l.timer_enable) h) sooner none l.timers l.i (number_of l.soonest)
