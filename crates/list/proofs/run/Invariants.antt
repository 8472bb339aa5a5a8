-- The channels below i are advanced, and their counts stand in the buffer; the answers so far stand at the buffer's
-- start, and the run from here on is the run from the list's start.
use Rattle.std.proofs.Common.{◌-◌, length}
use Rattle.steps.specs.CodeSteps.{counts}
use Rattle.steps.proofs.Advances.{Advancing, Counted}
use Rattle.list.specs.Run.{nothing_done}
use Rattle.list.proofs.Runs.{Running, state_of}
use Rattle.list.proofs.run.Given as goal

abbrev pub invariant-loop-i : goal.invariant-loop-i
invariant-loop-i l =
    Advancing l.enable l.cycles.0 l.i l.initial.b l.b
    × Counted l.enable l.cycles.0 l.i (counts l.passing) l.done.written l.initial.b l.initial.answers l.answers

abbrev pub invariant-loop-done : goal.invariant-loop-done
invariant-loop-done l =
    Running l.list l.initial.answers (nothing_done l.initial.b 0) l.answers
    (state_of l.b l.done)

abbrev pub decreases-loop-done : goal.decreases-loop-done
decreases-loop-done l = length l.list - l.done.used
