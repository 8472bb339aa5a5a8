-- `repeated` meets its contract. Assumes nothing.
use Rattle.list.specs.Run.{outcome_of}
use Rattle.pec.proofs.Runs.{Repeating}
use Rattle.pec.proofs.repeated.Given as goal

abbrev pub invariant-loop : goal.invariant-loop
invariant-loop l =
    Repeating l.list l.times (outcome_of l.initial.r) l.initial.answers (outcome_of l.r) l.answers l.counter
