-- `repeated` meets its contract. Assumes nothing.
use mathlib.Core.Path.{refl}
use Rattle.list.specs.Run.{outcome_of}
use Rattle.pec.specs.Repeats.{started_on}
use Rattle.pec.proofs.Runs.{held, ran_of, begun, more, ended}
use Rattle.pec.proofs.repeated.Goals as goal

pub loop-init : goal.loop-init
loop-init c = begun _ _ _ _

pub loop-preserved : goal.loop-preserved
loop-preserved c =
    let i = c.loop in
    more _ _ _ _ _ _ _ i.invariant c.loop-test.true _ _
    c.run-r-in-loop.auto.answers
    (ran_of _ (held (outcome_of i.r) i.answers) _ _ _ refl c.run-r-in-loop.ensures.value
    c.run-r-in-loop.ensures.answers_after)

pub returns : goal.returns
returns c =
    let whole =
    let a = c.args in
    let r = c.run-r.ensures in
    ended _ _ _ _ _ _ _ c.loop.invariant c.loop-test.false _
    (ran_of _ (started_on a.board a.answers.now) _ _ _ refl r.value r.answers_after) in
    record { value = whole.0; answers_after = whole.1 }
