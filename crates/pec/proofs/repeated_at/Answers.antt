-- `repeated_at` meets its contract. Assumes nothing.
use Rattle.pec.proofs.Runs.{at-refused, at-run}
use Rattle.pec.proofs.repeated_at.Goals as goal

pub returns-in-Err : goal.returns-in-Err
returns-in-Err c =
    let whole =
    let a = c.args in
    let made = c.fresh_at-fresh in
    at-refused a.rate a.first.now a.list.now a.times a.answers.now made.result made.ensures _ c.in-Err.is in
    let n = c.default.ensures in
    record { value = rw (n.0, n.1.0, n.1.1) whole.0; answers_after = whole.1 }

pub returns-in-Ok : goal.returns-in-Ok
returns-in-Ok c =
    let whole =
    let a = c.args in
    let made = c.fresh_at-fresh in
    at-run a.rate a.first.now a.list.now a.times a.answers.now made.result made.ensures _ c.in-Ok.is _ _
    (c.repeated.ensures.value, c.repeated.ensures.answers_after) in
    record { value = whole.0; answers_after = whole.1 }
