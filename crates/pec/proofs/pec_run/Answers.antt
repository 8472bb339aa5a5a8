-- `pec_run` meets its contract. Assumes nothing.
use mathlib.Core.Path.{◌∙◌}
use Rattle.pec.specs.Repeats.{started}
use Rattle.pec.proofs.Runs.{ran_of, halves, results}
use Rattle.pec.proofs.pec_run.Goals as goal

pub returns : goal.returns
returns c =
    let given = c.give.ensures in
    let whole =
    let a = c.args in
    let r = c.run-run.ensures in
    results _ _ _
    (halves _ _ _
    (ran_of _ (started a.answers.now) _ _ _ c.fresh.ensures r.value r.answers_after)) in
    record {
      value = given.value ∙ whole.0;
      answers_after = whole.1.0;
      calls_after = given.calls_after ∙ whole.1.1.0;
      used_after = given.used_after ∙ whole.1.1.1.0;
      written_after = given.written_after ∙ whole.1.1.1.1;
    }
