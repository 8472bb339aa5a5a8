-- `pec_run_repeated` meets its contract. Assumes nothing.
use mathlib.Core.Path.{◌∙◌}
use Rattle.pec.proofs.Runs.{started_same, results}
use Rattle.pec.proofs.pec_run_repeated.Goals as goal

pub returns : goal.returns
returns c =
    let given = c.give.ensures in
    let whole =
    results _ _ _
    (started_same _ _ _ _ _ _ _ _ c.fresh.ensures
    (c.repeated-run.ensures.value, c.repeated-run.ensures.answers_after)) in
    record {
      value = given.value ∙ whole.0;
      answers_after = whole.1.0;
      calls_after = given.calls_after ∙ whole.1.1.0;
      used_after = given.used_after ∙ whole.1.1.1.0;
      written_after = given.written_after ∙ whole.1.1.1.1;
    }
