-- `pec_run_repeated_at` meets its contract. Assumes nothing.
use mathlib.Core.Path.{◌∙◌}
use Rattle.pec.proofs.Runs.{results}
use Rattle.pec.proofs.pec_run_repeated_at.Goals as goal

pub returns : goal.returns
returns c =
    let given = c.give.ensures in
    let whole =
    results _ _ _ (c.repeated_at-run.ensures.value, c.repeated_at-run.ensures.answers_after) in
    record {
      value = given.value ∙ whole.0;
      answers_after = whole.1.0;
      calls_after = given.calls_after ∙ whole.1.1.0;
      used_after = given.used_after ∙ whole.1.1.1.0;
      written_after = given.written_after ∙ whole.1.1.1.1;
    }
