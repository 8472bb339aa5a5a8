-- `preview` meets its contract. Assumes nothing.
use Rattle.std.proofs.Common.{Err}
use Rattle.preview.proofs.Answers.{preview-unsound, preview-left, preview_answers}
use Rattle.preview.proofs.preview.Goals as goal

pub returns-in-Err : goal.returns-in-Err
returns-in-Err c =
    let a = c.args in
    let told = preview-unsound a.board a.totals.now a.high.now _ c.in-Err.ensures.refused in
    record {
      value = rw c.refused.ensures (preview_answers _ _ _ (Err _) told);
      high_after = preview-left a.board a.totals.now a.high.now _ told;
    }

pub returns-clause-value : goal.returns-clause-value
returns-clause-value c = preview_answers _ _ _ _ c.put_preview-answer.ensures.value
