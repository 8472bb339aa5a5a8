-- `pec_fresh` meets its contract. Assumes nothing.
use mathlib.Core.Path.{◌∙◌}
use Rattle.pec.proofs.Parked.{parked_fresh}
use Rattle.pec.proofs.pec_fresh.Goals as goal

pub returns : goal.returns
returns c =
    let given = c.give_written.ensures in
    let whole = parked_fresh _ _ _ _ c.fresh.ensures c.park.ensures.value c.park.ensures.buffer_after in
    record {
      value = given.value ∙ whole.0;
      image_after = whole.1.0;
      written_after = given.written_after ∙ whole.1.1;
    }
