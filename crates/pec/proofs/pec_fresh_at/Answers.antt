-- `pec_fresh_at` meets its contract. Assumes nothing.
use mathlib.Core.Path.{◌∙◌}
use Rattle.pec.proofs.Parked.{fresh-refused, fresh-written}
use Rattle.pec.proofs.pec_fresh_at.Goals as goal

pub returns-in-Ok : goal.returns-in-Ok
returns-in-Ok c =
    let given = c.give_written.ensures in
    let made = c.fresh_at-fresh in
    let whole =
    fresh-written c.args.rate made.result made.ensures c.args.image.now _ c.in-Ok.is _ _
    c.park.ensures.value c.park.ensures.buffer_after in
    record {
      value = given.value ∙ whole.0;
      image_after = whole.1.0;
      written_after = given.written_after ∙ whole.1.1;
    }

pub returns-in-Err : goal.returns-in-Err
returns-in-Err c =
    let given = c.give_written-in-Err.ensures in
    let made = c.fresh_at-fresh in
    let whole = fresh-refused c.args.rate made.result made.ensures c.args.image.now _ c.in-Err.is in
    record {
      value = given.value ∙ whole.0;
      image_after = whole.1.0;
      written_after = given.written_after ∙ whole.1.1;
    }
