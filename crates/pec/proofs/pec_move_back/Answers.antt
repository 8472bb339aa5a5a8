-- `pec_move_back` meets its contract. Assumes nothing.
use mathlib.Core.Path.{ap, ◌∙◌}
use Rattle.parking.specs.Moves.{Moved}
use Rattle.pec.proofs.Parked.{move_is}
use Rattle.pec.proofs.pec_move_back.Goals as goal

pub returns : goal.returns
returns c =
    let given = c.give_written.ensures in
    let done = c.move_image.ensures in
    let is = move_is c.move_image.result in
    record {
      value = given.value ∙ is.0 ∙ ap (λ (x : Moved). x.refusal) done.value;
      moved_after = done.buffer_after;
      written_after = given.written_after ∙ is.1 ∙ ap (λ (x : Moved). x.written) done.value;
    }
