-- `get::controller_in` meets its contract. Assumes nothing.
use mathlib.Core.Path.{refl}
use Rattle.image.specs.Image.{controller_field, controller_from, flags_hold}
use Rattle.image.specs.CodeTables.{controller_at}
use Rattle.parking.proofs.Forms.{field-missing, field-read}
use Rattle.parking.proofs.get.controller_in.Goals as goal

pub returns-in_err-members : goal.returns-in_err-members
returns-in_err-members c =
    rw c.from_residual.ensures
    (field-missing _ controller_at controller_field c.requires c.in_err-members.ensures.value _)

pub returns : goal.returns
unfolding flags_hold
returns c =
    field-read _ controller_at controller_field c.requires _ c.in_ok-members.ensures.value refl controller_from
