-- `get::rate_in` meets its contract. Assumes nothing.
use mathlib.Core.List.{List}
use mathlib.Core.Path.{refl}
use lib.ListN.{get_or}
use Prim.Native.Nat.{ℕ}
use Rattle.image.specs.Image.{rate_field, flags_hold}
use Rattle.parking.proofs.Forms.{field-missing, field-read}
use Rattle.parking.proofs.get.rate_in.Goals as goal

pub returns-in_err-members : goal.returns-in_err-members
returns-in_err-members c =
    rw c.from_residual.ensures (field-missing _ 0 rate_field c.requires c.in_err-members.ensures.value _)

pub returns : goal.returns
unfolding flags_hold
returns c =
    field-read _ 0 rate_field c.requires _ c.in_ok-members.ensures.value refl (λ (ms : List ℕ). get_or ms 0 0)
