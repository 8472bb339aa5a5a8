-- `get::get_members` meets its contract. Assumes nothing.
use native.Mathlib.Omega.{arith}
use Rattle.image.proofs.Taken.{width_most, taken_fit, taking_begun, taking-room, taking-more, taking-ended}
use Rattle.image.proofs.get.get_members.Goals as goal

pub loop-i-init : goal.loop-i-init
loop-i-init c = taking_begun _ _ _ _ c.requires.1.1 c.requires.1.0

pub get-requires : goal.get-requires
get-requires c = (
  width_most c.args.widths.now c.requires.0 c.loop-i.i,
  taking-room _ _ _ _ _ _ c.loop-i.invariant c.loop-i-test.true,
)

pub loop-i-preserved : goal.loop-i-preserved
loop-i-preserved c =
    taking-more _ _ _ _ _ _ c.loop-i.invariant c.loop-i-test.true _ c.get.ensures.0

pub returns : goal.returns
returns c =
    let taken = taking-ended _ _ _ _ _ _ c.loop-i.invariant c.loop-i-test.false in
    (taken, taken_fit c.args.image.now _ _ _ (λ i. omega (arith, c.type_inv.image i)) taken)
