-- `Shape::put` meets its contract. Assumes nothing.
use native.Mathlib.Omega.{arith}
use Rattle.image.proofs.Tables.{record-stored}
use Rattle.image.proofs.Shape.put.Goals as goal

pub returns : goal.returns
returns g c =
    rw c.from.ensures at
    (record-stored _ _ _ _ _ _ _ _ _ c.put.ensures c.put-2.ensures c.put_members.ensures (omega arith))
