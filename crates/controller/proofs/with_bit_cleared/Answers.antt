-- `controller::with_bit_cleared` meets its contract. Assumes nothing.
use native.Mathlib.Omega.{arith}
use Rattle.controller.proofs.Bits.{shifted, and_not_bit}
use Rattle.controller.proofs.with_bit_cleared.Goals as goal

pub returns : goal.returns
returns c =
    rw (shifted c.args.number c.requires)
    (and_not_bit 16 c.args.number c.args.word (omega arith) c.requires)
