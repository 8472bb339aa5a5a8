-- `controller::bits_cleared` meets its contract. Assumes nothing.
use native.Mathlib.Omega.{arith}
use Rattle.controller.proofs.Bits.{and_not}
use Rattle.controller.proofs.bits_cleared.Goals as goal

pub returns : goal.returns
returns c = and_not 16 c.args.word c.args.mask (omega arith)
