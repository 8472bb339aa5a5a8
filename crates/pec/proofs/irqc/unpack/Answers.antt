-- `unpack` meets its contract. Assumes nothing.
use mathlib.Core.Path.{refl}
use Rattle.pec.specs.Packed.{controller_of}
use Rattle.pec.proofs.irqc.unpack.Goals as goal

pub returns : goal.returns
unfolding controller_of
returns c = refl
