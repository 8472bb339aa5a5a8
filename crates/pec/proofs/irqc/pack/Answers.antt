-- `pack` meets its contract. Assumes nothing.
use mathlib.Core.Path.{refl}
use Rattle.pec.specs.Packed.{packed}
use Rattle.pec.proofs.irqc.pack.Goals as goal

pub returns : goal.returns
unfolding packed
returns c = rw (c.from.ensures, c.from-2.ensures, c.from-3.ensures) refl
