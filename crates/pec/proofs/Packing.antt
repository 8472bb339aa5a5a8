-- The number of a controller and of its output.
use mathlib.Core.Path.{◌≡◌, refl}
use mathlib.Core.Bool.{true, false}
use Prim.Native.Nat.{◌+◌, ◌*◌, ◌/◌, ◌%◌, ◌<◌}
use native.Mathlib.Omega.{arith}
use Rattle.controller.specs.declared.IrqController.{IrqController}
use Rattle.controller.specs.declared.IrqOutput.{IrqOutput}
use Rattle.pec.specs.Packed.{controller_of, packed, packed_output}

pub valid_output : (o : IrqOutput) → o.valid ≡ true → 256 + o.number.0 ≡ packed_output o
unfolding packed_output
valid_output o e = rw e refl

pub no_output : (o : IrqOutput) → o.valid ≡ false → o.number.0 ≡ packed_output o
unfolding packed_output
no_output o e = rw e (omega arith)

-- a controller of three words of sixteen bits is the controller of its number
pub packed_whole :
    (c : IrqController) → c.pending < 65536 → c.enable < 65536 → c.levels < 65536 → controller_of (packed c) ≡ c
unfolding controller_of packed
packed_whole c p e l =
    let f : ((c.pending * 65536 + c.enable) * 65536 + c.levels) / 4294967296 % 65536 ≡ c.pending =
    omega (arith, p, e, l) in
    let g : ((c.pending * 65536 + c.enable) * 65536 + c.levels) / 65536 % 65536 ≡ c.enable =
    omega (arith, p, e, l) in
    let h : ((c.pending * 65536 + c.enable) * 65536 + c.levels) % 65536 ≡ c.levels = omega (arith, p, e, l) in
    rw (f, g, h) refl
