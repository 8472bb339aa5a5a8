-- A controller's three words in one number, for the C interface.
use Rattle.std.specs.Prelude.{ℕ, ◌+◌, ◌*◌, ◌/◌, ◌%◌}
use Rattle.wide.specs.Bits.{flag_of}
use Rattle.controller.specs.declared.IrqController.{IrqController}
use Rattle.controller.specs.declared.IrqOutput.{IrqOutput}

-- the controller of a number: pending from bit 32 on, enable from bit 16 on, levels from bit 0 on, sixteen bits each;
-- the bits above them are ignored
unfoldable pub controller_of : ℕ → IrqController
controller_of n =
    record { pending = n / 4294967296 % 65536; enable = n / 65536 % 65536; levels = n % 65536 }

-- the number of a controller
unfoldable pub packed : IrqController → ℕ
packed c = (c.pending * 65536 + c.enable) * 65536 + c.levels

-- the number of an output: valid from bit 8 on, the source's number below
unfoldable pub packed_output : IrqOutput → ℕ
packed_output o = flag_of o.valid * 256 + o.number.0
