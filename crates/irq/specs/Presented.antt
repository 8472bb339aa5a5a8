-- What the controller presents after the calls of `presented`, by the controller's own rules.
use Rattle.std.specs.Prelude.{ℕ}
use Rattle.controller.specs.declared.IrqController.{IrqController}
use Rattle.controller.specs.declared.IrqOutput.{IrqOutput}
use Rattle.controller.specs.Controller.{fresh, source_levels_set, enable_mask_set, controller_read, controller_written}
use Rattle.controller.specs.Controller.{output_of}

-- the sources of `raised` rise on a fresh controller, and those of `mask` are enabled
abbrev pub enabled : ℕ → ℕ → IrqController
enabled raised mask = enable_mask_set (source_levels_set fresh raised raised) mask

-- the byte at an address is read and written back; in pending, that clears the bits that are set in it
abbrev pub acknowledged : IrqController → ℕ → IrqController
acknowledged c address = controller_written c address (controller_read c address)

abbrev pub presented_by : ℕ → ℕ → ℕ → IrqOutput
presented_by raised mask address = output_of (acknowledged (enabled raised mask) address)
