-- The rules of document 01's section 'The controller alone': each operation of `IrqController` as a function on its
-- three words. Words in double quotes are those of irqc.rs.
use Rattle.std.specs.Prelude.{ℕ, zero, suc, ◌+◌, ◌*◌, ◌/◌, ◌%◌, ◌^◌, ◌<◌, Bool, true, false, not, ◌&&◌, cond, ltb, eqb}
use Rattle.controller.specs.declared.IrqController.{IrqController}
use Rattle.controller.specs.declared.IrqOutput.{IrqOutput}
use Rattle.wide.specs.Bits.{bit}
use Rattle.controller.specs.Bits.{with_bit, without}

-- each field is within its width, as the code's types have it
pub record ControllerFits (c : IrqController) : Type 0 where
  pub pending : c.pending < 2 ^ 16
  pub enable : c.enable < 2 ^ 16
  pub levels : c.levels < 2 ^ 16

-- `new`: nothing pending, nothing enabled, every level low
abbrev pub fresh : IrqController
fresh = record { pending = 0; enable = 0; levels = 0 }

-- `reset`: "Clear all latched and configured interrupt state."
abbrev pub reset_of : IrqController → IrqController
reset_of c = fresh

-- `pending`: the requests that are latched
abbrev pub pending_of : IrqController → ℕ
pending_of c = c.pending

-- `enable_mask`: the sources that are enabled
abbrev pub enable_mask_of : IrqController → ℕ
enable_mask_of c = c.enable

-- `set_enable_mask`: the mask replaces enable
abbrev pub enable_mask_set : IrqController → ℕ → IrqController
enable_mask_set c mask = record { pending = c.pending; enable = mask; levels = c.levels }

-- `set_source`: "Set one source level. Only a low-to-high transition latches pending." A number above 15 changes
-- nothing.
unfoldable pub source_set : IrqController → ℕ → Bool → IrqController
source_set c k level =
    cond (ltb k 16)
    (record {
      pending = cond (level && not (bit k c.levels)) (with_bit k true c.pending) c.pending;
      enable = c.enable;
      levels = with_bit k level c.levels;
    })
    c

-- `set_source` for source k with its bit of `levels`, where its bit of the mask is set
unfoldable pub masked_source_set : IrqController → ℕ → ℕ → ℕ → IrqController
masked_source_set c k mask levels = cond (bit k mask) (source_set c k (bit k levels)) c

-- the same for the sources 0 to n - 1, in this order
unfoldable pub masked_sources_set : ℕ → IrqController → ℕ → ℕ → IrqController
masked_sources_set zero c mask levels = c
masked_sources_set (suc n) c mask levels = masked_source_set (masked_sources_set n c mask levels) n mask levels

-- '`set_source_levels` equals `set_source` for each masked source.'
unfoldable pub source_levels_set : IrqController → ℕ → ℕ → IrqController
source_levels_set = masked_sources_set 16

-- `clear_pending`: the pending bits that are set in the mask are cleared
unfoldable pub pending_cleared : IrqController → ℕ → IrqController
pending_cleared c mask =
    record { pending = without 16 c.pending mask; enable = c.enable; levels = c.levels }

-- the lowest enabled pending source of the n sources from k on; 'none gives (0, 0)', here false and 0
unfoldable pub lowest_from : ℕ → ℕ → IrqController → IrqOutput
lowest_from zero k c = record { valid = false; number = record { 0 = 0 } }
lowest_from (suc n) k c =
    cond (bit k c.pending && bit k c.enable)
    (record { valid = true; number = record { 0 = k } })
    (lowest_from n (suc k) c)

-- `irq_output`: 'The lowest enabled pending source'
unfoldable pub output_of : IrqController → IrqOutput
output_of = lowest_from 16 0

-- `read` and `debug_read`: a register has two bytes, the most significant one first; any other address reads 0
unfoldable pub controller_read : IrqController → ℕ → ℕ
controller_read c address =
    cond (eqb address 0) (c.pending / 256)
    (cond (eqb address 1) (c.pending % 256)
    (cond (eqb address 4) (c.enable / 256)
    (cond (eqb address 5) (c.enable % 256)
    0)))

-- `write`: "Software clears a pending source by writing its bit"; a byte of enable is replaced; any other address
-- changes nothing
unfoldable pub controller_written : IrqController → ℕ → ℕ → IrqController
controller_written c address value =
    cond (eqb address 0) (pending_cleared c (value * 256))
    (cond (eqb address 1) (pending_cleared c value)
    (cond (eqb address 4) (enable_mask_set c (value * 256 + c.enable % 256))
    (cond (eqb address 5) (enable_mask_set c (c.enable / 256 * 256 + value))
    c)))

-- `size`: the bytes that its registers take, `IRQC_MMIO_SIZE` of the Rust
abbrev pub mmio_size : IrqController → ℕ
mmio_size c = 16
