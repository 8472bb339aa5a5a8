-- Settings of document 01 and other single cases, computed by the rules. Assumes nothing.
use mathlib.Core.Path.{◌≡◌, refl}
use mathlib.Core.Bool.{true, false}
use Prim.Native.Nat.{ℕ}
use Rattle.controller.specs.declared.IrqController.{IrqController}
use Rattle.controller.specs.Bits.{with_bit, without}
use Rattle.controller.specs.Controller.{output_of, lowest_from, source_set, controller_read, controller_written}
use Rattle.controller.specs.Controller.{pending_cleared, source_levels_set, masked_sources_set, masked_source_set}

abbrev words : ℕ → ℕ → ℕ → IrqController
words p e l = record { pending = p; enable = e; levels = l }

-- H: pending bits 5 and 9, with enable 0x0200, 0x0220 and none
setting-h : (output_of (words 0x0220 0x0200 0) ≡ record { valid = true; number = record { 0 = 9 } })
    × (output_of (words 0x0220 0x0220 0) ≡ record { valid = true; number = record { 0 = 5 } })
    × (output_of (words 0x0220 0 0) ≡ record { valid = false; number = record { 0 = 0 } })
unfolding output_of lowest_from
setting-h = (refl, refl, refl)

-- source 3 rises, stays, and falls; a number above 15
source_three : (source_set (words 0 0 0) 3 true ≡ words 8 0 8)
    × (source_set (words 0 0 8) 3 true ≡ words 0 0 8)
    × (source_set (words 8 0 8) 3 false ≡ words 8 0 0)
    × (source_set (words 0 0 0) 16 true ≡ words 0 0 0)
unfolding source_set with_bit
source_three = (refl, refl, refl, refl)

-- of the sources 0, 3 and 15 the mask has 0 and 3: 0 falls, 3 rises, and 15 stays low
masked_sources : source_levels_set (words 0 0 1) 0x0009 0x8008 ≡ words 8 0 8
unfolding source_levels_set masked_sources_set masked_source_set source_set with_bit
masked_sources = refl

-- a byte of pending clears the bits that it has, and a byte of enable takes its place
registers : (controller_written (words 0x0220 0x1234 0) 0 0x02 ≡ words 0x0020 0x1234 0)
    × (controller_written (words 0x0220 0x1234 0) 1 0x02 ≡ words 0x0220 0x1234 0)
    × (controller_written (words 0x0220 0x1234 0) 4 0x56 ≡ words 0x0220 0x5634 0)
    × (controller_written (words 0x0220 0x1234 0) 5 0x56 ≡ words 0x0220 0x1256 0)
    × (controller_written (words 0x0220 0x1234 0) 2 0xff ≡ words 0x0220 0x1234 0)
    × (controller_read (words 0x0220 0x1234 0) 0 ≡ 0x02)
    × (controller_read (words 0x0220 0x1234 0) 5 ≡ 0x34)
unfolding controller_written controller_read pending_cleared without
registers = (refl, refl, refl, refl, refl, refl, refl)
