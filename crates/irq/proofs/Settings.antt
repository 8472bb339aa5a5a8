-- The lines that the program prints, computed by the rules. The first two are document 01's setting H.
-- Assumes nothing.
use mathlib.Core.Path.{◌≡◌, refl}
use mathlib.Core.Bool.{true, false}
use Rattle.controller.specs.Bits.{with_bit, without}
use Rattle.controller.specs.Controller.{
  source_set,
  masked_source_set,
  masked_sources_set,
  source_levels_set,
  pending_cleared,
  controller_read,
  controller_written,
  output_of,
  lowest_from,
}
use Rattle.irq.specs.Presented.{presented_by}

lines : (presented_by 0x0220 0x0200 2 ≡ record { valid = true; number = record { 0 = 9 } })
    × (presented_by 0x0220 0x0220 2 ≡ record { valid = true; number = record { 0 = 5 } })
    × (presented_by 0x0220 0x0220 1 ≡ record { valid = true; number = record { 0 = 9 } })
    × (presented_by 0x0220 0x0020 1 ≡ record { valid = false; number = record { 0 = 0 } })
unfolding source_levels_set masked_sources_set masked_source_set source_set with_bit pending_cleared without
    controller_read
    controller_written output_of lowest_from
lines = (refl, refl, refl, refl)
