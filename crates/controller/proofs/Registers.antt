-- A register's word with one byte replaced. Assumes nothing.
use Prim.Native.Nat.{ℕ, ◌+◌, ◌*◌, ◌/◌, ◌%◌, ◌<◌}
use mathlib.Core.Path.{◌≡◌}
use native.Mathlib.Omega.{arith}
use lib.Bits.{bit_and, bit_or, and_mask, and_high, or_shifted, or_shifted_r}

-- `(word & 0x00FF) | value << 8`
pub high_byte : (word value : ℕ) → value < 256
    → bit_or (bit_and word 255) (value * 256 % 65536) ≡ value * 256 + word % 256
high_byte word value h =
    let fits : value * 256 % 65536 ≡ value * 256 = omega arith in
    rw (and_mask word 8, fits) (or_shifted_r value 8 (word % 256) (omega arith))

-- `(word & 0xFF00) | value`
pub low_byte : (word value : ℕ) → word < 65536 → value < 256
    → bit_or (bit_and word 65280) value ≡ word / 256 * 256 + value
low_byte word value h i =
    let fits : word / 256 % 256 ≡ word / 256 = omega arith in
    rw (and_high word 8 8, fits) (or_shifted (word / 256) 8 value i)
