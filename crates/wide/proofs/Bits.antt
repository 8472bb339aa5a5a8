-- The bits of a number. Assumes nothing.
use Rattle.std.proofs.Common.{◌≡◌, refl, ℕ, ◌^◌, ◌<◌, ◌≤◌, Bool, true, false, lt_of_lt_of_le, arith}
use mir.Val.{bool_byte}
use native.Mathlib.Nat.{div-eq_of_lt, pow-le-pow_right}
use Rattle.wide.specs.Bits.{bit, flag_of}

-- a number of w bits has no bit w or above
pub no_bit : (w k n : ℕ) → w ≤ k → n < 2 ^ w → false ≡ bit k n
no_bit w k n h p = rw (div-eq_of_lt (lt_of_lt_of_le p (pow-le-pow_right {n = 2} (omega arith) {i = w} {j = k} h)))

-- a flag as the code makes it a number
pub byte_flag : (v : Bool) → bool_byte v ≡ flag_of v
byte_flag true = refl
byte_flag false = refl
