-- The bits of a number.
use Rattle.std.specs.Prelude.{ℕ, ◌/◌, ◌%◌, ◌^◌, Bool, cond, ◌==◌}

-- bit k of n is set
abbrev pub bit : ℕ → ℕ → Bool
bit k n = n / 2 ^ k % 2 == 1

-- a flag as a number
abbrev pub flag_of : Bool → ℕ
flag_of b = cond b 1 0
