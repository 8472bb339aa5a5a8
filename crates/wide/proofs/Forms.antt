-- The two words of a number, and flags as numbers. Assumes nothing.
use Rattle.std.proofs.Common.{◌≡◌, ℕ, ◌+◌, ◌*◌, ◌/◌, ◌%◌, ◌^◌, ◌<◌, Bool, true, false, eqb, refl, ap₂, arith}
use Rattle.wide.specs.declared.number.Wide.{Wide}
use Rattle.wide.specs.Bits.{flag_of}
use Rattle.wide.specs.Number.{value_of, wide_of}

-- a number comes back from its words
pub wide_value : (n : ℕ) → value_of (wide_of n) ≡ n
unfolding value_of wide_of
wide_value n = omega arith

-- words come back from their number
pub value_wide : (w : Wide) (n : ℕ) → w.low < 2 ^ 64 → value_of w ≡ n → w ≡ wide_of n
unfolding value_of wide_of
value_wide w n l e =
    ap₂ (λ (h m : ℕ). record { high = h; low = m }) (high w.high w.low n l e) (low w.high w.low n l e)
  where
    high : (h m n : ℕ) → m < 2 ^ 64 → h * 2 ^ 64 + m ≡ n → h ≡ n / 2 ^ 64
    high h m n l e = omega arith

    low : (h m n : ℕ) → m < 2 ^ 64 → h * 2 ^ 64 + m ≡ n → m ≡ n % 2 ^ 64
    low h m n l e = omega arith

-- a flag comes back from its number
pub flag_back : (v : Bool) → eqb (flag_of v) 1 ≡ v
flag_back true = refl
flag_back false = refl
