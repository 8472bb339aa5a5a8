-- The bits of pending channels, those below i in a word and those behind it still to come. Assumes nothing.
use Prim.Native.Nat.{ℕ, ◌+◌, ◌*◌, ◌%◌, ◌^◌, ◌≤◌, ◌<◌}
use mathlib.Core.Path.{◌≡◌, ◌∙◌}
use mathlib.Core.Bool.{Bool, true, false}
use native.Mathlib.Nat.{pow-suc, pow-le-pow_right}
use native.Mathlib.Numerals.{add-one}
use native.Mathlib.Omega.{arith}
use Rattle.wide.specs.Bits.{flag_of}

-- p is the value of the bit i, one of 1, 2, 4 and 8
module _ (v : Bool) (word p : ℕ) (small : p ≤ 8) where
  bit_is : flag_of v * p % 2 ^ 32 ≡ flag_of v * p
  bit_is = value v
    where
      value : (v : Bool) → flag_of v * p % 2 ^ 32 ≡ flag_of v * p
      value true = omega arith
      value false = omega arith

  joins : (rest : ℕ) → word + flag_of v * p % 2 ^ 32 + p * 2 * rest ≡ word + p * (flag_of v + 2 * rest)
  joins rest = rw bit_is (omega arith)

  stays : word < p → word + flag_of v * p % 2 ^ 32 < p * 2
  stays h = rw bit_is (below v)
    where
      below : (v : Bool) → word + flag_of v * p < p * 2
      below true = omega arith
      below false = omega arith

module _ (v : Bool) (word i : ℕ) (h : i < 4) where
  small : 2 ^ i ≤ 8
  small = pow-le-pow_right {n = 2} (omega arith) {i = i} {j = 3} (omega arith)

  twice : 2 ^ (i + 1) ≡ 2 ^ i * 2
  twice = rw add-one (pow-suc 2 i)

  -- one channel more: v is its bit, and all the word of all channels
  pub pending-goes : (rest all : ℕ) → word + 2 ^ i * (flag_of v + 2 * rest) ≡ all →
      word + flag_of v * 2 ^ i % 2 ^ 32 + 2 ^ (i + 1) * rest ≡ all
  pending-goes rest all e = rw twice (joins v word (2 ^ i) small rest ∙ e)

  pub pending-stays : word < 2 ^ i → word + flag_of v * 2 ^ i % 2 ^ 32 < 2 ^ (i + 1)
  pending-stays r = rw twice (stays v word (2 ^ i) small r)
