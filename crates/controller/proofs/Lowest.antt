-- The count of trailing zeros of `pending & enable` is the lowest enabled pending source. Assumes nothing.
use Prim.Native.Nat.{ℕ, zero, suc, ◌+◌, ◌/◌, ◌%◌, ◌^◌, ◌≤◌, ◌<◌, min}
use mathlib.Core.Path.{◌≡◌, refl, sym, ap, ◌∙◌}
use mathlib.Core.Bool.{true, false, ◌&&◌, cond}
use native.Mathlib.Nat.{div-div-eq-div-mul, pow-suc, div-one, add-zero, zero-add, add-suc, suc-add}
use native.Mathlib.Omega.{arith}
use borrow.Author.Tests.{lt-ltb, le-ltb}
use lib.Bits.{bit_and}
use lib.Count.{count_trailing_zeros, under}
use lib.Dec.{eqb, ltb, leb-suc-suc}
use Rattle.controller.specs.declared.IrqController.{IrqController}
use Rattle.controller.specs.declared.IrqOutput.{IrqOutput}
use Rattle.controller.specs.Controller.{lowest_from, output_of}
use Rattle.controller.proofs.Bits.{and_digit, digits}

-- the output of source k, and that of none
abbrev pub source : ℕ → IrqOutput
source k = record { valid = true; number = record { 0 = k } }

abbrev pub none : IrqOutput
none = record { valid = false; number = record { 0 = 0 } }

-- the output where t of the n bits from bit k on stand below the lowest that is set
abbrev counted : ℕ → ℕ → ℕ → IrqOutput
counted n k t = cond (ltb t n) (source (k + t)) none

-- no bit here: one zero more
next : (n k t : ℕ) → counted n (suc k) t ≡ counted (suc n) k (suc t)
next n k t = rw (leb-suc-suc, add-suc k t, suc-add k t)

step : (n k t x y : ℕ)
    → cond (eqb (x % 2) 1 && eqb (y % 2) 1) (source k) (counted n (suc k) t)
    ≡ counted (suc n) k (under (min (x % 2) (y % 2)) t)
step n k t x y =
    digits
    (λ (a b : ℕ). cond (eqb a 1 && eqb b 1) (source k) (counted n (suc k) t)
    ≡ counted (suc n) k (under (min a b) t))
    (next n k t) (next n k t) (next n k t) (rw (lt-ltb 0 (suc n) (omega arith), add-zero k)) x y

lowest-from : (n k : ℕ) (c : IrqController)
    → lowest_from n k c ≡ counted n k (count_trailing_zeros n (bit_and c.pending c.enable / 2 ^ k))
unfolding lowest_from count_trailing_zeros
lowest-from zero k c = refl
lowest-from (suc n) k c =
    let half : bit_and c.pending c.enable / 2 ^ suc k ≡ bit_and c.pending c.enable / 2 ^ k / 2 =
    ap (λ (x : ℕ). bit_and c.pending c.enable / x) (pow-suc 2 k)
    ∙ sym (div-div-eq-div-mul (bit_and c.pending c.enable) (2 ^ k) 2) in
    rw (lowest-from n (suc k) c, half, and_digit k c.pending c.enable)
    (step n k (count_trailing_zeros n (bit_and c.pending c.enable / 2 ^ k / 2)) (c.pending / 2 ^ k) (c.enable / 2 ^ k))

module _ (c : IrqController) where
  abbrev pub zeros : ℕ
  zeros = count_trailing_zeros 16 (bit_and c.pending c.enable)

  lowest : output_of c ≡ counted 16 0 zeros
  unfolding output_of
  lowest =
      lowest-from 16 0 c
      ∙ ap (λ (x : ℕ). counted 16 0 (count_trailing_zeros 16 x)) (div-one (bit_and c.pending c.enable))

  pub lowest-found : zeros < 16 → source zeros ≡ output_of c
  lowest-found h = rw (lowest, lt-ltb zeros 16 h, zero-add zeros)

  pub lowest-none : 16 ≤ zeros → none ≡ output_of c
  lowest-none h = rw (lowest, le-ltb zeros 16 h)
