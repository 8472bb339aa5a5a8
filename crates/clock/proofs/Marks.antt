-- The mask of a shadow: a bit set. Assumes nothing.
use Prim.Native.Nat.{ℕ, ◌+◌, ◌-◌, ◌*◌, ◌/◌, ◌%◌, ◌^◌, ◌<◌}
use mathlib.Core.Path.{◌≡◌, sym, ap, ◌∙◌, subst⁻¹}
use mathlib.Core.Bool.{false}
use native.Mathlib.Nat.{
  one-mul,
  mod-lt,
  mod-eq_of_lt,
  div-add-mod',
  div-lt_iff_lt-mul,
  pow-le-pow_right,
  lt_of_le_of_lt,
}
use native.Mathlib.Omega.{arith}
use lib.Arith.{digits_lt}
use lib.Pow.{pow_pos, pow-add}
use lib.Dec.{eqb}
use borrow.Author.Tests.{eqb-false}
use Rattle.wide.proofs.Choices.{choose}
use Rattle.wide.specs.Bits.{bit}
use Rattle.clock.specs.Registers.{marked}

-- a shift by i bits
pub unit_is : (i : ℕ) → i < 8 → (1 * 2 ^ i) % 2 ^ 8 ≡ 2 ^ i
unit_is i h = rw (one-mul, mod-eq_of_lt small)
  where
    small : 2 ^ i < 2 ^ 8
    small = lt_of_le_of_lt (pow-le-pow_right {n = 2} (omega arith) {i = i} {j = 7} (omega arith)) (omega arith)

-- a bit that is not set has room
room : (u b m : ℕ) → 0 < u → m < b * 2 * u → (m / u % 2 ≡ 1 → ⊥) → m + u < b * 2 * u
room u b m p h e = subst⁻¹ (λ (n : ℕ). n < b * 2 * u) sum (digits_lt next (mod-lt m p))
  where
    below : m / u < b * 2
    below = (div-lt_iff_lt-mul {k = u} {x = m} {y = b * 2} p).1 h

    next : m / u + 1 < b * 2
    next = let l = below in omega arith

    sum : m + u ≡ (m / u + 1) * u + m % u
    sum = omega (arith, div-add-mod' m u)

mark_fits : (i m : ℕ) → i < 8 → m < 256 → (m / 2 ^ i % 2 ≡ 1 → ⊥) → m + 2 ^ i < 256
mark_fits i m h k e =
    rw size at (room (2 ^ i) (2 ^ (7 - i)) m (pow_pos i) (subst⁻¹ (λ (n : ℕ). m < n) size k) e)
  where
    bits : 7 - i + 1 + i ≡ 8
    bits = omega arith

    size : 2 ^ (7 - i) * 2 * 2 ^ i ≡ 256
    size =
        sym (pow-add 2 (7 - i + 1) i ∙ ap (λ (n : ℕ). n * 2 ^ i) (pow-add 2 (7 - i) 1))
        ∙ ap (λ (n : ℕ). 2 ^ n) bits

pub marked_fits : (i m : ℕ) → i < 8 → m < 256 → marked i m < 256
unfolding marked
marked_fits i m h k = choose (λ n. n < 256) (bit i m) (λ _. k) (λ e. mark_fits i m h k (eqb-false (m / 2 ^ i % 2) 1 e))

-- u is the unit of bit i, which is not set
pub mark-room : (i m u : ℕ) → u ≡ 2 ^ i → eqb (m / u % 2) 1 ≡ false → i < 8 → m < 256 → m + u < 256
mark-room i m u e h p q =
    let clear : eqb (m / 2 ^ i % 2) 1 ≡ false = rw e at h in
    rw e (mark_fits i m p q (eqb-false (m / 2 ^ i % 2) 1 clear))
