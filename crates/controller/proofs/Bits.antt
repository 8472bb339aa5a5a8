-- Laws of the bits of a word, and what the machine's `&`, `|`, `^` and `!` do to them. Assumes nothing.
use Prim.Native.Nat.{ℕ, zero, suc, ◌+◌, ◌-◌, ◌*◌, ◌/◌, ◌%◌, ◌^◌, ◌≤◌, ◌<◌, min}
use mathlib.Core.Path.{◌≡◌, refl, sym, ap, ap₂, ◌∙◌}
use mathlib.Core.Bool.{Bool, true, false, not, ◌&&◌, cond}
use native.Mathlib.Nat.{div-div-eq-div-mul, pow-suc, pow-succ', mul_assoc, div-one, mod-lt}
use native.Mathlib.Nat.{zero-mul, one-mul, add-zero}
use native.Mathlib.Omega.{arith}
use borrow.Author.Tests.{ne_eqb}
use lib.Arith.{lt-one}
use lib.Bits.{bit_and, bit_or, bit_xor, differ, and_step, xor_step, and_shr, xor_shr, and_block}
use lib.Bits.{and_mask, and_zero_r, and_le_l, or_add_and, or_lt}
use lib.Dec.{eqb}
use lib.Pow.{pow_pos, pow-lt, split, shl_exact}
use Rattle.wide.specs.Bits.{bit}
use Rattle.controller.specs.Bits.{with_bit, without}

-- ---- one digit, and two: a fact of digits is shown at 0 and 1

digit : (P : ℕ → Type 0) → P 0 → P 1 → (n : ℕ) → P (n % 2)
digit P p q n = at (n % 2) (omega arith)
  where
    at : (x : ℕ) → x < 2 → P x
    at zero h = p
    at (suc zero) h = q
    at (suc (suc x)) h = absurd (omega arith)

pub digits : (P : ℕ → ℕ → Type 0) → P 0 0 → P 0 1 → P 1 0 → P 1 1 → (m n : ℕ) → P (m % 2) (n % 2)
digits P p q r s m n =
    digit (λ (x : ℕ). P x (n % 2)) (digit (λ (y : ℕ). P 0 y) p q n) (digit (λ (y : ℕ). P 1 y) r s n) m

-- ---- one bit

-- a bit above the lowest is a bit of the half
bit_suc : (k n : ℕ) → n / 2 ^ suc k % 2 ≡ n / 2 / 2 ^ k % 2
bit_suc k n =
    ap (λ (x : ℕ). n / x % 2) (pow-succ' 2 k) ∙ ap (λ (x : ℕ). x % 2) (sym (div-div-eq-div-mul n 2 (2 ^ k)))

-- `1 << k` of a 16-bit word
pub shifted : (k : ℕ) → k < 16 → 1 * 2 ^ k % 65536 ≡ 2 ^ k
shifted k h = shl_exact 1 k 16 (omega arith) (omega arith) ∙ one-mul (2 ^ k)

-- `n & 1 << k`
pub and_bit : (k n : ℕ) → bit_and n (2 ^ k) ≡ n / 2 ^ k % 2 * 2 ^ k
and_bit k n =
    ap₂ bit_and (sym (split n k)) (sym (add-zero (1 * 2 ^ k) ∙ one-mul (2 ^ k)))
    ∙ and_block k (n / 2 ^ k) 1 (n % 2 ^ k) 0 (mod-lt n (pow_pos k)) (pow_pos k)
    ∙ ap₂ (λ (x y : ℕ). x * 2 ^ k + y) (and_mask (n / 2 ^ k) 1) (and_zero_r (n % 2 ^ k))
    ∙ add-zero (n / 2 ^ k % 2 * 2 ^ k)

pub bit_test : (k n : ℕ) → not (eqb (bit_and n (2 ^ k)) 0) ≡ bit k n
bit_test k n =
    ap (λ (x : ℕ). not (eqb x 0)) (and_bit k n)
    ∙ digit (λ (x : ℕ). not (eqb (x * 2 ^ k) 0) ≡ eqb x 1) (rw (zero-mul (2 ^ k)))
    (rw (one-mul (2 ^ k), ne_eqb (2 ^ k) 0 (λ e. omega (arith, pow_pos k)))) (n / 2 ^ k)

bit_le : (k n : ℕ) → n / 2 ^ k % 2 * 2 ^ k ≤ n
bit_le k n = omega (arith, and_bit k n, and_le_l n (2 ^ k))

-- `n | 1 << k`
pub or_bit : (k n : ℕ) → bit_or n (2 ^ k) ≡ with_bit k true n
unfolding with_bit
or_bit k n = omega (arith, or_add_and n (2 ^ k), and_bit k n, bit_le k n)

-- ---- a word with one bit changed

-- a bit within the width
pub with_bit_lt : (w k : ℕ) (b : Bool) (n : ℕ) → k < w → n < 2 ^ w → with_bit k b n < 2 ^ w
unfolding with_bit
with_bit_lt w k true n h l = rw (← or_bit k n) (or_lt w n (2 ^ k) l (pow-lt h))
with_bit_lt w k false n h l = omega arith

with_bit_suc : (k : ℕ) (b : Bool) (n : ℕ) → with_bit (suc k) b n ≡ with_bit k b (n / 2) * 2 + n % 2
unfolding with_bit
with_bit_suc k true n = rw (bit_suc, pow-suc, ← mul_assoc) (omega (arith, bit_le k (n / 2)))
with_bit_suc k false n = rw (bit_suc, pow-suc, ← mul_assoc) (omega (arith, bit_le k (n / 2)))

half_with_bit : (k : ℕ) (b : Bool) (n : ℕ) → with_bit (suc k) b n / 2 ≡ with_bit k b (n / 2)
half_with_bit k b n = omega (arith, with_bit_suc k b n)

same_digit : (k : ℕ) (b : Bool) (n : ℕ) → with_bit k b n / 2 ^ k % 2 ≡ cond b 1 0
unfolding with_bit
same_digit zero true n = omega arith
same_digit zero false n = omega arith
same_digit (suc k) b n =
    bit_suc k (with_bit (suc k) b n) ∙ ap (λ (x : ℕ). x / 2 ^ k % 2) (half_with_bit k b n) ∙ same_digit k b (n / 2)

is_one : (b : Bool) → eqb (cond b 1 0) 1 ≡ b
is_one true = refl
is_one false = refl

pub bit_same : (k : ℕ) (b : Bool) (n : ℕ) → bit k (with_bit k b n) ≡ b
bit_same k b n = ap (λ (x : ℕ). eqb x 1) (same_digit k b n) ∙ is_one b

above_lowest : (b : Bool) (n : ℕ) → with_bit zero b n / 2 ≡ n / 2
unfolding with_bit
above_lowest true n = omega arith
above_lowest false n = omega arith

other_digit : (j k : ℕ) (b : Bool) (n : ℕ) → (j ≡ k → ⊥) → with_bit k b n / 2 ^ j % 2 ≡ n / 2 ^ j % 2
other_digit zero zero b n h = absurd (h refl)
other_digit zero (suc k) b n h = omega (arith, with_bit_suc k b n)
other_digit (suc j) zero b n h =
    bit_suc j (with_bit zero b n) ∙ ap (λ (x : ℕ). x / 2 ^ j % 2) (above_lowest b n) ∙ sym (bit_suc j n)
other_digit (suc j) (suc k) b n h =
    bit_suc j (with_bit (suc k) b n)
    ∙ ap (λ (x : ℕ). x / 2 ^ j % 2) (half_with_bit k b n)
    ∙ other_digit j k b (n / 2) (λ e. h (ap suc e))
    ∙ sym (bit_suc j n)

pub bit_other : (j k : ℕ) (b : Bool) (n : ℕ) → (j ≡ k → ⊥) → bit j (with_bit k b n) ≡ bit j n
bit_other j k b n h = ap (λ (x : ℕ). eqb x 1) (other_digit j k b n h)

-- setting a bit to what it is changes nothing
pub bit_kept : (k n : ℕ) → with_bit k (bit k n) n ≡ n
unfolding with_bit
bit_kept k n =
    let held : cond (bit k n) (2 ^ k) 0 ≡ n / 2 ^ k % 2 * 2 ^ k =
    digit (λ (x : ℕ). cond (eqb x 1) (2 ^ k) 0 ≡ x * 2 ^ k) (omega arith) (omega arith) (n / 2 ^ k) in
    omega (arith, bit_le k n)

-- ---- the bits of a word without those of a mask

-- `n & !m` of a w-bit word
pub and_not : (w n m : ℕ) → m < 2 ^ w → bit_and n (2 ^ w - 1 - m) ≡ without w n m
unfolding without
and_not zero n m h =
    let none : 2 ^ 0 - 1 - m ≡ 0 = omega arith in
    ap (bit_and n) none ∙ and_zero_r n
and_not (suc w) n m h =
    let half : (2 ^ suc w - 1 - m) / 2 ≡ 2 ^ w - 1 - m / 2 = omega (arith, pow-suc 2 w) in
    let odd : (2 ^ suc w - 1 - m) % 2 ≡ 1 - m % 2 = omega (arith, pow-suc 2 w) in
    let less : m / 2 < 2 ^ w = omega (arith, pow-suc 2 w) in
    and_step n (2 ^ suc w - 1 - m)
    ∙ ap₂ (λ (x y : ℕ). bit_and (n / 2) x * 2 + min (n % 2) y) half odd
    ∙ ap₂ (λ (x y : ℕ). x * 2 + y) (and_not w (n / 2) (m / 2) less)
    (digits (λ (x y : ℕ). min x (1 - y) ≡ cond (eqb y 1) 0 x) refl refl refl refl n m)

without_and : (w n m : ℕ) → n < 2 ^ w → without w n m + bit_and n m ≡ n
unfolding without
without_and zero n m h = rw (lt-one h)
without_and (suc w) n m h =
    let less : n / 2 < 2 ^ w = omega (arith, pow-suc 2 w) in
    let kept : cond (eqb (m % 2) 1) 0 (n % 2) + min (n % 2) (m % 2) ≡ n % 2 =
    digits (λ (x y : ℕ). cond (eqb y 1) 0 x + min x y ≡ x) refl refl refl refl n m in
    omega (arith, and_step n m, without_and w (n / 2) (m / 2) less)

-- `n & !(1 << k)` of a w-bit word
pub and_not_bit : (w k n : ℕ) → n < 2 ^ w → k < w → bit_and n (2 ^ w - 1 - 2 ^ k) ≡ with_bit k false n
unfolding with_bit
and_not_bit w k n h i =
    and_not w n (2 ^ k) (pow-lt i) ∙ omega (arith, without_and w n (2 ^ k) h, and_bit k n)

cleared_lt : (n m : ℕ) → cond (eqb (m % 2) 1) 0 (n % 2) < 2
cleared_lt n m =
    digits (λ (x y : ℕ). cond (eqb y 1) 0 x < 2) (omega arith) (omega arith) (omega arith) (omega arith) n m

-- they are a word of that width
pub without_lt : (w n m : ℕ) → without w n m < 2 ^ w
unfolding without
without_lt zero n m = omega arith
without_lt (suc w) n m = omega (arith, pow-suc 2 w, without_lt w (n / 2) (m / 2), cleared_lt n m)

-- a bit stays where the mask does not have it
pub bit-without : (w j n m : ℕ) → j < w → bit j (without w n m) ≡ (bit j n && not (bit j m))
unfolding without
bit-without zero j n m h = absurd (omega arith)
bit-without (suc w) zero n m h =
    let low : without (suc w) n m / 2 ^ 0 % 2 ≡ cond (eqb (m % 2) 1) 0 (n % 2) = omega (arith, cleared_lt n m) in
    rw (low, div-one n, div-one m)
    (digits (λ (x y : ℕ). eqb (cond (eqb y 1) 0 x) 1 ≡ (eqb x 1 && not (eqb y 1))) refl refl refl refl n m)
bit-without (suc w) (suc j) n m h =
    let half : without (suc w) n m / 2 ≡ without w (n / 2) (m / 2) = omega (arith, cleared_lt n m) in
    rw (bit_suc j (without (suc w) n m), half, bit_suc j n, bit_suc j m)
    (bit-without w j (n / 2) (m / 2) (omega arith))

-- ---- the bits of `&` and `^`

pub and_digit : (k a b : ℕ) → bit_and a b / 2 ^ k % 2 ≡ min (a / 2 ^ k % 2) (b / 2 ^ k % 2)
and_digit k a b = omega (arith, and_shr a b k, and_step (a / 2 ^ k) (b / 2 ^ k))

pub bit-and : (k a b : ℕ) → bit k (bit_and a b) ≡ (bit k a && bit k b)
bit-and k a b =
    ap (λ (x : ℕ). eqb x 1) (and_digit k a b)
    ∙ digits (λ (x y : ℕ). eqb (min x y) 1 ≡ (eqb x 1 && eqb y 1)) refl refl refl refl (a / 2 ^ k) (b / 2 ^ k)

-- where `^` has a bit clear, the two words agree in it
pub bit-xor : (k a b : ℕ) → bit k (bit_xor a b) ≡ false → bit k a ≡ bit k b
bit-xor k a b e =
    let low : differ (a / 2 ^ k % 2) (b / 2 ^ k % 2) < 2 =
    digits (λ (x y : ℕ). differ x y < 2) (omega arith) (omega arith) (omega arith) (omega arith)
    (a / 2 ^ k) (b / 2 ^ k) in
    let differs : bit_xor a b / 2 ^ k % 2 ≡ differ (a / 2 ^ k % 2) (b / 2 ^ k % 2) =
    omega (arith, xor_shr a b k, xor_step (a / 2 ^ k) (b / 2 ^ k)) in
    digits (λ (x y : ℕ). eqb (differ x y) 1 ≡ false → eqb x 1 ≡ eqb y 1) (λ f. refl) (λ f. sym f) (λ f. f) (λ f. refl)
    (a / 2 ^ k) (b / 2 ^ k) (ap (λ (x : ℕ). eqb x 1) (sym differs) ∙ e)
