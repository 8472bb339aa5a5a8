-- Laws of numbers as text: the digits that the code counts are those of the rule. Assumes nothing.
use Prim.Native.Nat.{ℕ, zero, suc, ◌*◌, ◌/◌, ◌^◌, ◌≤◌, ◌<◌}
use native.Mathlib.Nat.{pow-suc, pow-le-pow_right}
use native.Mathlib.Numerals.{sub-one}
use native.Mathlib.Omega.{arith}
use mathlib.Core.Path.{◌≡◌, refl, ap}
use mathlib.Core.List.{List}
use lib.Dec.{ltb}
use lib.ListN.{length, length-append}
use borrow.Author.Tests.{ltb-true, ltb-false, lt-ltb}
use Rattle.wide.proofs.Choices.{either}
use Rattle.io.specs.Digits.{last_digits, IsDigitCount}
use Rattle.listing.specs.Listing.{places_of, decimal_text}

-- a number below ten has one digit
one_place : (n k : ℕ) → n < 10 → IsDigitCount 10 1 n k → 1 ≡ k
one_place n zero h f = absurd (omega (arith, f.0))
one_place n (suc zero) h f = refl
one_place n (suc (suc k)) h f =
    let p : 10 ^ 1 ≤ 10 ^ suc k = pow-le-pow_right {n = 10} (omega arith) {i = 1} {j = suc k} (omega arith) in
    let q : 10 ^ suc k ≤ n = rw sub-one at (f.2 (omega arith)) in
    absurd (omega arith)

-- the other digits of a number are those of its tenth
fewest_tenth : (n k : ℕ) → 10 ≤ n → IsDigitCount 10 1 n (suc (suc k)) → IsDigitCount 10 1 (n / 10) (suc k)
fewest_tenth n k h f =
    let p : n < 10 ^ suc k * 10 = rw (pow-suc 10 (suc k)) at f.1 in
    let q : 10 ^ k * 10 ≤ n = rw (sub-one, pow-suc 10 k) at (f.2 (omega arith)) in
    (omega arith, omega arith, λ _. rw sub-one (omega arith))

-- a number from ten on has one digit more than its tenth
more_places : (n k : ℕ) → 10 ≤ n → IsDigitCount 10 1 n k → (m : ℕ) →
    ((k : ℕ) → IsDigitCount 10 1 (n / 10) k → m ≡ k) → suc m ≡ k
more_places n zero l f m next = absurd (omega (arith, f.0))
more_places n (suc zero) l f m next = absurd (omega (arith, f.1))
more_places n (suc (suc k)) l f m next = ap suc (next (suc k) (fewest_tenth n k l f))

-- the fewest digits are as many as the rule counts
pub places_are : (most n k : ℕ) → n ≤ most → IsDigitCount 10 1 n k → places_of most n ≡ k
unfolding places_of
places_are zero n k h f = one_place n k (omega arith) f
places_are (suc most) n k h f =
    either (ltb n 10) (λ e. rw (e, places_of) (one_place n k (ltb-true n 10 e) f))
    (λ e. rw (e, places_of)
    (more_places n k (ltb-false n 10 e) f _
    (λ j g. places_are most (n / 10) j (omega (arith, ltb-false n 10 e)) g)))

pub decimal_is : (n k : ℕ) (text : List ℕ) → IsDigitCount 10 1 n k → text ≡ last_digits 10 k n → text ≡ decimal_text n
unfolding decimal_text
decimal_is n k text f e = rw (places_are n n k (omega arith) f) e

-- the digits of a number below 10 ^ (k + 1), which has at most k + 1
tenth-below : (n k : ℕ) → n < 10 ^ suc (suc k) → n / 10 < 10 ^ suc k
tenth-below n k h = let p : n < 10 ^ suc k * 10 = rw (pow-suc 10 (suc k)) at h in omega arith

places-few : (most n k : ℕ) → n < 10 ^ suc k → places_of most n ≤ suc k
unfolding places_of
places-few zero n k h = omega arith
places-few (suc most) n zero h = rw (lt-ltb n 10 (omega arith), places_of) (omega arith)
places-few (suc most) n (suc k) h =
    let few = places-few most (n / 10) k (tenth-below n k h) in
    either (ltb n 10) (λ e. rw (e, places_of) (omega arith)) (λ e. rw (e, places_of) (omega (arith, few)))

digits-length : (k n : ℕ) → length (last_digits 10 k n) ≡ k
digits-length zero n = refl
digits-length (suc k) n = simp length-append (omega (arith, digits-length k (n / 10)))

-- a number of 64 bits has at most twenty digits
pub decimal-length : (n : ℕ) → n < 2 ^ 64 → length (decimal_text n) ≤ 20
unfolding decimal_text
decimal-length n h = omega (arith, digits-length (places_of n n) n, places-few n n 19 (omega arith))
