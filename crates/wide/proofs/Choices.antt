-- Laws of choices by a test, for rules that are written with `cond`. Assumes nothing.
use Rattle.std.proofs.Common.{◌≡◌, ℕ, ◌≤◌, Bool, true, false, cond, ◌&&◌, leb, sym, refl, ◌∙◌, le-leb, leb-true}
use mathlib.Core.Bool.{false≢true}

-- a property of a choice: of each side, where the test says so
pub choose : {A : Type 0} (P : A → Type 0) (b : Bool) {x y : A} → (b ≡ true → P x) → (b ≡ false → P y) → P (cond b x y)
choose P true h k = h refl
choose P false h k = k refl

-- the two cases of a test
pub either : {A : Type 0} (b : Bool) → (b ≡ true → A) → (b ≡ false → A) → A
either true h k = h refl
either false h k = k refl

-- two tests of order that say the same
pub leb_same : (a b c d : ℕ) → (a ≤ b → c ≤ d) → (c ≤ d → a ≤ b) → leb a b ≡ leb c d
leb_same a b c d h k =
    either (leb a b) (λ e. e ∙ sym (le-leb c d (h (leb-true a b e))))
    (λ e. either (leb c d) (λ f. le-leb a b (k (leb-true c d f)) ∙ sym f) (λ f. e ∙ sym f))

-- a conjunction taken apart, and made
pub and_parts : (a b : Bool) → (a && b) ≡ true → (a ≡ true) × (b ≡ true)
and_parts true b e = (refl, e)
and_parts false b e = absurd (false≢true e)

pub and_join : (a b : Bool) → a ≡ true → b ≡ true → (a && b) ≡ true
and_join a b p q = rw (p, q)
