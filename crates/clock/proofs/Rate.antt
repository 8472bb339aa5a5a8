-- A rate: what proofs use of it, and that the rates of a sound board are such. Proofs take what they need of the rate
-- from here, and not from its value. Assumes nothing.
use Prim.Native.Nat.{ℕ, ◌*◌, ◌%◌, ◌^◌, ◌≤◌, ◌<◌}
use mathlib.Core.Path.{◌≡◌, refl, subst⁻¹}
use mathlib.Core.Bool.{true}
use native.Mathlib.Omega.{arith}
use lib.Dec.{eqb}
use borrow.Author.Tests.{eqb-true}
use Rattle.wide.proofs.Choices.{either}
use Rattle.clock.specs.Clock.{poll_limit}
use Rattle.clock.specs.Sound.{sound_rate}
use Rattle.clock.specs.CodeTime.{is_period}
use Rattle.clock.specs.Fields.{fresh_rate}

-- ---- a rate that the rules are for

pub record Rate (rate : ℕ) : Type 0 where
  pub positive : 0 < rate
  pub thousands : rate % 1_000 ≡ 0

pub limit_positive : (rate : ℕ) → Rate rate → 0 < poll_limit rate
limit_positive rate r = let p = r.positive in let t = r.thousands in omega arith

-- ---- the rates of a sound board are such

-- what holds of the three holds of each
pub of_three : (P : ℕ → Type 0) (rate : ℕ) → sound_rate rate ≡ true → P 1_000_000 → P 12_000_000 → P fresh_rate → P rate
unfolding sound_rate
of_three P rate e p q r =
    either (eqb rate 1_000_000) (λ h. subst⁻¹ P (eqb-true rate 1_000_000 h) p)
    (λ h. either (eqb rate 12_000_000) (λ i. subst⁻¹ P (eqb-true rate 12_000_000 i) q)
    (λ i. subst⁻¹ P (eqb-true rate fresh_rate (rw (h, i) at e)) r))

module _ (rate : ℕ) (e : sound_rate rate ≡ true) where
  pub three-rate : Rate rate
  three-rate = record {
    positive = of_three (λ n. 0 < n) rate e (omega arith) (omega arith) (omega arith);
    thousands = of_three (λ n. n % 1_000 ≡ 0) rate e refl refl refl;
  }

  -- what a word needs
  pub rate-fits : rate ≤ 2 ^ 32
  rate-fits = of_three (λ n. n ≤ 2 ^ 32) rate e (omega arith) (omega arith) (omega arith)

  -- a second and the time between two polls are periods that the code divides by
  pub second-period : is_period rate ≡ true
  unfolding is_period
  second-period = rw e

  pub limit-period : is_period (poll_limit rate) ≡ true
  unfolding is_period sound_rate
  limit-period = of_three (λ n. is_period (poll_limit n) ≡ true) rate e refl refl refl

-- ---- the periods that the code divides by

pub of_six : (P : ℕ → Type 0) (p : ℕ) → is_period p ≡ true →
    P 48_000_000 → P 12_000_000 → P 1_000_000 → P 48_000 → P 12_000 → P 1_000 → P p
unfolding is_period
of_six P p e a b c d f g =
    either (sound_rate p) (λ s. of_three P p s c b a)
    (λ n. of_three (λ m. p * 1_000 ≡ m → P p) (p * 1_000) (rw n at e) (λ h. at 1_000 g (omega arith))
    (λ h. at 12_000 f (omega arith)) (λ h. at 48_000 d (omega arith)) refl)
  where
    at : (q : ℕ) → P q → p ≡ q → P p
    at q h i = subst⁻¹ P i h

module _ (p : ℕ) (e : is_period p ≡ true) where
  pub period-above : 1 < p
  period-above =
      of_six (λ n. 1 < n) p e (omega arith) (omega arith) (omega arith) (omega arith) (omega arith) (omega arith)

  pub period-fits : p ≤ 2 ^ 32
  period-fits =
      of_six (λ n. n ≤ 2 ^ 32) p e (omega arith) (omega arith) (omega arith) (omega arith) (omega arith) (omega arith)

  -- one that is none of the first five is the last
  pub last-period : (p ≡ 48_000_000 → ⊥) → (p ≡ 12_000_000 → ⊥) → (p ≡ 1_000_000 → ⊥) → (p ≡ 48_000 → ⊥) →
      (p ≡ 12_000 → ⊥) → p ≡ 1_000
  last-period =
      of_six
      (λ n. (n ≡ 48_000_000 → ⊥) → (n ≡ 12_000_000 → ⊥) → (n ≡ 1_000_000 → ⊥) → (n ≡ 48_000 → ⊥) →
      (n ≡ 12_000 → ⊥) → n ≡ 1_000)
      p e (λ h _ _ _ _. absurd (h refl)) (λ _ h _ _ _. absurd (h refl)) (λ _ _ h _ _. absurd (h refl))
      (λ _ _ _ h _. absurd (h refl)) (λ _ _ _ _ h. absurd (h refl)) (λ _ _ _ _ _. refl)
