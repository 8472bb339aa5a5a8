-- A property of every element of a list holds of each, and is kept where one is changed, and so is what the elements
-- give together. Assumes nothing.
use Prim.Native.Nat.{ℕ, zero, suc}
use mathlib.Core.Path.{◌≡◌, refl}
use mathlib.Core.List.{List, [], ◌∷◌}
use lib.ListN.{get_or, set}
use Rattle.board.specs.Loops.{All, fold_from}

module _ {A : Type 0} (P : A → Type 0) where
  -- an element, or what stands for one that is not there
  pub all-get : (d : A) → P d → (n : ℕ) (xs : List A) → All P xs → P (get_or xs n d)
  all-get d p n [] h = p
  all-get d p zero (x ∷ xs) h = h.0
  all-get d p (suc n) (x ∷ xs) h = all-get d p n xs h.1

  pub all_set : (y : A) → P y → (n : ℕ) (xs : List A) → All P xs → All P (set xs n y)
  all_set y p n [] h = h
  all_set y p zero (x ∷ xs) h = (p, h.1)
  all_set y p (suc n) (x ∷ xs) h = (h.0, all_set y p n xs h.1)

-- what the elements give is the same where one is changed that gives the same
pub set_fold : {A B : Type 0} (g : A → B) (join : B → B → B) (z : B) (f : A → A) → ((x : A) → g (f x) ≡ g x) →
    (d : A) (n k : ℕ) (xs : List A) →
    fold_from (λ _ x. g x) join z k (set xs n (f (get_or xs n d))) ≡ fold_from (λ _ x. g x) join z k xs
unfolding fold_from
set_fold g join z f same d n k [] = refl
set_fold g join z f same d zero k (x ∷ xs) = rw (same x)
set_fold g join z f same d (suc n) k (x ∷ xs) = rw (set_fold g join z f same d n (suc k) xs)
