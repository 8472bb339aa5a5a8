-- Lists: a property of every element, and two kinds of loop. One gives a value for each element, the other joins the
-- values of all.
use Rattle.std.specs.Prelude.{ℕ, suc, List, [], ◌∷◌}

-- a property of every element
abbrev pub All : {A : Type 0} → (A → Type 0) → List A → Type 0
All P [] = Unit {0}
All P (x ∷ xs) = P x × All P xs

-- f of each element and its index, the first index being k
unfoldable pub map_from : {A B : Type 0} → (ℕ → A → B) → ℕ → List A → List B
map_from f k [] = []
map_from f k (x ∷ xs) = f k x ∷ map_from f (suc k) xs

-- f of each element and its index, joined by g; z for the empty list
unfoldable pub fold_from : {A B : Type 0} → (ℕ → A → B) → (B → B → B) → B → ℕ → List A → B
fold_from f g z k [] = z
fold_from f g z k (x ∷ xs) = g (f k x) (fold_from f g z (suc k) xs)
