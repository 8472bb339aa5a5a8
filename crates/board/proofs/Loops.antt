-- Laws of the two kinds of a loop over a list: one that changes each element or gives something for it, from the first
-- on, and one that joins what the elements give to what is joined so far. Assumes nothing.
use Prim.Native.Nat.{ℕ, zero, suc, ◌+◌, ◌≤◌, ◌<◌}
use mathlib.Core.Path.{◌≡◌, refl, sym, ap, ◌∙◌}
use mathlib.Core.Bool.{Bool, true, ◌&&◌}
use mathlib.Core.List.{List, [], ◌∷◌}
use native.Mathlib.Nat.{zero-add, add-zero, suc-add, add-suc}
use native.Mathlib.Numerals.{add-one}
use native.Mathlib.Omega.{arith}
use lib.ListN.{length, get_or, drop, set, drop_of_length-le}
use lib.Seq.{drop-cons}
use Rattle.wide.proofs.Choices.{and_parts}
use Rattle.board.specs.Loops.{All, map_from, fold_from}

-- ---- joining

module _ {A B : Type 0} (f : ℕ → A → B) (g : B → B → B) (z : B) where
  -- the element i and those behind it
  pub fold-next : (xs : List A) (d : A) (i : ℕ) → i < length xs →
      fold_from f g z i (drop i xs) ≡ g (f i (get_or xs i d)) (fold_from f g z (i + 1) (drop (i + 1) xs))
  unfolding fold_from
  fold-next xs d i h = rw (add-one, drop-cons xs i d h)

  -- nothing is left behind the last
  pub fold-past : (xs : List A) (i : ℕ) → length xs ≤ i → fold_from f g z i (drop i xs) ≡ z
  unfolding fold_from
  fold-past xs i h = rw (drop_of_length-le xs {i = i} h)

  -- what a loop that joins from the first on keeps: a is what is joined of the elements below i, and with what is
  -- joined of those behind it is what is joined of all
  abbrev pub Joined : List A → ℕ → B → Type 0
  Joined xs i a = g a (fold_from f g z i (drop i xs)) ≡ fold_from f g z 0 xs

  -- one turn: v is what the element i gives
  pub fold-goes : ((a b c : B) → g (g a b) c ≡ g a (g b c)) → (xs : List A) (d : A) (i : ℕ) (a v : B) → i < length xs →
      v ≡ f i (get_or xs i d) → Joined xs i a → Joined xs (i + 1) (g a v)
  fold-goes joins xs d i a v h e t = rw e (joins a (f i (get_or xs i d)) _ ∙ rw (fold-next xs d i h) at t)

  pub fold-ends : ((a : B) → g a z ≡ a) → (xs : List A) (i : ℕ) (a : B) → length xs ≤ i → Joined xs i a →
      a ≡ fold_from f g z 0 xs
  fold-ends alone xs i a h t = sym (alone a) ∙ rw (fold-past xs i h) at t

-- ---- changing each

module _ {A : Type 0} (f : ℕ → A → A) where
  -- the first n elements are changed; k is the index of the first
  unfoldable pub map_to : ℕ → ℕ → List A → List A
  map_to zero k xs = xs
  map_to (suc n) k [] = []
  map_to (suc n) k (x ∷ xs) = f k x ∷ map_to n (suc k) xs

  -- the next is not changed yet
  pub next_is : (d : A) (n k : ℕ) (xs : List A) → get_or (map_to n k xs) n d ≡ get_or xs n d
  unfolding map_to
  next_is d zero k xs = refl
  next_is d (suc n) k [] = refl
  next_is d (suc n) k (x ∷ xs) = next_is d n (suc k) xs

  set_next : (d : A) (n k : ℕ) (xs : List A) → n < length xs →
      set (map_to n k xs) n (f (k + n) (get_or xs n d)) ≡ map_to (suc n) k xs
  unfolding map_to
  set_next d n k [] h = absurd (omega arith)
  set_next d zero k (x ∷ xs) h = ap (λ (i : ℕ). f i x ∷ xs) (omega arith)
  set_next d (suc n) k (x ∷ xs) h =
      ap (λ (l : List A). f k x ∷ l)
      (ap (λ (i : ℕ). set (map_to n (suc k) xs) n (f i (get_or xs n d))) (add-suc k n ∙ sym (suc-add k n))
      ∙ set_next d n (suc k) xs (omega arith))

  -- one turn: r is the next element's change
  pub map-goes : (d : A) (i : ℕ) (xs out : List A) (r : A) → i < length xs → out ≡ map_to i 0 xs →
      r ≡ f i (get_or out i d) →
      set out i r ≡ map_to (i + 1) 0 xs
  map-goes d i xs out r h e q =
      rw (q, e, next_is d i 0 xs, add-one)
      (ap (λ (n : ℕ). set (map_to i 0 xs) i (f n (get_or xs i d))) (sym (zero-add i)) ∙ set_next d i 0 xs h)

  pub map-ends : (n k : ℕ) (xs : List A) → length xs ≡ n → map_to n k xs ≡ map_from f k xs
  unfolding map_to map_from
  map-ends zero k [] e = refl
  map-ends zero k (x ∷ xs) e = absurd (omega arith)
  map-ends (suc n) k [] e = absurd (omega arith)
  map-ends (suc n) k (x ∷ xs) e = ap (λ (l : List A). f k x ∷ l) (map-ends n (suc k) xs (omega arith))

-- ---- four elements

-- what holds of every four elements holds of a list of that length
pub by_four : {A : Type 0} (P : List A → Type 0) → ((a b c d : A) → P (a ∷ b ∷ c ∷ d ∷ [])) → (xs : List A) →
    length xs ≡ 4 → P xs
by_four P f (a ∷ b ∷ c ∷ d ∷ []) e = f a b c d
by_four P f [] e = absurd (omega arith)
by_four P f (a ∷ []) e = absurd (omega arith)
by_four P f (a ∷ b ∷ []) e = absurd (omega arith)
by_four P f (a ∷ b ∷ c ∷ []) e = absurd (omega arith)
by_four P f (a ∷ b ∷ c ∷ d ∷ x ∷ xs) e = absurd (omega arith)

-- ---- giving something for each

pub map-length : {A B : Type 0} (f : ℕ → A → B) (k : ℕ) (xs : List A) → length (map_from f k xs) ≡ length xs
unfolding map_from
map-length f k [] = refl
map-length f k (x ∷ xs) = ap suc (map-length f (suc k) xs)

-- what is given for the element i; k is the index of the first
pub map_at : {A B : Type 0} (f : ℕ → A → B) (d : A) (z : B) (xs : List A) (i k : ℕ) → i < length xs →
    get_or (map_from f k xs) i z ≡ f (k + i) (get_or xs i d)
unfolding map_from
map_at f d z [] i k h = absurd (omega arith)
map_at f d z (x ∷ xs) zero k h = ap (λ (n : ℕ). f n x) (sym (add-zero k))
map_at f d z (x ∷ xs) (suc i) k h =
    map_at f d z xs i (suc k) (omega arith) ∙ ap (λ (n : ℕ). f n (get_or xs i d)) (suc-add k i ∙ sym (add-suc k i))

module _ {A B : Type 0} (f : ℕ → A → B) (z : B) where
  -- what f gives of the first n elements, and z for the others; k is the index of the first
  unfoldable pub given_to : ℕ → ℕ → List A → List B
  given_to n k [] = []
  given_to zero k (x ∷ xs) = z ∷ given_to zero (suc k) xs
  given_to (suc n) k (x ∷ xs) = f k x ∷ given_to n (suc k) xs

  pub given-length : (n k : ℕ) (xs : List A) → length (given_to n k xs) ≡ length xs
  unfolding given_to
  given-length n k [] = refl
  given-length zero k (x ∷ xs) = ap suc (given-length zero (suc k) xs)
  given-length (suc n) k (x ∷ xs) = ap suc (given-length n (suc k) xs)

  -- nothing is given for the next
  pub given-next : (n k : ℕ) (xs : List A) → get_or (given_to n k xs) n z ≡ z
  unfolding given_to
  given-next n k [] = refl
  given-next zero k (x ∷ xs) = refl
  given-next (suc n) k (x ∷ xs) = given-next n (suc k) xs

  -- nothing is given yet
  pub given-starts : (k : ℕ) (xs : List A) → length xs ≡ 4 → z ∷ z ∷ z ∷ z ∷ [] ≡ given_to 0 k xs
  unfolding given_to
  given-starts k = by_four (λ xs. z ∷ z ∷ z ∷ z ∷ [] ≡ given_to 0 k xs) (λ _ _ _ _. refl)

  set_given : (d : A) (n k : ℕ) (xs : List A) → n < length xs →
      set (given_to n k xs) n (f (k + n) (get_or xs n d)) ≡ given_to (suc n) k xs
  unfolding given_to
  set_given d n k [] h = absurd (omega arith)
  set_given d zero k (x ∷ xs) h = ap (λ (i : ℕ). f i x ∷ given_to zero (suc k) xs) (omega arith)
  set_given d (suc n) k (x ∷ xs) h =
      ap (λ (l : List B). f k x ∷ l)
      (ap (λ (i : ℕ). set (given_to n (suc k) xs) n (f i (get_or xs n d))) (add-suc k n ∙ sym (suc-add k n))
      ∙ set_given d n (suc k) xs (omega arith))

  -- one turn: r is what the next element gives
  pub given-goes : (d : A) (i : ℕ) (xs : List A) (out : List B) (r : B) → i < length xs → out ≡ given_to i 0 xs →
      r ≡ f i (get_or xs i d) → set out i r ≡ given_to (i + 1) 0 xs
  given-goes d i xs out r h e q =
      rw (q, e, add-one)
      (ap (λ (n : ℕ). set (given_to i 0 xs) i (f n (get_or xs i d))) (sym (zero-add i)) ∙ set_given d i 0 xs h)

  pub given-ends : (n k : ℕ) (xs : List A) → length xs ≡ n → given_to n k xs ≡ map_from f k xs
  unfolding given_to map_from
  given-ends n k [] e = refl
  given-ends zero k (x ∷ xs) e = absurd (omega arith)
  given-ends (suc n) k (x ∷ xs) e = ap (λ (l : List B). f k x ∷ l) (given-ends n (suc k) xs (omega arith))

-- a property of every element is kept where each is changed
pub map_all : {A : Type 0} (P : A → Type 0) (f : ℕ → A → A) → ((k : ℕ) (x : A) → P x → P (f k x)) →
    (k : ℕ) (xs : List A) → All P xs → All P (map_from f k xs)
unfolding map_from
map_all P f keeps k [] h = h
map_all P f keeps k (x ∷ xs) h = (keeps k x h.0, map_all P f keeps (suc k) xs h.1)

-- and where what it is follows from another
pub all_so : {A : Type 0} (P Q : A → Type 0) → ((x : A) → P x → Q x) → (xs : List A) → All P xs → All Q xs
all_so P Q so [] h = h
all_so P Q so (x ∷ xs) h = (so x h.0, all_so P Q so xs h.1)

-- and it holds of each
pub each_at : {A : Type 0} (P : A → Type 0) (d : A) (xs : List A) (i : ℕ) → i < length xs → All P xs → P (get_or xs i d)
each_at P d [] i h e = absurd (omega arith)
each_at P d (x ∷ xs) zero h e = e.0
each_at P d (x ∷ xs) (suc i) h e = each_at P d xs i (omega arith) e.1

-- ---- a test of every element

-- what is found of every element holds of each
pub all_at : {A : Type 0} (p : A → Bool) (d : A) (xs : List A) (i k : ℕ) → i < length xs →
    fold_from (λ _ x. p x) ◌&&◌ true k xs ≡ true → p (get_or xs i d) ≡ true
unfolding fold_from
all_at p d [] i k h e = absurd (omega arith)
all_at p d (x ∷ xs) zero k h e = (and_parts (p x) (fold_from (λ _ y. p y) ◌&&◌ true (suc k) xs) e).0
all_at p d (x ∷ xs) (suc i) k h e =
    all_at p d xs i (suc k) (omega arith) (and_parts (p x) (fold_from (λ _ y. p y) ◌&&◌ true (suc k) xs) e).1
