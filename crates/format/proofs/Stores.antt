-- Laws of stores into a list in parts: a run of stores over another, and one in front of another; numbers of sixteen
-- bytes, one of them replaced. Assumes nothing.
use mathlib.Core.Path.{◌≡◌, refl, sym, ap, ◌∙◌}
use mathlib.Core.List.{List, [], ◌∷◌, ◌++◌, append-nil}
use Prim.Native.Nat.{ℕ, zero, suc, ◌+◌, ◌*◌, ◌^◌, ◌<◌}
use native.Mathlib.Nat.{add-zero, add-suc, suc-add}
use native.Mathlib.Omega.{arith}
use lib.ListN.{length, get_or, set, length-append}
use lib.Seq.{sets, set-set, set_comm, set-get_or}
use Rattle.wide.specs.declared.number.Wide.{Wide}
use Rattle.wide.specs.Number.{value_of}
use Rattle.wide.specs.Fields.{be}
use Rattle.wide.proofs.BigEndian.{length-be, be_two_words, sets-append, sets_two_words}
use Rattle.format.specs.CodeAnswers.{wides}

module _ {A : Type 0} where
  -- a store, and a run of stores behind it, in either order
  set_past : (l : List A) (i k : ℕ) (vs : List A) (a : A) → set (sets l (suc (i + k)) vs) i a
      ≡ sets (set l i a) (suc (i + k)) vs
  set_past l i k [] a = refl
  set_past l i k (v ∷ vs) a =
      ap (λ (n : ℕ). set (sets (set l (suc (i + k)) v) (suc n) vs) i a) (sym (add-suc i k))
      ∙ set_past (set l (suc (i + k)) v) i (suc k) vs a
      ∙ ap (λ (n : ℕ). sets (set (set l (suc (i + k)) v) i a) (suc n) vs) (add-suc i k)
      ∙ ap (λ (m : List A). sets m (suc (suc (i + k))) vs) (set_comm l (suc (i + k)) i v a (λ e. omega arith))

  -- a run of stores, and then one right in front of it, are one run
  pub sets_behind : (l : List A) (i : ℕ) (xs ys : List A) →
      sets (sets l (i + length xs) ys) i xs ≡ sets l i (xs ++ ys)
  sets_behind l i [] ys = rw add-zero
  sets_behind l i (x ∷ xs) ys =
      ap (λ (n : ℕ). sets (set (sets l n ys) i x) (suc i) xs) (add-suc i (length xs))
      ∙ ap (λ (m : List A). sets m (suc i) xs) (set_past l i (length xs) ys x)
      ∙ ap (λ (n : ℕ). sets (sets (set l i x) n ys) (suc i) xs) (sym (suc-add i (length xs)))
      ∙ sets_behind (set l i x) (suc i) xs ys

  -- a run of stores over the first part of another
  pub sets_over : (l : List A) (i : ℕ) (xs ys rest : List A) → length xs ≡ length ys →
      sets (sets l i (xs ++ rest)) i ys ≡ sets l i (ys ++ rest)
  sets_over l i [] [] rest e = refl
  sets_over l i [] (y ∷ ys) rest e = absurd (omega arith)
  sets_over l i (x ∷ xs) [] rest e = absurd (omega arith)
  sets_over l i (x ∷ xs) (y ∷ ys) rest e =
      ap (λ (n : ℕ). sets (set (sets (set l i x) (suc n) (xs ++ rest)) i y) (suc i) ys) (sym (add-zero i))
      ∙ ap (λ (m : List A). sets m (suc i) ys) (set_past (set l i x) i 0 (xs ++ rest) y)
      ∙ ap (λ (n : ℕ). sets (sets (set (set l i x) i y) (suc n) (xs ++ rest)) (suc i) ys) (add-zero i)
      ∙ ap (λ (m : List A). sets (sets m (suc i) (xs ++ rest)) (suc i) ys) (set-set l i x y)
      ∙ sets_over (set l i y) (suc i) xs ys rest (omega arith)

-- ---- numbers of sixteen bytes

pub wides-length : (ns : List ℕ) → length (wides ns) ≡ 16 * length ns
unfolding wides
wides-length [] = refl
wides-length (n ∷ ns) = rw (length-append, length-be, wides-length ns) (omega arith)

-- one, and bytes right behind it; j is where they go
wide_then : (l : List ℕ) (at j n : ℕ) (xs : List ℕ) → at + 16 ≡ j →
    sets (sets l at (be 16 n)) j xs ≡ sets l at (be 16 n ++ xs)
wide_then l at j n xs e =
    ap (λ (k : ℕ). sets (sets l at (be 16 n)) k xs) (sym e ∙ ap (λ (k : ℕ). at + k) (sym (length-be 16 n)))
    ∙ sets-append l at (be 16 n) xs

-- stored one by one, each behind the one before
pub four-wides : (l : List ℕ) (at a b c d : ℕ) →
    sets (sets (sets (sets l at (be 16 a)) (at + 16) (be 16 b)) (at + 32) (be 16 c)) (at + 48) (be 16 d)
    ≡ sets l at (wides (a ∷ b ∷ c ∷ d ∷ []))
unfolding wides
four-wides l at a b c d =
    ap (sets (sets (sets (sets l at (be 16 a)) (at + 16) (be 16 b)) (at + 32) (be 16 c)) (at + 48))
    (sym (append-nil (be 16 d)))
    ∙ wide_then (sets (sets l at (be 16 a)) (at + 16) (be 16 b)) (at + 32) (at + 48) c (wides (d ∷ [])) (omega arith)
    ∙ wide_then (sets l at (be 16 a)) (at + 16) (at + 32) b (wides (c ∷ d ∷ [])) (omega arith)
    ∙ wide_then l at (at + 16) a (wides (b ∷ c ∷ d ∷ [])) refl

-- one of them replaced
pub wides_set : (ns : List ℕ) (i n : ℕ) → i < length ns → (l : List ℕ) (at : ℕ) →
    sets (sets l at (wides ns)) (at + 16 * i) (be 16 n) ≡ sets l at (wides (set ns i n))
unfolding wides
wides_set [] i n h l at = absurd (omega arith)
wides_set (m ∷ ns) zero n h l at =
    ap (λ (k : ℕ). sets (sets l at (be 16 m ++ wides ns)) k (be 16 n)) (omega arith)
    ∙ sets_over l at (be 16 m) (be 16 n) (wides ns) (length-be 16 m ∙ sym (length-be 16 n))
wides_set (m ∷ ns) (suc i) n h l at =
    ap (λ (x : List ℕ). sets x (at + 16 * suc i) (be 16 n)) (sym (wide_then l at (at + 16) m (wides ns) refl))
    ∙ ap (λ (k : ℕ). sets (sets (sets l at (be 16 m)) (at + 16) (wides ns)) k (be 16 n)) (omega arith)
    ∙ wides_set ns i n (omega arith) (sets l at (be 16 m)) (at + 16)
    ∙ wide_then l at (at + 16) m (wides (set ns i n)) refl

-- one that is 0 already
pub wides_zero : (ns : List ℕ) (i : ℕ) → i < length ns → get_or ns i 0 ≡ 0 → (l : List ℕ) (at : ℕ) →
    sets (sets l at (wides ns)) (at + 16 * i) (be 16 0) ≡ sets l at (wides ns)
wides_zero ns i h z l at =
    wides_set ns i 0 h l at
    ∙ ap (λ (m : List ℕ). sets l at (wides m)) (ap (set ns i) (sym z) ∙ set-get_or ns i 0)

-- all of them replaced
pub wides-over : (ms ns : List ℕ) → length ms ≡ length ns → (l : List ℕ) (at : ℕ) →
    sets (sets l at (wides ms)) at (wides ns) ≡ sets l at (wides ns)
wides-over ms ns e l at =
    ap (λ (x : List ℕ). sets (sets l at x) at (wides ns)) (sym (append-nil (wides ms)))
    ∙ sets_over l at (wides ms) (wides ns) [] (wides-length ms ∙ ap (λ (n : ℕ). 16 * n) e ∙ sym (wides-length ns))
    ∙ ap (sets l at) (append-nil (wides ns))

-- ---- a count over one of 0

module _ (l : List ℕ) (at : ℕ) (w : Wide) (fits : w.low < 2 ^ 64) (zeros : sets l at (be 16 0) ≡ l) where
  -- the low word, and the high one in front of it
  pub count-whole : sets (sets l (at + 8) (be 8 w.low)) at (be 8 w.high) ≡ sets l at (be 16 (value_of w))
  unfolding value_of
  count-whole =
      ap (λ (n : ℕ). sets (sets l (at + n) (be 8 w.low)) at (be 8 w.high)) (sym (length-be 8 w.high))
      ∙ sets_behind l at (be 8 w.high) (be 8 w.low)
      ∙ ap (sets l at) (sym (be_two_words w.high w.low fits))

  -- the low word alone, where the high one is 0
  pub count_low : w.high ≡ 0 → sets l (at + 8) (be 8 w.low) ≡ sets l at (be 16 (value_of w))
  unfolding value_of
  count_low z =
      let front : sets l at (be 8 0) ≡ l =
      ap (λ (x : List ℕ). sets x at (be 8 0)) (sym halves) ∙ sets_over l at (be 8 0) (be 8 0) (be 8 0) refl ∙ halves in
      ap (λ (x : List ℕ). sets x (at + 8) (be 8 w.low)) (sym front)
      ∙ sets_two_words l at 0 w.low fits
      ∙ rw z
    where
      halves : sets l at (be 8 0 ++ be 8 0) ≡ l
      halves = ap (sets l at) (sym (be_two_words 0 0 (omega arith))) ∙ zeros
