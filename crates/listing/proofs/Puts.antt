-- Laws of texts that are put into a buffer one behind another. Assumes nothing.
use Prim.Native.Nat.{ℕ, suc}
use native.Mathlib.Omega.{arith}
use mathlib.Core.Path.{◌≡◌, refl, sym, ap, ◌∙◌}
use mathlib.Core.List.{List, [], ◌∷◌, ◌++◌}
use lib.ListN.{length, get_or, set, take, length-append}
use lib.Seq.{sets, take-nil, drop-nil}
use Rattle.wide.proofs.BigEndian.{sets-append}
use Rattle.listing.specs.declared.Text.{Text}
use Rattle.listing.specs.Listing.{with_text}
use Rattle.listing.specs.CodePuts.{Counted, Put}

-- ---- one text behind another

pub put_none : (a : Text) → Put [] a a
put_none a = record { same = refl; ends = omega arith; stores = refl }

pub counted_is : {t u : List ℕ} {at : ℕ} → t ≡ u → Counted u at → Counted t at
counted_is e h = record { fits = omega (arith, h.fits, ap length e) }

pub put_is : {t u : List ℕ} {a b : Text} → t ≡ u → Put t a b → Put u a b
put_is {a = a} e p =
    record { same = p.same; ends = omega (arith, p.ends, ap length e); stores = p.stores ∙ ap (sets a.buf.now a.at) e }

pub counted_first : (t u : List ℕ) {at : ℕ} → Counted (t ++ u) at → Counted t at
counted_first t u h = record { fits = omega (arith, h.fits, length-append t u) }

module _ {t : List ℕ} {a b : Text} (p : Put t a b) where
  pub counted-second : (u : List ℕ) → Counted (t ++ u) a.at → Counted u b.at
  counted-second u h = record { fits = omega (arith, h.fits, p.ends, length-append t u) }

  pub put_then : {u : List ℕ} {c : Text} → Put u b c → Put (t ++ u) a c
  put_then {u = u} q =
      record {
        same = q.same ∙ p.same;
        ends = omega (arith, p.ends, q.ends, length-append t u);
        stores = q.stores ∙ rw (p.stores, p.ends) (sets-append a.buf.now a.at t u);
      }

  -- what a text goes on with
  pub counted-next : {w : List ℕ} (u v : List ℕ) → w ≡ t ++ (u ++ v) → Counted w a.at → Counted u b.at
  counted-next u v e h = counted_first u v (counted-second (u ++ v) (counted_is (sym e) h))

-- the length of texts one behind another, for a search
pub ruleset texts = (length-append)

-- ---- a text from the buffer's start on

sets_behind : (x : ℕ) (l : List ℕ) (i : ℕ) (vs : List ℕ) → sets (x ∷ l) (suc i) vs ≡ x ∷ sets l i vs
sets_behind x l i [] = refl
sets_behind x l i (v ∷ vs) = sets_behind x (set l i v) (suc i) vs

sets_none : (i : ℕ) (vs : List ℕ) → sets [] i vs ≡ []
sets_none i [] = refl
sets_none i (v ∷ vs) = sets_none (suc i) vs

-- stores past the buffer's end do nothing, so it holds the text's beginning
pub put_text : (old text : List ℕ) → sets old 0 text ≡ with_text text old
unfolding with_text
put_text old [] = rw (take-nil (length old))
put_text [] (v ∷ vs) = sets_none 0 (v ∷ vs) ∙ sym (drop-nil (length (v ∷ vs)))
put_text (x ∷ old) (v ∷ vs) = sets_behind v old 0 vs ∙ ap (λ (l : List ℕ). v ∷ l) (put_text old vs)
