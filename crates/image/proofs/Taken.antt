-- The loop over a table of widths that takes members out. Assumes nothing.
use Prim.Native.Nat.{ℕ, zero, suc, ◌+◌, ◌^◌, ◌≤◌, ◌<◌}
use native.Mathlib.Nat.{zero-add}
use native.Mathlib.Numerals.{add-one}
use native.Mathlib.Omega.{arith}
use mathlib.Core.Path.{◌≡◌, refl, sym, ap, ◌∙◌}
use mathlib.Core.List.{List, [], ◌∷◌, ◌++◌, append-nil}
use lib.ListN.{length, get_or, set, drop, length-set, drop_of_length-le}
use lib.Dec.{leb}
use borrow.Author.Tests.{leb-true}
use mathlib.Core.Bool.{true}
use Rattle.wide.proofs.Choices.{and_parts}
use Rattle.image.specs.CodeTables.{up_to_eight, FitFrom}
use lib.Seq.{sets, drop-cons}
use Rattle.wide.specs.Fields.{be_at}
use Rattle.format.specs.Format.{sum, members_at}
use Rattle.format.proofs.Frames.{sets_front, members_below}

-- ---- widths that are left

-- before the width of index i
left : (ws : List ℕ) (i : ℕ) → i < length ws → sum (drop i ws) ≡ get_or ws i 0 + sum (drop (suc i) ws)
left ws i h = ap sum (drop-cons ws i 0 h)

none_left : (ws : List ℕ) (i : ℕ) → length ws ≤ i → drop i ws ≡ []
none_left ws i h = drop_of_length-le ws h

-- each width of a table
pub width_most : (ws : List ℕ) → up_to_eight ws ≡ true → (i : ℕ) → get_or ws i 0 ≤ 8
width_most [] e i = omega arith
width_most (w ∷ ws) e zero = leb-true w 8 (and_parts (leb w 8) (up_to_eight ws) e).0
width_most (w ∷ ws) e (suc i) = width_most ws (and_parts (leb w 8) (up_to_eight ws) e).1 i

-- ---- taking

-- there are as many members as widths
pub members_count : (l : List ℕ) (at : ℕ) (ws : List ℕ) → length (members_at l at ws) ≡ length ws
unfolding members_at
members_count l at [] = refl
members_count l at (w ∷ ws) = ap suc (members_count l (at + w) ws)

-- before the member of index i: what is still to be taken, from p on, gives all
pub record Taking (l : List ℕ) (ws : List ℕ) (at : ℕ) (ms : List ℕ) (p i : ℕ) : Type 0 where
  pub most : i ≤ length ws
  pub room : p + sum (drop i ws) ≤ length l
  pub same : length ms ≡ length ws
  pub stores : sets ms i (members_at l p (drop i ws)) ≡ members_at l at ws

pub taking_begun : (l ws : List ℕ) (at : ℕ) (ms : List ℕ) → at + sum ws ≤ length l → length ms ≡ length ws →
    Taking l ws at ms at 0
taking_begun l ws at ms h n =
    let m = members_count l at ws in
    let over : drop (length (members_at l at ws)) ms ≡ [] =
    none_left ms (length (members_at l at ws)) (omega (arith, m, n)) in
    record {
      most = omega arith;
      room = h;
      same = n;
      stores =
          sets_front ms (members_at l at ws) (omega (arith, m, n))
          ∙ ap (λ (x : List ℕ). members_at l at ws ++ x) over
          ∙ append-nil (members_at l at ws);
    }

module _ (l ws : List ℕ) (at : ℕ) (ms : List ℕ) (p i : ℕ) (t : Taking l ws at ms p i) where
  pub taking-room : i < length ws → p + get_or ws i 0 ≤ length l
  taking-room h = omega (arith, left ws i h, t.room)

  pub taking-more : i < length ws → (v : ℕ) → v ≡ be_at l p (get_or ws i 0) →
      Taking l ws at (set ms i v) (p + get_or ws i 0) (i + 1)
  unfolding members_at
  taking-more h v e =
      let next : i + 1 ≡ suc i = add-one i in
      let w = get_or ws i 0 in
      record {
        most = omega (arith, h);
        room = rw next (omega (arith, left ws i h, t.room));
        same = length-set ms i v ∙ t.same;
        stores =
            ap (λ (k : ℕ). sets (set ms i v) k (members_at l (p + w) (drop k ws))) next
            ∙ ap (λ (n : ℕ). sets (set ms i n) (suc i) (members_at l (p + w) (drop (suc i) ws))) e
            ∙ ap (λ (x : List ℕ). sets ms i (members_at l p x)) (sym (drop-cons ws i 0 h))
            ∙ t.stores;
      }

  pub taking-ended : length ws ≤ i → ms ≡ members_at l at ws
  unfolding members_at
  taking-ended h =
      ap (λ (x : List ℕ). sets ms i (members_at l p x)) (sym (none_left ws i h)) ∙ t.stores

-- members that were taken out of bytes fit their widths
pub taken_fit : (l ms : List ℕ) (at : ℕ) (ws : List ℕ) → ((i : ℕ) → get_or l i 0 < 256) → ms ≡ members_at l at ws →
    FitFrom 0 ws ms
taken_fit l ms at ws bytes e =
    from 0 ws (λ i j p. rw (e, p, zero-add) (members_below l bytes at ws i))
  where
    from : (k : ℕ) (vs : List ℕ) → ((i j : ℕ) → j ≡ k + i → get_or ms j 0 < 256 ^ get_or vs i 0) → FitFrom k vs ms
    from k [] h = tt
    from k (v ∷ vs) h = (h 0 k (omega arith), from (suc k) vs (λ i j p. h (suc i) j (omega (arith, p))))
