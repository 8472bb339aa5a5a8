-- What is promised of the deadline, proved: by the steps of a list of calls. Assumes nothing.
use Prim.Native.Nat.{ℕ, ◌+◌, ◌≤◌}
use native.Mathlib.Nat.{zero-add, add-zero, add_assoc}
use mathlib.Core.Path.{◌≡◌, refl, sym, ap, ◌∙◌}
use mathlib.Core.Logic.{◌↔◌, ◌⊎◌, inl, inr}
use mathlib.Core.Bool.{Bool, true, false, not, ◌&&◌, ◌||◌, or-false, false≢true}
use mathlib.Core.Option.{Option, none, some}
use mathlib.Core.List.{List, [], ◌∷◌}
use lib.Dec.{leb}
use borrow.Author.Tests.{leb-true, le-leb}
use Rattle.wide.specs.Deadline.{due}
use Rattle.clock.specs.Clock.{rate_of, from_host}
use Rattle.board.specs.declared.Board.{Board}
use Rattle.board.specs.declared.calls.Call.{Call}
use Rattle.board.specs.Loops.{All}
use Rattle.board.specs.Board.{BoardFits, line, exact_deadline, word_deadline, sound}
use Rattle.board.specs.Calls.{is_present, or_zero}
use Rattle.board.specs.Demand.{
  PassesTime,
  after,
  adds,
  after_all,
  cycles_passed,
  source3,
  PromiseAfter,
  Promise,
}
use Rattle.board.specs.Kept.{Good}
use Rattle.board.proofs.Steps.{board_due, line-due, Step}
use Rattle.board.proofs.Calm.{calm, calm-line, calm-due, calm-good, calm-step}

-- ---- a list of calls

-- y is x after c cycles in some number of calls, and good when it is calm; p is source 3's pending bit at the start
record Ran (rate : ℕ) (p : Bool) (c : ℕ) (x y : Board) : Type 0 where
  good : Good rate (calm y)
  due : (t : ℕ) → board_due y t ≡ board_due x (c + t)
  source : source3 y ≡ (p || line y)

-- a bit that was latched, or the line, and then a rise of the line
latched : (p l m : Bool) → (l ≡ true → m ≡ true) → ((m && not l) || (p || l)) ≡ (p || m)
latched true true true h = refl
latched true true false h = refl
latched true false true h = refl
latched true false false h = refl
latched false true m h = h' m (h refl)
  where
    h' : (m : Bool) → m ≡ true → ((m && not true) || (false || true)) ≡ (false || m)
    h' true e = refl
    h' false e = absurd (false≢true e)
latched false false true h = refl
latched false false false h = refl

-- a high line is due at any time
high_due : (b : Board) (t : ℕ) → line b ≡ true → board_due b t ≡ true
unfolding board_due
high_due b t e = rw e

-- the line of a board that is good when it is calm is what is due at once
now_due : {rate : ℕ} (b : Board) → Good rate (calm b) → line b ≡ board_due b 0
now_due b g = sym (calm-line b) ∙ line-due (calm b) g ∙ calm-due b 0

ran : {rate : ℕ} (p : Bool) (calls : List Call) → All PassesTime calls → (b : Board) → Good rate (calm b) →
    from_host b.clock.control ≡ false → source3 b ≡ (p || line b) →
    Ran rate p (cycles_passed calls b) b (after_all calls b)
unfolding after_all cycles_passed
ran p [] w b g o h = record { good = g; due = λ t. ap (board_due b) (sym (zero-add t)); source = h }
ran {rate} p (a ∷ calls) w b g o h =
    onto
    (ran p calls w.1 y S.good (S.own o)
    (rises ∙ ap (λ v. (line y && not (line b)) || v) h ∙ latched p (line b) (line y) stays))
  where
    y : Board
    y = after a b

    S : Step rate (adds a b) (calm b) (calm y)
    S = calm-step b g o a w.0

    moves : (t : ℕ) → board_due y t ≡ board_due b (adds a b + t)
    moves t = sym (calm-due y t) ∙ S.due o t ∙ calm-due b (adds a b + t)

    rises : source3 y ≡ ((line y && not (line b)) || source3 b)
    rises = rw (calm-line y, calm-line b) at S.source

    stays : line b ≡ true → line y ≡ true
    stays e = now_due y S.good ∙ moves 0 ∙ high_due b (adds a b + 0) e

    onto : Ran rate p (cycles_passed calls y) y (after_all calls y) →
        Ran rate p (adds a b + cycles_passed calls y) b (after_all calls y)
    onto R =
        record {
          good = R.good;
          due = λ t.
              R.due t
              ∙ moves (cycles_passed calls y + t)
              ∙ ap (board_due b) (sym (add_assoc (adds a b) (cycles_passed calls y) t));
          source = R.source;
        }

-- ---- the promise

true_iff : (v : Bool) (a t : ℕ) → v ≡ leb a t → (v ≡ true) ↔ (a ≤ t)
true_iff v a t e = (λ h. leb-true a t (sym e ∙ h), λ h. e ∙ le-leb a t h)

or_iff : (v p : Bool) (a t : ℕ) → v ≡ (p || leb a t) → (v ≡ true) ↔ ((p ≡ true) ⊎ (a ≤ t))
or_iff v true a t e = (λ _. inl refl, λ _. e)
or_iff v false a t e =
    (λ h. inr (leb-true a t (sym e ∙ h)), elim [ inl h ↦ absurd (false≢true h) | inr h ↦ e ∙ le-leb a t h ])

module _ (b : Board) (f : BoardFits b) (s : sound b ≡ true) (low : line b ≡ false)
    (o : from_host b.clock.control ≡ false) (calls : List Call) (w : All PassesTime calls) where
  R : Ran (rate_of b.clock) (source3 b) (cycles_passed calls b) b (after_all calls b)
  R = ran (source3 b) calls w b (calm-good b f s) o (sym (ap (λ v. source3 b || v) low ∙ or-false (source3 b)))

  -- the line after the list is what was due
  pub line_after : line (after_all calls b) ≡ due (exact_deadline b) (cycles_passed calls b)
  unfolding board_due
  line_after = now_due (after_all calls b) R.good ∙ R.due 0 ∙ rw (low, add-zero)

  pub source-after : source3 (after_all calls b) ≡ (source3 b || due (exact_deadline b) (cycles_passed calls b))
  source-after = R.source ∙ ap (λ v. source3 b || v) line_after

  promised : (d : Option ℕ) → line (after_all calls b) ≡ due d (cycles_passed calls b) →
      source3 (after_all calls b) ≡ (source3 b || due d (cycles_passed calls b)) →
      PromiseAfter (is_present d) (or_zero d) (or_zero (word_deadline d)) b (cycles_passed calls b) (after_all calls b)
  promised none p q = record { line = p; source = q ∙ or-false (source3 b) }
  promised (some d) p q = (
    record {
      line = true_iff (line (after_all calls b)) d (cycles_passed calls b) p;
      source = or_iff (source3 (after_all calls b)) (source3 b) d (cycles_passed calls b) q;
    },
    refl,
  )

-- the deadline that a sound board gives keeps what is promised of it
pub demand_3 : (b : Board) → BoardFits b →
    Promise b (is_present (exact_deadline b)) (or_zero (exact_deadline b)) (or_zero (word_deadline (exact_deadline b)))
demand_3 b f s low o calls w =
    promised b f s low o calls w (exact_deadline b) (line_after b f s low o calls w) (source-after b f s low o calls w)
