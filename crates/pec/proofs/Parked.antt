-- Parked boards through the C interface: the results one by one. Assumes nothing.
use Prim.Native.Nat.{ℕ}
use mathlib.Core.Path.{◌≡◌, refl, ap, ◌∙◌}
use mathlib.Core.List.{List}
use lib.ListN.{length}
use Rattle.std.specs.Prelude.{Result, Ok, Err}
use Rattle.std.specs.Result.{result_unwrap_or}
use Rattle.board.specs.declared.Board.{Board}
use Rattle.board.specs.declared.refusal.Refusal.{Refusal}
use Rattle.board.specs.Refusals.{refusal_number, refusal_code}
use Rattle.board.specs.Fields.{fresh_board}
use Rattle.board.specs.Calls.{fresh_of}
use Rattle.board.specs.declared.calls.Answered.{Answered}
use Rattle.board.specs.Answers.{answered, no_members}
use Rattle.board.proofs.Answers.{some_refusal}
use Rattle.parking.specs.Parking.{Writing, default_form, writing_of, buffer_after}
use Rattle.parking.specs.declared.Parked.{Parked}
use Rattle.parking.specs.Answers.{writing_said, move_said, reading_said}
use Rattle.pec.specs.Parked.{fresh_writing, fresh_buffer}

-- what C is given of a writing is what the rule's record of it says
pub writing_is : (b : Board) (r : Result ℕ Refusal) →
    (refusal_code r ≡ (writing_said b r).refusal) × (result_unwrap_or r 0 ≡ (writing_said b r).written)
writing_is b (Ok n) = (refl, refl)
writing_is b (Err refusal) = (refl, refl)

-- and of a move
pub move_is : (r : Result ℕ Refusal) →
    (refusal_code r ≡ (move_said r).refusal) × (result_unwrap_or r 0 ≡ (move_said r).written)
move_is (Ok n) = (refl, refl)
move_is (Err refusal) = (refl, refl)

-- and of a reading
pub reading_is : (r : Result Parked Refusal) → refusal_code r ≡ (reading_said r).refusal
reading_is (Ok parked) = refl
reading_is (Err refusal) = refl

-- a board that is fresh
pub parked_fresh : (b : Board) (r : Result ℕ Refusal) (old new : List ℕ) → b ≡ fresh_board →
    writing_said b r ≡ writing_of default_form b (length old) → new ≡ buffer_after default_form b old →
    (refusal_code r ≡ (writing_of default_form fresh_board (length old)).refusal)
    × ((new ≡ buffer_after default_form fresh_board old)
    × (result_unwrap_or r 0 ≡ (writing_of default_form fresh_board (length old)).written))
parked_fresh b r old new e f g =
    let whole = f ∙ ap (λ (x : Board). writing_of default_form x (length old)) e in (
      (writing_is b r).0 ∙ ap (λ (x : Writing). x.refusal) whole,
      (
        g ∙ ap (λ (x : Board). buffer_after default_form x old) e,
        (writing_is b r).1 ∙ ap (λ (x : Writing). x.written) whole,
      ),
    )

-- one of a rate, which is refused or not
module _ (rate : ℕ) (a : Answered Unit) (made : answered no_members a ≡ fresh_of rate) (old : List ℕ) where
  pub fresh-refused : (refusal : Refusal) → a.answer ≡ Err refusal →
      (refusal_number refusal ≡ (fresh_writing rate (length old)).refusal)
      × ((old ≡ fresh_buffer rate old) × (0 ≡ (fresh_writing rate (length old)).written))
  unfolding fresh_writing fresh_buffer
  fresh-refused refusal e = rw (← made, e, some_refusal refusal) (refl, (refl, refl))

  pub fresh-written : (u : Unit) → a.answer ≡ Ok u → (r : Result ℕ Refusal) (new : List ℕ) →
      writing_said a.board r ≡ writing_of default_form a.board (length old) →
      new ≡ buffer_after default_form a.board old →
      (refusal_code r ≡ (fresh_writing rate (length old)).refusal)
      × ((new ≡ fresh_buffer rate old) × (result_unwrap_or r 0 ≡ (fresh_writing rate (length old)).written))
  unfolding fresh_writing fresh_buffer
  fresh-written u e r new f g =
      rw (← made, e) (
        (writing_is a.board r).0 ∙ ap (λ (x : Writing). x.refusal) f,
        (g, (writing_is a.board r).1 ∙ ap (λ (x : Writing). x.written) f),
      )
