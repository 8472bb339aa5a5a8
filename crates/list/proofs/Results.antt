-- What becomes of the call at the front of a list, by its refusal, and that a good board stays good. Assumes nothing.
use Prim.Native.Nat.{ℕ, ◌≤◌, ◌<◌}
use native.Mathlib.Omega.{arith}
use mathlib.Core.Path.{◌≡◌, refl, subst}
use mathlib.Core.Bool.{false}
use mathlib.Core.List.{List}
use lib.ListN.{length, get_or}
use lib.Dec.{eqb}
use borrow.Author.Tests.{eqb-true}
use Rattle.wide.proofs.Choices.{choose}
use Rattle.board.specs.declared.Board.{Board}
use Rattle.board.specs.Calls.{board_after}
use Rattle.board.specs.Kept.{Good}
use Rattle.registers.proofs.Kept.{call_keeps}
use Rattle.format.specs.Codec.{call_at, call_length, answer_record, refusal_at}
use Rattle.format.proofs.Frames.{call_length_lem, call_fits, answer_size}
use Rattle.format.proofs.Decoding.{Clear, clear}
use Rattle.list.specs.Run.{Outcome, Result, done, refused, result_of, stepped}

module _ (b : Board) (l : List ℕ) (room : ℕ) where
  pub result-refused : (n : ℕ) → n ≡ refusal_at b l room → eqb n 0 ≡ false → result_of b l room ≡ refused n
  unfolding result_of
  result-refused n p q = rw (← p, q)

  pub result-done : refusal_at b l room ≡ 0 →
      result_of b l room ≡ done (board_after (call_at l) b) (call_length (call_at l)) (answer_record (call_at l) b)
  unfolding result_of
  result-done z = rw z

  -- a call that is done is a call of the list that is not refused, and its answer has room; a call that is refused has
  -- a number
  unfoldable Placed : Result → Type 0
  Placed (done b' n a) =
      Clear b l room
      × ((n ≡ call_length (call_at l))
      × ((length a ≤ room) × ((b' ≡ board_after (call_at l) b) × (a ≡ answer_record (call_at l) b))))
  Placed (refused n) = eqb n 0 ≡ false

  result-placed : Placed (result_of b l room)
  unfolding result_of Placed
  result-placed =
      choose Placed (eqb (refusal_at b l room) 0)
      (λ e. let k = clear b l room (eqb-true _ 0 e) in
      (k, (refl, (omega (arith, answer_size (call_at l) b, k.fits), (refl, refl)))))
      (λ e. e)

-- a call that is refused has a number
pub refused_numbered : (b : Board) (l : List ℕ) (room n : ℕ) → result_of b l room ≡ refused n → eqb n 0 ≡ false
unfolding Placed
refused_numbered b l room n e = subst (Placed b l room) e (result-placed b l room)

-- a call that is done
pub done_placed : (b : Board) (l : List ℕ) (room : ℕ) (b' : Board) (n : ℕ) (a : List ℕ) →
    result_of b l room ≡ done b' n a →
    Clear b l room
    × ((n ≡ call_length (call_at l))
    × ((length a ≤ room) × ((b' ≡ board_after (call_at l) b) × (a ≡ answer_record (call_at l) b))))
unfolding Placed
done_placed b l room b' n a e = subst (Placed b l room) e (result-placed b l room)

-- it takes at least three bytes, all of the list
pub done_fits : (b : Board) (l : List ℕ) (room : ℕ) (b' : Board) (n : ℕ) (a : List ℕ) →
    result_of b l room ≡ done b' n a → (3 ≤ n) × ((n ≤ length l) × (length a ≤ room))
done_fits b l room b' n a e =
    let p = done_placed b l room b' n a e in
    (omega (arith, p.1.0), (omega (arith, p.1.0, call_length_lem l p.0.frame), p.1.1.0))

-- ---- the board stays good

-- a run after one more call, done or refused
pub step_good : (rate : ℕ) (l : List ℕ) → ((i : ℕ) → get_or l i 0 < 256) → (s : Outcome) → Good rate s.board →
    (room : ℕ) → Good rate (stepped s (result_of s.board l room)).board
unfolding result_of stepped
step_good rate l bytes s g room =
    choose (λ (u : Result). Good rate (stepped s u).board) (eqb (refusal_at s.board l room) 0)
    (λ e. call_keeps (call_at l) rate s.board (call_fits l bytes) g (clear s.board l room (eqb-true _ 0 e)).own)
    (λ _. g)
