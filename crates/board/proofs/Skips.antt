-- A skip that is accepted gets to the interrupt, whatever the clock runs from; with the line high or no deadline it
-- changes nothing. Assumes nothing.
use Prim.Native.Nat.{ℕ}
use native.Mathlib.Omega.{arith}
use mathlib.Core.Path.{◌≡◌, sym, ap, ◌∙◌}
use mathlib.Core.Logic.{◌⊎◌, inl, inr}
use mathlib.Core.Bool.{true, false}
use mathlib.Core.Option.{Option, none, some}
use borrow.Author.Tests.{le-leb}
use Rattle.wide.specs.Deadline.{due}
use Rattle.wide.proofs.Choices.{either}
use Rattle.wide.proofs.Forms.{flag_back}
use Rattle.board.specs.declared.Board.{Board}
use Rattle.board.specs.declared.calls.Call.TheVariants.{Skip}
use Rattle.board.specs.Board.{BoardFits, line, exact_deadline}
use Rattle.board.specs.Calls.{
  DirectAnswer,
  refusal_of,
  answer_of,
  advanced_board,
  moved_board,
  moved_by,
  skip_length,
  skip_refusal,
}
use Rattle.board.specs.Demand.{SkipPromise}
use Rattle.board.specs.Kept.{Good}
use Rattle.board.proofs.Soundness.{wired_line, wired_sound}
use Rattle.board.proofs.Good.{good}
use Rattle.board.proofs.Steps.{advance_rises}
use Rattle.board.proofs.Answers.{accepted_sound, answer-accepted, answered-refusal}

module _ (b : Board) (d : ℕ) (given : exact_deadline b ≡ some d) where
  -- from a low line it goes by D
  pub skip_by : line b ≡ false → skip_length b ≡ some d
  skip_by low = rw (low, given)

  -- and the line is high behind it
  pub skip-high : {rate : ℕ} → Good rate b → line (moved_by (skip_length b) b) ≡ true
  unfolding advanced_board
  skip-high g =
      either (line b) (λ h. rw h h)
      (λ low. ap (λ (o : Option ℕ). line (moved_by o b)) (skip_by low)
      ∙ sym (wired_line (moved_board d b))
      ∙ advance_rises d b g low (ap (λ (o : Option ℕ). due o d) given ∙ le-leb d d (omega arith)))

-- with the line high or no deadline there is no advance
pub skip_none : (b : Board) → (line b ≡ true) ⊎ (exact_deadline b ≡ none) → skip_length b ≡ none
skip_none b (inl high) = rw high
skip_none b (inr e) = either (line b) (λ h. rw h) (λ l. rw (l, e))

-- what is promised, by the answer
pub skip_reaches : (b : Board) → BoardFits b → (r : DirectAnswer) → r ≡ answer_of Skip b →
    SkipPromise b r
skip_reaches b f r e z =
    let n : refusal_of b (skip_refusal b) ≡ 0 =
    sym (answered-refusal Skip b) ∙ ap (λ (a : DirectAnswer). a.refusal) (sym e) ∙ z in
    let a = answer-accepted Skip b n in
    let s = accepted_sound b (skip_refusal b) n in
    record {
      reaches = λ d given.
          let high = skip-high b d given (good b f s) in
          (rw (e, a, flag_back) high, rw (e, a) (wired_line (moved_by (skip_length b) b) ∙ high));
      passes = λ d given low. rw (e, a, skip_by b d given low);
      stays = λ h.
          let k = skip_none b h in
          (rw (e, a, k), rw (e, a, k) (wired_sound b s), rw (e, a, k, flag_back));
    }
