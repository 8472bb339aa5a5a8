-- A piece of a call list inside a run, whatever stands before it and behind it. Document 01: 'calls 01 and 04 that a
-- run carries out one after another are such a list too', a list of the deadline's promise. One call refuses,
-- changes the board and answers as a direct call on the board before it; and a skip gets to the interrupt.
use Rattle.std.specs.Prelude.{ℕ, ◌-◌, ◌≡◌, ◌⊎◌, true, false, cond, List, [], ◌∷◌, ◌++◌, length, take, ltb}
use Rattle.std.proofs.Math.Option.{none, some}
use Rattle.wide.specs.Bits.{flag_of}
use Rattle.board.specs.declared.Board.{Board}
use Rattle.board.specs.declared.calls.Call.{Call}
use Rattle.board.specs.declared.calls.Call.TheVariants.{Skip}
use Rattle.board.specs.Board.{line, exact_deadline, word_deadline}
use Rattle.board.specs.Calls.{effect_of, board_after, advanced_board, is_present, or_zero}
use Rattle.board.specs.Demand.{after_all, cycles_passed, PromiseAfter}
use Rattle.format.specs.Format.{answer_too_long, answer_bytes, record_of}
use Rattle.format.specs.Codec.{answer_record, record_length, first_of}
use Rattle.list.specs.Run.{Run, run_of, joined}

-- of a run over b whose list is `first`, `piece` and `last`, one after another
module _ (b : Board) (first piece last : List ℕ) (room : ℕ) where
  -- the run up to the piece, the run up to its end, and the whole run
  abbrev pub Before : Run
  Before = run_of b first room

  abbrev pub Through : Run
  Through = run_of b (first ++ piece) room

  abbrev pub Whole : Run
  Whole = run_of b ((first ++ piece) ++ last) room

  -- the board before the piece
  abbrev pub AtStart : Board
  AtStart = Before.outcome.board

  -- ---- a stretch: the piece is the bytes of these calls

  module _ (calls : List Call) where
    -- the calls of the stretch that the run carries out: all of them, or those before the one that it refuses
    abbrev pub CarriedOut : List Call
    CarriedOut = take (Through.outcome.calls - Before.outcome.calls) calls

    pub record Stretch : Type 0 where
      -- the board at its end is the board after these calls
      pub board : Through.outcome.board ≡ after_all CarriedOut AtStart
      -- all of them, where the run is not refused there
      pub all : Through.outcome.refusal ≡ 0 → CarriedOut ≡ calls
      -- the promise of the deadline of the board at its start holds of them
      pub promise : PromiseAfter (is_present (exact_deadline AtStart)) (or_zero (exact_deadline AtStart))
          (or_zero (word_deadline (exact_deadline AtStart))) AtStart (cycles_passed CarriedOut AtStart) (after_all
          CarriedOut AtStart)
      -- the whole run does the same up to there, and goes on from there over what stands behind the stretch
      pub goes_on : Through.outcome.refusal ≡ 0 →
          Whole ≡ joined Through (run_of Through.outcome.board last (room - length Through.answers))
      -- or it is refused inside the stretch, and ends there
      pub ends : (Through.outcome.refusal ≡ 0 → ⊥) → Whole ≡ Through

  -- ---- one call: the piece is its bytes

  module _ (call : Call) where
    pub record InRun : Type 0 where
      -- it is refused as on that board, or because its answer has no room
      pub refusal : Through.outcome.refusal
          ≡ first_of (effect_of call AtStart).refusal
          (cond (ltb (room - length Before.answers) (record_length call)) answer_too_long 0)
      -- where it is not refused, the board after it and its answer are those of that board
      pub board : Through.outcome.refusal ≡ 0 → Through.outcome.board ≡ board_after call AtStart
      pub answer : Through.outcome.refusal ≡ 0 → Through.answers ≡ Before.answers ++ answer_record call AtStart
      -- and the whole run does the same up to there, and goes on from there over what stands behind the call
      pub goes_on : Through.outcome.refusal ≡ 0 →
          Whole ≡ joined Through (run_of Through.outcome.board last (room - length Through.answers))
      -- where it is refused, the board and the answers are those before it, and the whole run ends there
      pub board-left : (Through.outcome.refusal ≡ 0 → ⊥) → Through.outcome.board ≡ AtStart
      pub answers-left : (Through.outcome.refusal ≡ 0 → ⊥) → Through.answers ≡ Before.answers
      pub ends : (Through.outcome.refusal ≡ 0 → ⊥) → Whole ≡ Through

  -- ---- a skip: the piece is its bytes

  pub record SkipInRun : Type 0 where
    -- as of every call: when it is refused, and how the whole run goes on
    pub call : InRun Skip
    -- where it is not refused: with a deadline, the line is high after it
    pub high : Through.outcome.refusal ≡ 0 → (d : ℕ) → exact_deadline AtStart ≡ some d →
        line Through.outcome.board ≡ true
    -- and where the line was low it advances once by the deadline, and answers that this passed and the line is high
    pub advances : Through.outcome.refusal ≡ 0 → (d : ℕ) → exact_deadline AtStart ≡ some d →
        line AtStart ≡ false → Through.outcome.board ≡ advanced_board d AtStart
    pub passes : Through.outcome.refusal ≡ 0 → (d : ℕ) → exact_deadline AtStart ≡ some d →
        line AtStart ≡ false → Through.answers ≡ Before.answers ++ record_of 6 (answer_bytes 6 (d ∷ 1 ∷ []))
    -- with the line high or without a deadline it changes nothing, and answers that 0 passed, and the line
    pub stays : Through.outcome.refusal ≡ 0 → ((line AtStart ≡ true) ⊎ (exact_deadline AtStart ≡ none)) →
        Through.outcome.board ≡ AtStart
    pub passes_none : Through.outcome.refusal ≡ 0 → ((line AtStart ≡ true) ⊎ (exact_deadline AtStart ≡ none)) →
        Through.answers
        ≡ Before.answers ++ record_of 6 (answer_bytes 6 (0 ∷ flag_of (line AtStart) ∷ []))
