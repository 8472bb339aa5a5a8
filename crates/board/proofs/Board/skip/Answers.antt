-- `Board::skip` meets its contract. Assumes nothing.
use mathlib.Core.Path.{refl, sym}
use Rattle.board.specs.declared.calls.Call.TheVariants.{Skip}
use Rattle.board.specs.Calls.{advanced_board, moved_board, skip_length, skip_refusal}
use Rattle.board.proofs.Soundness.{wired_line, wired_sound}
use Rattle.board.proofs.Answers.{
  accepted_sound,
  unsound_first,
  answer-refused,
  answer-accepted,
  length-refused,
  length-made,
}
use Rattle.board.proofs.Skips.{skip_reaches}
use Rattle.board.proofs.Board.skip.Goals as goal

pub returns-in-Err-clause-value : goal.returns-in-Err-clause-value
returns-in-Err-clause-value c = let b = c.args.self in
    rw c.refused.ensures
    (answer-refused Skip b c.in-Err.refusal
    (unsound_first b (skip_refusal b) c.in-Err.refusal c.in-Err.ensures.refused))

pub returns-in-Err-clause-skip_promise : goal.returns-in-Err-clause-skip_promise
returns-in-Err-clause-skip_promise c =
    skip_reaches c.args.self c.check_sound.ensures.fits _ (returns-in-Err-clause-value c)

pub skip_length-requires : goal.skip_length-requires
skip_length-requires c = accepted_sound c.args.self 0 (sym c.in_default.ensures.refused)

pub advanced-requires : goal.advanced-requires
advanced-requires c = accepted_sound c.args.self 0 (sym c.in_default.ensures.refused)

pub returns-in-Ok-Some-clause-value : goal.returns-in-Ok-Some-clause-value
unfolding advanced_board
returns-in-Ok-Some-clause-value c = let b = c.args.self in
    let s = accepted_sound b 0 (sym c.in_default.ensures.refused) in
    let n = c.in-Ok-Some.passed.0 in
    let k = rw c.in-Ok-Some.field-0-is at c.in-Ok-Some.ensures in
    rw (
      answer-accepted Skip b (rw s (sym (length-refused _ (skip_length b) k))),
      length-made _ (skip_length b) k refl,
      c.line-line.ensures,
      c.advanced.ensures.0,
      wired_line (moved_board n b),
    )

pub returns-in-Ok-Some-clause-skip_promise : goal.returns-in-Ok-Some-clause-skip_promise
returns-in-Ok-Some-clause-skip_promise c =
    skip_reaches c.args.self c.check_sound.ensures.fits _ (returns-in-Ok-Some-clause-value c)

pub returns-in-Ok-None-clause-value : goal.returns-in-Ok-None-clause-value
returns-in-Ok-None-clause-value c = let b = c.args.self in
    let s = accepted_sound b 0 (sym c.in_default.ensures.refused) in
    let k = rw c.in-Ok-None.field-0-is at c.in-Ok-None.ensures in
    rw (
      answer-accepted Skip b (rw s (sym (length-refused _ (skip_length b) k))),
      length-made _ (skip_length b) k refl,
      c.line.ensures,
      wired_sound b s,
    )

pub returns-in-Ok-None-clause-skip_promise : goal.returns-in-Ok-None-clause-skip_promise
returns-in-Ok-None-clause-skip_promise c =
    skip_reaches c.args.self c.check_sound.ensures.fits _ (returns-in-Ok-None-clause-value c)

pub returns-in-Err-skip_length-clause-value : goal.returns-in-Err-skip_length-clause-value
returns-in-Err-skip_length-clause-value c = let b = c.args.self in
    let s = accepted_sound b 0 (sym c.in_default.ensures.refused) in
    rw c.refused-in-Err-skip_length.ensures
    (answer-refused Skip b c.in-Err-skip_length.refusal
    (rw s (length-refused _ (skip_length b) c.in-Err-skip_length.ensures)))

pub returns-in-Err-skip_length-clause-skip_promise : goal.returns-in-Err-skip_length-clause-skip_promise
returns-in-Err-skip_length-clause-skip_promise c =
    skip_reaches c.args.self c.check_sound.ensures.fits _ (returns-in-Err-skip_length-clause-value c)
