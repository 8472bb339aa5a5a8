-- `Board::deadline` meets its contract. Assumes nothing.
use mathlib.Core.Path.{sym}
use Rattle.board.specs.declared.calls.Call.TheVariants.{Deadline}
use Rattle.board.specs.Board.{exact_deadline}
use Rattle.board.proofs.Soundness.{wired_sound}
use Rattle.board.proofs.Answers.{accepted_sound, answer-refused, answer-accepted, deadline_listed, answer_promises}
use Rattle.board.proofs.Board.deadline.Goals as goal

pub returns-in-Err-clause-value : goal.returns-in-Err-clause-value
returns-in-Err-clause-value c =
    rw c.refused.ensures (answer-refused Deadline c.args.self c.in-Err.refusal c.in-Err.ensures.refused)

pub returns-in-Err-clause-promise : goal.returns-in-Err-clause-promise
returns-in-Err-clause-promise c =
    answer_promises c.args.self c.check_sound.ensures.fits _ (returns-in-Err-clause-value c)

pub deadline_members-requires : goal.deadline_members-requires
deadline_members-requires c = accepted_sound c.args.self 0 (sym c.in_default.ensures.refused)

pub returns-clause-value : goal.returns-clause-value
returns-clause-value c = let b = c.args.self in
    let z = sym c.in_default.ensures.refused in
    rw (
      answer-accepted Deadline b z,
      wired_sound b (accepted_sound b 0 z),
      c.deadline_members.ensures,
      deadline_listed (exact_deadline b),
    )

pub returns-clause-promise : goal.returns-clause-promise
returns-clause-promise c = answer_promises c.args.self c.check_sound.ensures.fits _ (returns-clause-value c)
