-- `changes_of` meets its contract: without a deadline, or with its value; and a skip that stays answers the line.
-- Assumes nothing.
use mathlib.Core.Path.{refl}
use Rattle.format.specs.Format.{members_bytes, value_bytes}
use Rattle.board.proofs.Answers.{deadline_listed}
use Rattle.steps.proofs.CallParts.{rest_changes}
use Rattle.steps.proofs.changes_of.Goals as goal

pub returns-in-Deadline : goal.returns-in-Deadline
unfolding members_bytes value_bytes
returns-in-Deadline c =
    record { changed = rw (c.in-Deadline.is, c.deadline_members.ensures, deadline_listed) (refl, refl); typed = refl }

pub returns-in_default : goal.returns-in_default
returns-in_default c =
    record {
      changed = rest_changes _ c.requires c.args.step
          (record {
            host = c.in_default.not-HostTime;
            deadline = c.in_default.not-Deadline;
            source = c.in_default.not-Source;
            read = c.in_default.not-ControllerRead;
            write = c.in_default.not-ControllerWrite;
            output = c.in_default.not-Output;
          }) _ c.level_of.ensures;
      typed = refl;
    }
