-- `get::get_members` meets its contract. Assumes nothing.
use Rattle.image.proofs.Taken.{Taking}
use Rattle.image.proofs.get.get_members.Given as goal

abbrev pub invariant-loop-i : goal.invariant-loop-i
invariant-loop-i l = Taking l.image l.widths l.at l.members l.p l.i
