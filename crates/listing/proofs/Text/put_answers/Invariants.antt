-- Some of the answers are listed, and the others left.
use lib.ListN.{length}
use Rattle.listing.proofs.Answers.{Listed}
use Rattle.listing.proofs.Text.put_answers.Given as goal

abbrev pub invariant-loop-record : goal.invariant-loop-record
invariant-loop-record l = Listed l.answers l.initial.self l.self l.left

abbrev pub decreases-loop-record : goal.decreases-loop-record
decreases-loop-record l = length l.left
