-- `leading` is safe and ends: it counts no more answers than there are bytes.
use Rattle.std.proofs.Common.{◌+◌, ◌≤◌, length}
use Rattle.recording.proofs.leading.Given as goal

abbrev pub invariant-loop-record : goal.invariant-loop-record
invariant-loop-record l = l.n + length l.left ≤ length l.answers

abbrev pub decreases-loop-record : goal.decreases-loop-record
decreases-loop-record l = length l.left
