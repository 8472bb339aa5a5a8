-- `writes::acknowledged` meets its contract. The loop has changed the channels below i. Assumes nothing.
use mathlib.Core.Path.{◌≡◌}
use Rattle.wide.specs.Bits.{bit}
use Rattle.board.proofs.Loops.{map_to}
use Rattle.board.specs.RegisterWrites.{cleared_by}
use Rattle.regmap.proofs.writes.acknowledged.Given as goal

abbrev pub invariant-loop-i : goal.invariant-loop-i
invariant-loop-i l = l.t-items ≡ map_to (λ k h. cleared_by (bit k l.value) h) l.i 0 l.initial.t-items
