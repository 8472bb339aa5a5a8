-- `put_reached` meets its contract. Assumes nothing.
use mathlib.Core.Path.{◌≡◌}
use mathlib.Core.List.{map, ◌++◌}
use lib.ListN.{take, drop}
use Rattle.wide.specs.Bits.{flag_of}
use Rattle.preview.specs.CodeReach.{reaches}
use Rattle.preview.proofs.put_reached.Given as goal

abbrev pub invariant-loop-i : goal.invariant-loop-i
invariant-loop-i l =
    l.high ≡ map (λ total. flag_of (reaches l.from total)) (take l.i l.totals) ++ drop l.i l.initial.high
