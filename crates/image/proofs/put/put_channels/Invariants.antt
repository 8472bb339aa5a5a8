-- `put::put_channels` meets its contract. Assumes nothing.
use mathlib.Core.Path.{◌≡◌}
use lib.ListN.{take}
use lib.Seq.{sets}
use Rattle.image.proofs.Fields.{timers_bytes}
use Rattle.image.proofs.put.put_channels.Given as goal

abbrev pub invariant-loop-i : goal.invariant-loop-i
invariant-loop-i l = l.buf ≡ sets l.initial.buf 0 (timers_bytes (take l.i l.timers))
