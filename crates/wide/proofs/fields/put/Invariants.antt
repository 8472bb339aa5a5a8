-- `fields::put` meets its contract. The invariant: what is still to be stored, stored behind what is there, gives the
-- buffer with all stored.
use Rattle.std.proofs.Common.{◌≡◌, ◌+◌, ◌-◌, length}
use lib.Seq.{sets}
use Rattle.wide.specs.Fields.{be}
use Rattle.wide.proofs.fields.put.Given as goal

abbrev pub invariant-loop-i : goal.invariant-loop-i
invariant-loop-i l =
    (length l.buf ≡ length l.initial.buf)
    × (sets l.buf (l.at + l.i) (be (l.width - l.i) l.value) ≡ sets l.initial.buf l.at (be l.width l.value))
