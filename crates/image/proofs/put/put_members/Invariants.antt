-- `put::put_members` meets its contract. Assumes nothing.
use lib.Seq.{sets}
use Rattle.format.specs.Format.{members_bytes}
use Rattle.image.proofs.Tables.{Storing}
use Rattle.image.proofs.put.put_members.Given as goal

abbrev pub invariant-loop-width : goal.invariant-loop-width
invariant-loop-width l =
    Storing (sets l.initial.buf l.at (members_bytes l.widths l.members)) l.buf l.p
    l.width-iterator.a.rest.now l.width-iterator.b.rest.now
