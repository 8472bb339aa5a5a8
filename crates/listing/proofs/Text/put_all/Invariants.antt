-- The bytes before the index are put.
use lib.ListN.{take}
use Rattle.listing.specs.CodePuts.{Put}
use Rattle.listing.proofs.Text.put_all.Given as goal

abbrev pub invariant-loop-byte : goal.invariant-loop-byte
invariant-loop-byte l = Put (take l.byte-index l.bytes) l.initial.self l.self
