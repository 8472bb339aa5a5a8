-- The digits of the bytes before the index are put.
use lib.ListN.{take}
use Rattle.listing.specs.Listing.{bytes_text}
use Rattle.listing.specs.CodePuts.{Put}
use Rattle.listing.proofs.Text.put_bytes.Given as goal

abbrev pub invariant-loop-byte : goal.invariant-loop-byte
invariant-loop-byte l = Put (bytes_text (take l.byte-index l.bytes)) l.initial.self l.self
