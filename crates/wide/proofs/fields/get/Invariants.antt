-- `fields::get` meets its contract.
use Rattle.std.proofs.Common.{◌≡◌, ◌^◌, ◌<◌}
use Rattle.wide.specs.Fields.{be_at}
use Rattle.wide.proofs.fields.get.Given as goal

abbrev pub invariant-loop-byte : goal.invariant-loop-byte
invariant-loop-byte l = (l.v < 256 ^ l.byte-index) × (l.v ≡ be_at l.s l.at l.byte-index)
