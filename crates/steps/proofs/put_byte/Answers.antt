-- `put_byte` meets its contract. Assumes nothing.
use Rattle.steps.proofs.CallParts.{byte_then}
use Rattle.steps.proofs.put_byte.Goals as goal

pub returns : goal.returns
returns c = rw (← c.from.ensures) (byte_then _ _ _ _ _ c.put_header_of.ensures c.put.ensures)
