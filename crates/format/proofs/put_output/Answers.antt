-- `put_output` meets its contract. Assumes nothing.
use Rattle.format.specs.Format.{members_bytes, value_bytes}
use Rattle.wide.proofs.Bits.{byte_flag}
use Rattle.format.proofs.put_output.Goals as goal

pub returns : goal.returns
unfolding members_bytes value_bytes
returns c = rw (c.put_pair.ensures, c.from.ensures, byte_flag)
