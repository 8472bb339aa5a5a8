-- `put_pair` meets its contract. Assumes nothing.
use mathlib.Core.List.{append-nil}
use Rattle.wide.specs.Fields.{be}
use Rattle.format.specs.Format.{members_bytes, value_bytes}
use Rattle.format.proofs.Frames.{sets_be}
use Rattle.format.proofs.put_pair.Goals as goal

pub returns : goal.returns
unfolding members_bytes value_bytes
returns c = let a = c.args in
    rw (c.put-2.ensures, c.put.ensures, c.from.ensures, c.from-2.ensures, append-nil)
    (sets_be a.buf.now a.at 1 a.a (be 1 a.b))
