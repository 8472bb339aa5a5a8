-- One byte more is put.
use Rattle.std.proofs.lemmas.List.{take_more}
use mathlib.Core.Path.{sym}
use Rattle.listing.proofs.Puts.{put_is, put_then}
use Rattle.listing.proofs.Text.put_all.Goals as goal

pub loop-byte-preserved : goal.loop-byte-preserved
loop-byte-preserved c =
    put_is (sym (take_more c.args.bytes.now c.loop-byte.byte-index 0 c.loop-byte-test.true))
    (put_then c.loop-byte.invariant c.put.ensures)
