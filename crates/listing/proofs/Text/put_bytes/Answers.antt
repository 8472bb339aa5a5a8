-- The digits of one byte more are put.
use mathlib.Core.Path.{sym}
use Rattle.listing.proofs.Puts.{put_none, put_is, put_then, counted-next}
use Rattle.listing.proofs.Lines.{bytes_more, bytes_at}
use Rattle.listing.proofs.Text.put_bytes.Goals as goal
use Rattle.listing.specs.Listing.{bytes_text}

pub loop-byte-init : goal.loop-byte-init
unfolding bytes_text
loop-byte-init c = put_none _

pub put_hex-requires : goal.put_hex-requires
put_hex-requires c =
    counted-next c.loop-byte.invariant _ _ (bytes_at c.args.bytes.now c.loop-byte.byte-index c.loop-byte-test.true)
    c.requires

pub loop-byte-preserved : goal.loop-byte-preserved
loop-byte-preserved c =
    put_is (sym (bytes_more c.args.bytes.now c.loop-byte.byte-index c.loop-byte-test.true))
    (put_then c.loop-byte.invariant c.put_hex.ensures)
