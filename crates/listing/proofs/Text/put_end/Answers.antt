-- The parts of the last line stand one behind another.
use Rattle.listing.specs.Listing.{ascii, end_line}
use Rattle.listing.proofs.Puts.{put_then}
use Rattle.listing.proofs.Text.put_end.Goals as goal

pub returns : goal.returns
unfolding end_line ascii
returns c =
    let refusal = rw c.from.ensures at c.put_decimal-2.ensures in
    put_then (put_then (put_then (put_then (put_then (put_then c.put_all.ensures c.put_decimal.ensures) c.put.ensures)
    refusal) c.put-2.ensures) c.put_decimal-3.ensures) c.put-3.ensures
