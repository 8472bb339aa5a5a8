-- The parts of a line stand one behind another.
use Rattle.listing.specs.Listing.{ascii, answer_line}
use Rattle.listing.proofs.Puts.{put_then}
use Rattle.listing.proofs.Text.put_line.Goals as goal

pub returns : goal.returns
unfolding answer_line ascii
returns c = put_then (put_then (put_then c.put_hex.ensures c.put.ensures) c.put_value.ensures) c.put-2.ensures
