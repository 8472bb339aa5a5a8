-- `put_no_counts` meets its contract. Assumes nothing.
use Rattle.format.proofs.Stores.{four-wides}
use Rattle.format.proofs.put_no_counts.Goals as goal

pub returns : goal.returns
returns c = let f = c.from-none.ensures in
    rw (c.put_wide-4.ensures, c.put_wide-3.ensures, c.put_wide-2.ensures, c.put_wide.ensures, f)
    (four-wides c.args.buf.now c.args.at 0 0 0 0)
