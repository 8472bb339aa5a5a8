-- `put_count` meets its contract. Assumes nothing.
use mathlib.Core.Path.{◌∙◌}
use Rattle.format.proofs.Stores.{count-whole, count_low}
use borrow.Author.Rules.{rules}
use Rattle.format.proofs.put_count.Goals as goal

pub returns-then-count-ne0 : goal.returns-then-count-ne0
returns-then-count-ne0 c =
    rw (c.put-then-count-ne0.ensures, c.put.ensures)
    (count-whole c.args.buf.now c.args.at c.args.count (search rules) c.requires.1)

pub returns-else-count-ne0 : goal.returns-else-count-ne0
returns-else-count-ne0 c =
    c.put.ensures ∙ count_low c.args.buf.now c.args.at c.args.count (search rules) c.requires.1 c.if-count-ne0.false
