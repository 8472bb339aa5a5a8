-- `controller::level_of` meets its contract: a word of sixteen bits has no bit 16 or above. Assumes nothing.
use Rattle.wide.proofs.Bits.{no_bit}
use borrow.Author.Rules.{rules}
use borrow.Author.Tests.{le-ltb}
use Rattle.controller.proofs.level_of.Goals as goal

pub returns-else-number-lt-SOURCE_COUNT : goal.returns-else-number-lt-SOURCE_COUNT
returns-else-number-lt-SOURCE_COUNT c =
    let a = c.args in
    rw (le-ltb _ _ c.if-number-lt-SOURCE_COUNT.false)
    (no_bit 16 a.number.0 a.controller.levels c.if-number-lt-SOURCE_COUNT.false (search rules))
