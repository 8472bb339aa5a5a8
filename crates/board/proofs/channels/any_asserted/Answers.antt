-- `channels::any_asserted` meets its contract. Assumes nothing.
use mathlib.Core.Bool.{false, ◌||◌, or_assoc, or-false}
use borrow.Author.Rules.{rules}
use Rattle.channel.specs.Channel.{fresh_timer, line_of}
use Rattle.board.proofs.Loops.{fold-goes, fold-ends}
use Rattle.board.proofs.channels.any_asserted.Goals as goal

pub loop-t-preserved : goal.loop-t-preserved
loop-t-preserved c =
    fold-goes (λ _ h. line_of h) ◌||◌ false or_assoc c.args.timers.now fresh_timer c.loop-t.t-index _ _ (search rules)
    c.asserted-any.ensures c.loop-t.invariant

pub returns : goal.returns
returns c =
    fold-ends (λ _ h. line_of h) ◌||◌ false or-false c.args.timers.now c.loop-t.t-index _ (search rules)
    c.loop-t.invariant
