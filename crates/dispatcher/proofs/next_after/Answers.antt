-- `dispatcher::next_after` meets its contract. Assumes nothing.
use Rattle.dispatcher.proofs.Next.{next-above, next-round}
use Rattle.dispatcher.proofs.next_after.Goals as goal

pub returns-then-above : goal.returns-then-above
returns-then-above c =
    let at = c in
    next-above at.args.controller at.args.last.0 at.requires _ _ c.without_pending.ensures
    c.output_of-above.ensures c.if-above.true

pub returns : goal.returns
returns c =
    let at = c in
    next-round at.args.controller at.args.last.0 at.requires _ _
    c.without_pending.ensures c.output_of-above.ensures _
    c.if-above.false c.output_of.ensures
