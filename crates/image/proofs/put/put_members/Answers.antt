-- `put::put_members` meets its contract. Assumes nothing.
use mathlib.Core.Path.{sym}
use Rattle.std.proofs.lemmas.Iterator.{empty_from_Zip}
use Rattle.image.proofs.Tables.{storing-more, storing-ended}
use Rattle.image.proofs.put.put_members.Goals as goal

pub loop-width-preserved : goal.loop-width-preserved
loop-width-preserved c =
    storing-more _ _ _ _ _ _ _ _ _ c.loop-width.invariant c.in-Some.ensures.steps _ c.put.ensures

pub returns : goal.returns
returns c =
    storing-ended _ _ _ _ _ c.loop-width.invariant
    (empty_from_Zip c.loop-width.width-iterator c.next.new.self _ c.in-None.is c.next.ensures.steps
    (sym c.loop-width.invariant.same)).0
