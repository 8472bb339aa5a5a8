-- `put_passed` meets its contract. Assumes nothing.
use Rattle.steps.proofs.CallParts.{advance-passed, skip-passed}
use Rattle.steps.proofs.put_passed.Goals as goal

pub returns-in-Advance : goal.returns-in-Advance
returns-in-Advance c = rw c.in-Advance.is
    (advance-passed _ _ _ _ _ c.args.line c.from.ensures c.put_header_of.ensures c.put.ensures)

pub returns-in-Skip : goal.returns-in-Skip
returns-in-Skip c = rw c.in-Skip.is
    (skip-passed _ _ _ _ _ c.args.line c.from-in-Skip.ensures c.put_header_of-in-Skip.ensures c.put-in-Skip.ensures)
