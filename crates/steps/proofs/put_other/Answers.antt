-- `put_other` meets its contract. Assumes nothing.
use Rattle.steps.specs.CodeSteps.{other_call}
use Rattle.steps.proofs.CallParts.{other-then}
use Rattle.steps.proofs.put_other.Goals as goal

pub returns : goal.returns
returns c = other-then (other_call c.args.step) _ c.tag_of.ensures _ _ _ _ _ c.put_header_of.ensures c.put_value.ensures
