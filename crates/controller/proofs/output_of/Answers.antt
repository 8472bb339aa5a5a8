-- `controller::output_of` meets its contract: the count of trailing zeros is the lowest enabled pending source.
-- Assumes nothing.
use native.Mathlib.Omega.{arith}
use Rattle.controller.proofs.Lowest.{lowest-found, lowest-none}
use Rattle.controller.proofs.output_of.Goals as goal

pub returns-in-0-to-15 : goal.returns-in-0-to-15
returns-in-0-to-15 c = lowest-found c.args.controller (omega arith)

pub returns-in_default : goal.returns-in_default
returns-in_default c = lowest-none c.args.controller (omega arith)
