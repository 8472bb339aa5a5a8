-- `pack_output` meets its contract. Assumes nothing.
use Rattle.pec.proofs.Packing.{valid_output, no_output}
use Rattle.pec.proofs.irqc.pack_output.Goals as goal

pub returns-then-output : goal.returns-then-output
returns-then-output c = rw c.from.ensures (valid_output c.args.output c.if-output.true)

pub returns : goal.returns
returns c = rw c.from-2.ensures (no_output c.args.output c.if-output.false)
