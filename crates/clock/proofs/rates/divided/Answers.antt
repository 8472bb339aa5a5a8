-- `rates::divided` meets its contract. Assumes nothing.
use Rattle.std.proofs.Common.{arith}
use Rattle.clock.proofs.Rate.{last-period}
use Rattle.clock.proofs.rates.divided.Goals as goal

pub returns-in_default : goal.returns-in_default
returns-in_default c =
    rw (
    last-period c.args.period c.requires (omega arith) (omega arith) (omega arith) (omega arith)
    (omega arith)
    ) c.by_period-in_default.ensures
