-- `Clock::moved_time` meets its contract. Assumes nothing.
use Rattle.clock.proofs.Rate.{second-period}
use Rattle.clock.specs.Clock.{rate_of}
use Rattle.clock.proofs.Clock.moved_time.Goals as goal

pub elapsed-e-requires : goal.elapsed-e-requires
elapsed-e-requires c =
    rw c.rate.ensures (second-period (rate_of c.args.self) c.requires.known)
