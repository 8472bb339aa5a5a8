-- `Clock::own_duration` meets its contract. Assumes nothing.
use Rattle.clock.proofs.Rate.{second-period}
use Rattle.clock.specs.Clock.{rate_of}
use Rattle.clock.proofs.Clock.own_duration.Goals as goal

pub divided-part-requires : goal.divided-part-requires
divided-part-requires c =
    rw c.rate.ensures (second-period (rate_of c.args.self) c.requires.known)
