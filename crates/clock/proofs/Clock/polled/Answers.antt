-- `Clock::polled` meets its contract. Assumes nothing.
use Prim.Native.Nat.{◌+◌}
use native.Mathlib.Nat.{mod-lt}
use native.Mathlib.Omega.{arith}
use Rattle.clock.proofs.Rate.{limit_positive, three-rate, limit-period, period-fits}
use Rattle.clock.specs.Clock.{rate_of, poll_limit}
use Rattle.clock.proofs.Clock.polled.Goals as goal

pub elapsed-e-requires : goal.elapsed-e-requires
elapsed-e-requires c =
    rw c.poll_limit.ensures (limit-period (rate_of c.args.self) c.requires.known)

pub overflow_cast-e : goal.overflow_cast-e
overflow_cast-e c =
    let k = c.args.self in
    let known = c.requires.known in
    let n = k.poll + c.args.cycles.0 in
    let limit = poll_limit (rate_of k) in
    let e = rw c.poll_limit.ensures at c.elapsed-e.ensures in
    let p = limit_positive (rate_of k) (three-rate (rate_of k) known) in
    omega (arith, e.1, mod-lt n {m = limit} p, period-fits limit (limit-period (rate_of k) known))
