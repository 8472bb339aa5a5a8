-- `Clock::time_kept` meets its contract. Assumes nothing.
use mathlib.Core.Path.{◌∙◌}
use Rattle.clock.specs.Clock.{rate_of}
use Rattle.clock.specs.CodeTime.{duration_of}
use Rattle.clock.proofs.Branches.{host-taken}
use Rattle.clock.proofs.Clock.time_kept.Goals as goal

pub returns-then-from_host : goal.returns-then-from_host
returns-then-from_host c =
    let a = c.args in
    c.with_offset.ensures
    ∙ host-taken (rate_of a.self) a.new a.self c.since.result (duration_of c.own_duration.result)
    (rw (c.from_host.ensures, c.from_host-2.ensures) at c.if-from_host.true)
    c.own_duration.ensures c.since.ensures
