-- `time::Duration::since` meets its contract. Assumes nothing.
use mathlib.Core.Path.{sym, ◌∙◌}
use mathlib.Core.Bool.{true, false}
use Rattle.clock.specs.CodeTime.{duration_of}
use Rattle.clock.proofs.Durations.{before_is, since_is}
use Rattle.clock.proofs.time.Duration.since.Goals as goal

pub returns-then-negative : goal.returns-then-negative
returns-then-negative c =
    let a = c.args.self in
    let h = c.duration-other in
    let by = c.minus-by in
    let order = before_is a.seconds a.nanoseconds h.result.seconds h.result.nanoseconds a.small h.result.small in
    rw (c.if-negative.true, ← h.ensures)
    (since_is true (duration_of a) (duration_of h.result) by.result (sym order ∙ sym c.if-negative.ensures)
    by.ensures by.result.small)

pub returns-else-negative : goal.returns-else-negative
returns-else-negative c =
    let a = c.args.self in
    let h = c.duration-other in
    let by = c.minus-by-else-negative in
    let order = before_is a.seconds a.nanoseconds h.result.seconds h.result.nanoseconds a.small h.result.small in
    rw (c.if-negative.false, ← h.ensures)
    (since_is false (duration_of a) (duration_of h.result) by.result (sym order ∙ sym c.if-negative.ensures)
    by.ensures by.result.small)
