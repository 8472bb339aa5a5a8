-- `Clock::commit_seconds` meets its contract. Assumes nothing.
use Prim.Native.Nat.{ℕ}
use mathlib.Core.Path.{ap, ◌∙◌}
use Rattle.clock.specs.declared.Clock.{Clock}
use Rattle.clock.proofs.Ranges.{timed_same, offset-for-timed, time-timed, shadow-timed}
use Rattle.clock.proofs.Rate.{three-rate}
use Rattle.clock.specs.Fields.{with_time, with_shadow}
use Rattle.clock.specs.Clock.{rate_of, check_alarm}
use Rattle.clock.specs.Registers.{unmarked, offset_for, commit_seconds}
use Rattle.clock.proofs.Clock.commit_seconds.Goals as goal

pub check_alarm-requires : goal.check_alarm-requires
check_alarm-requires c =
    let a = c.args in
    let x = c.offset_for in
    let y = c.with_time-k in
    let k = a.self in
    let s = a.shadow.value in
    let t = offset-for-timed (rate_of k) k c.requires s in
    let u = timed_same x.ensures t in
    timed_same c.with_shadow.ensures
    (shadow-timed (rate_of y.result) y.result
    (timed_same y.ensures
    (time-timed (rate_of x.result) x.result u s 0 (three-rate (rate_of x.result) u.known).positive))
    (unmarked a.shadow))

pub returns : goal.returns
unfolding commit_seconds
returns c =
    let a = c.args in
    let s = a.shadow.value in
    let t = offset-for-timed (rate_of a.self) a.self c.requires s in
    c.check_alarm.ensures
    ∙ ap (λ (k : Clock). check_alarm (rate_of k) k)
    (c.with_shadow.ensures
    ∙ ap (λ (k : Clock). with_shadow (unmarked a.shadow) k)
    (c.with_time-k.ensures
    ∙ ap (λ (k : Clock). with_time s 0 k) c.offset_for.ensures))
    ∙ ap (λ (rate : ℕ). check_alarm rate (with_shadow (unmarked a.shadow) (with_time s 0 (offset_for s a.self))))
    t.own
