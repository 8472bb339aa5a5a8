-- `Clock::change_control` meets its contract. Assumes nothing.
use Prim.Native.Nat.{ℕ}
use mathlib.Core.Path.{ap, ◌∙◌}
use Rattle.clock.specs.declared.Clock.{Clock}
use Rattle.clock.proofs.Ranges.{timed_same, kept-timed, control-timed}
use Rattle.clock.specs.Clock.{rate_of, check_alarm}
use Rattle.clock.specs.Fields.{with_control}
use Rattle.clock.specs.Registers.{time_kept, change_control}
use Rattle.clock.proofs.Clock.change_control.Goals as goal

pub check_alarm-requires : goal.check_alarm-requires
check_alarm-requires c =
    let a = c.args in
    let x = c.time_kept in
    let n = a.new in
    let k = a.self in
    let p = c.requires in
    let t = kept-timed (rate_of k) k p n in
    timed_same c.with_control.ensures (control-timed (rate_of x.result) x.result (timed_same x.ensures t) n)

pub returns : goal.returns
unfolding change_control
returns c =
    let n = c.args.new in
    let k = c.args.self in
    c.check_alarm.ensures
    ∙ ap (λ (j : Clock). check_alarm (rate_of j) j) c.with_control.ensures
    ∙ ap (λ (j : Clock). check_alarm (rate_of j) (with_control n j)) c.time_kept.ensures
    ∙ ap (λ (rate : ℕ). check_alarm rate (with_control n (time_kept (rate_of k) n k)))
    (kept-timed (rate_of k) k c.requires n).own
