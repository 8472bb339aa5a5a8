-- `Clock::advance` meets its contract. Assumes nothing.
use Prim.Native.Nat.{ℕ}
use mathlib.Core.Path.{ap, ◌∙◌}
use Rattle.clock.specs.declared.Clock.{Clock}
use Rattle.clock.proofs.Ranges.{timed_same, moved-timed}
use Rattle.clock.specs.Clock.{rate_of, moved_time, end_advance, advance_clock}
use Rattle.clock.proofs.Clock.advance.Goals as goal

pub end_advance-requires : goal.end_advance-requires
end_advance-requires c =
    let a = c.args in
    let n = a.cycles.0 in
    let k = a.self in
    timed_same c.moved_time.ensures (moved-timed (rate_of k) k c.requires n)

pub returns : goal.returns
unfolding advance_clock
returns c =
    let n = c.args.cycles.0 in
    let k = c.args.self in
    c.rebuilt.ensures ∙ c.end_advance.ensures
    ∙ ap (λ (j : Clock). end_advance (rate_of j) n j) c.moved_time.ensures
    ∙ ap (λ (rate : ℕ). end_advance rate n (moved_time (rate_of k) n k))
    (moved-timed (rate_of k) k c.requires n).own
