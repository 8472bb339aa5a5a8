-- `HardwareTimer::reloaded` meets its contract. Assumes nothing.
use Rattle.std.proofs.Common.{◌≡◌, ℕ, ap, ◌∙◌, le_of_lt, mod-lt, pos_of_ne-zero, arith, le-ltb, lt-ltb, eq-eqb, ne_eqb}
use Rattle.wide.specs.Number.{largest}
use Rattle.channel.specs.Channel.{set_pending, with_compare}
use Rattle.channel.specs.Modes.{next_compare, reloaded}
use Rattle.channel.specs.Matches.{points_met}
use Rattle.channel.proofs.Reloading.{next_is}
use Rattle.channel.proofs.HardwareTimer.reloaded.Goals as goal

pub returns-then-reload-eq0 : goal.returns-then-reload-eq0
unfolding reloaded points_met
returns-then-reload-eq0 c =
    let z = eq-eqb _ _ c.if-reload-eq0.true in
    (rw z (c.met.ensures.0 ∙ c.fired.ensures), rw z c.met.ensures.1)

pub overflow_sub-gap : goal.overflow_sub-gap
overflow_sub-gap c = le_of_lt (mod-lt _ (pos_of_ne-zero c.if-reload-eq0.false))

pub returns-in_default : goal.returns-in_default
unfolding reloaded points_met
returns-in_default c =
    let h = c.args.self in
    let n = next_is h.compare h.counter h.reload c.requires
    (pos_of_ne-zero c.if-reload-eq0.false) in
    let z = ne_eqb _ _ c.if-reload-eq0.false in (
      simp (z, lt-ltb largest (next_compare h) (omega arith))
          (c.met-in_default.ensures.0 ∙ c.fired-in_default.ensures),
      rw z c.met-in_default.ensures.1,
    )

pub returns : goal.returns
unfolding reloaded points_met
returns c =
    let h = c.args.self in
    let n = next_is h.compare h.counter h.reload c.requires
    (pos_of_ne-zero c.if-reload-eq0.false) in
    let z = ne_eqb _ _ c.if-reload-eq0.false in
    let e : c.in-Some.next ≡ next_compare h = omega arith in (
      simp (z, le-ltb largest (next_compare h) (omega arith))
          (c.met-2.ensures.0 ∙ ap (λ (k : ℕ). with_compare k (set_pending h)) e),
      rw z c.met-2.ensures.1,
    )
