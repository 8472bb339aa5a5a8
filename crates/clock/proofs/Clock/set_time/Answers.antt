-- `Clock::set_time` meets its contract. Assumes nothing.
use Prim.Native.Nat.{ℕ, ◌*◌, ◌/◌}
use mathlib.Core.Path.{sym, ap, ◌∙◌}
use native.Mathlib.Omega.{arith}
use Rattle.wide.specs.Number.{value_of}
use Rattle.wide.proofs.TwoWords.{one_word}
use Rattle.clock.proofs.Durations.{high_word_is}
use Rattle.clock.proofs.Branches.{set_word, set_past}
use Rattle.clock.specs.Clock.{rate_of, nanos_per_second, in_nanoseconds}
use Rattle.clock.specs.Registers.{own_time_set, set_time}
use Rattle.clock.proofs.Clock.set_time.Goals as goal

pub returns-then-high-eq0 : goal.returns-then-high-eq0
returns-then-high-eq0 c =
    let k = c.args.self in
    let w = c.args.time.seconds in
    let n = c.args.time.nanoseconds in
    c.own_time_set.ensures
    ∙ ap (λ (rate : ℕ). own_time_set w.low (n * rate / nanos_per_second) k) c.rate.ensures
    ∙ set_word (rate_of k) w.low n k c.args.time.small (omega arith)
    ∙ ap (λ (s : ℕ). set_time (rate_of k) (in_nanoseconds s n) k) (sym (one_word w c.if-high-eq0.true))

pub returns : goal.returns
returns c =
    let a = c.args in
    c.own_time_set-2.ensures
    ∙ set_past (rate_of a.self) (value_of a.time.seconds) a.time.nanoseconds a.self
    c.args.time.small (high_word_is a.time.seconds c.if-high-eq0.false)
