-- `advance::elapsed` meets its contract. Assumes nothing.
use native.Mathlib.Omega.{arith}
use Rattle.clock.proofs.Periods.{part-fits, steps, steps-fit}
use Rattle.clock.proofs.Rate.{period-above, period-fits}
use Rattle.clock.proofs.advance.elapsed.Goals as goal

pub overflow_add-sum : goal.overflow_add-sum
overflow_add-sum c = omega (arith, c.if-c-period.true, period-fits c.args.period c.requires)

pub overflow_add-part : goal.overflow_add-part
overflow_add-part c =
    let a = c.args in
    let v = a.period in
    record {
      fits =
          rw c.divided-a.ensures.1
          (part-fits a.part a.cycles.0 v (period-above v c.requires) (period-fits v c.requires) (omega arith)
          (omega arith));
    }

pub overflow_add-result : goal.overflow_add-result
overflow_add-result c =
    let a = c.args in
    let v = a.period in
    let d = c.divided-a in
    record {
      fits =
          steps-fit a.part a.cycles.0 v _ _ _ d.ensures.0 d.ensures.1
          c.divided-b.ensures.0 (period-above v c.requires) (period-fits v c.requires)
          (omega arith) (omega arith);
    }

pub returns : goal.returns
returns c =
    let a = c.args in
    let d = c.divided-a in
    let e = c.divided-b in
    steps a.part a.cycles.0 a.period _ _ _ d.ensures.0 d.ensures.1 e.ensures.0 _
    (omega (arith, period-above a.period c.requires)) e.ensures.1
