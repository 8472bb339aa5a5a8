-- `fields::put` meets its contract. Assumes nothing.
use Rattle.std.proofs.Common.{◌≡◌, ℕ, suc, ◌+◌, ◌-◌, ◌/◌, ◌%◌, ◌^◌, List, set, ap, ◌∙◌, arith, add-one, length-set}
use lib.Seq.{sets}
use Rattle.wide.specs.Fields.{be}
use Rattle.wide.proofs.fields.put.Goals as goal

-- a turn's store is the first of the n that are still to be made
stored : (buf goal : List ℕ) (p n m value b q : ℕ) → n ≡ suc m → b ≡ value / 256 ^ m % 256 → q ≡ p + 1 →
    sets buf p (be n value) ≡ goal → sets (set buf p b) q (be m value) ≡ goal
unfolding be
stored buf goal p n m value b q h e f i = rw (f, add-one, e) (rw h at i)

pub loop-i-preserved : goal.loop-i-preserved
loop-i-preserved c = (
  simp length-set (omega arith),
  stored _ _ _ (c.args.width - c.loop-i.i) _ _ _ _ (omega arith)
      (c.byte_above.ensures ∙ ap (λ (n : ℕ). c.args.value / 256 ^ n % 256) (omega arith)) (omega arith)
      c.loop-i.invariant.1,
)

pub returns : goal.returns
unfolding be
returns c = let z : c.args.width - c.loop-i.i ≡ 0 = omega arith in rw z at c.loop-i.invariant.1
