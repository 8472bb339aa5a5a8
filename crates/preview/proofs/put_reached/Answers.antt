-- `put_reached` meets its contract. Assumes nothing.
use mathlib.Core.Path.{ap, ◌∙◌}
use mathlib.Core.Bool.{Bool}
use Rattle.wide.specs.Bits.{flag_of}
use Rattle.wide.proofs.Bits.{byte_flag}
use Rattle.preview.proofs.Bytes.{byte_more}
use Rattle.preview.proofs.put_reached.Goals as goal

pub loop-i-preserved : goal.loop-i-preserved
loop-i-preserved c =
    byte_more _ _ _ _ _ _ c.loop-i.invariant c.loop-i-test.true c.requires
    (c.from.ensures ∙ byte_flag _ ∙ ap (λ (v : Bool). flag_of v) c.reaches.ensures)
