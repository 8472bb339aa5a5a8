-- `step_of` meets its contract: by the call that is decoded. Assumes nothing.
use Prim.Native.Nat.{ℕ, ◌+◌}
use mathlib.Core.Path.{refl, ap, ◌∙◌}
use mathlib.Core.Bool.{true≢false}
use Rattle.board.specs.Registers.{base}
use Rattle.steps.specs.declared.Passing.TheVariants as P
use Rattle.steps.specs.declared.Step.TheVariants as S
use Rattle.steps.proofs.CallParts.{step-refused, step-accepted, step-skips}
use Rattle.steps.proofs.step_of.Goals as goal

pub returns-in-Err : goal.returns-in-Err
returns-in-Err c = c.first_refusal.ensures ∙ step-refused _ _ _ _ c.in-Err.ensures.value

pub returns-in-HostTime : goal.returns-in-HostTime
returns-in-HostTime c = step-accepted _ _ _ _ c.in-Ok.ensures.value _ c.in-HostTime.is refl (S.HostTime _ _) refl

pub returns-in-Read : goal.returns-in-Read
returns-in-Read c = step-accepted _ _ _ _ c.in-Ok.ensures.value _ c.in-Read.is refl (S.Read _)
    (record { address = _; is = refl; at = ap (λ (n : ℕ). n + base) c.from.ensures })

pub returns-in-Write : goal.returns-in-Write
returns-in-Write c = step-accepted _ _ _ _ c.in-Ok.ensures.value _ c.in-Write.is refl (S.Write _ _)
    (record { address = _; is = refl; at = ap (λ (n : ℕ). n + base) c.from-in-Write.ensures })

pub returns-in-Advance : goal.returns-in-Advance
returns-in-Advance c = step-accepted _ _ _ _ c.in-Ok.ensures.value _ c.in-Advance.is refl (S.Pass P.Advance _)
    (record { advance = λ _. refl; skip = λ e. absurd (true≢false e) })

pub returns-in-Deadline : goal.returns-in-Deadline
returns-in-Deadline c = step-accepted _ _ _ _ c.in-Ok.ensures.value _ c.in-Deadline.is refl S.Deadline refl

pub returns-in-Skip : goal.returns-in-Skip
returns-in-Skip c = step-skips _ _ _ _ c.in-Ok.ensures.value c.in-Skip.is c.skip_step.result c.skip_step.ensures

pub returns-in-Source : goal.returns-in-Source
returns-in-Source c = step-accepted _ _ _ _ c.in-Ok.ensures.value _ c.in-Source.is refl (S.Source _ _) refl

pub returns-in-ControllerRead : goal.returns-in-ControllerRead
returns-in-ControllerRead c =
    step-accepted _ _ _ _ c.in-Ok.ensures.value _ c.in-ControllerRead.is refl (S.ControllerRead _) refl

pub returns-in-ControllerWrite : goal.returns-in-ControllerWrite
returns-in-ControllerWrite c = step-accepted _ _ _ _ c.in-Ok.ensures.value _ c.in-ControllerWrite.is refl
    (S.ControllerWrite _ _) refl

pub returns-in-Output : goal.returns-in-Output
returns-in-Output c = step-accepted _ _ _ _ c.in-Ok.ensures.value _ c.in-Output.is refl S.Output refl
