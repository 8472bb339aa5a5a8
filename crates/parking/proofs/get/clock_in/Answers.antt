-- `get::clock_in` meets its contract. Assumes nothing.
use Prim.Native.Nat.{ℕ}
use mathlib.Core.List.{List}
use mathlib.Core.Path.{◌∙◌}
use lib.ListN.{get_or}
use Rattle.image.specs.Image.{clock_field, clock_from}
use Rattle.image.specs.CodeTables.{clock_at}
use Rattle.parking.proofs.Forms.{field-missing, field-members, field-flawed, field-read, clock-flags}
use Rattle.parking.proofs.get.clock_in.Goals as goal

pub returns-in_err-members : goal.returns-in_err-members
returns-in_err-members c =
    rw c.from_residual.ensures (field-missing _ clock_at clock_field c.requires c.in_err-members.ensures.value _)

pub returns-then-not-flags : goal.returns-then-not-flags
returns-then-not-flags c =
    let e = c.in_ok-members.ensures.value in
    field-flawed _ clock_at clock_field c.requires _ e
    (clock-flags _ _ clock_at (field-members _ clock_at clock_field c.requires _ e) ∙ c.if-not-flags.true) _

pub returns : goal.returns
returns c =
    let e = c.in_ok-members.ensures.value in
    field-read _ clock_at clock_field c.requires _ e
    (clock-flags _ _ clock_at (field-members _ clock_at clock_field c.requires _ e) ∙ c.if-not-flags.false)
    (λ (ms : List ℕ). (get_or ms 0 0, clock_from c.args.rate ms))
