-- `get::latches_in` meets its contract. Assumes nothing.
use Prim.Native.Nat.{ℕ}
use mathlib.Core.List.{List}
use mathlib.Core.Path.{sym, ◌∙◌}
use Rattle.image.specs.Image.{latches_field, latches_from}
use Rattle.image.specs.CodeTables.{latches_at}
use Rattle.parking.specs.CodeReads.{six_hold0}
use Rattle.parking.proofs.Forms.{field-missing, field-members, field-flawed, field-read, latches-flags, latches_empty}
use Rattle.parking.proofs.get.latches_in.Goals as goal

pub returns-in_err-members : goal.returns-in_err-members
returns-in_err-members c =
    rw c.from_residual.ensures (field-missing _ latches_at latches_field c.requires c.in_err-members.ensures.value _)

pub returns-then-not-held_flags : goal.returns-then-not-held_flags
returns-then-not-held_flags c =
    let e = c.in_ok-members.ensures.value in
    let ms = field-members _ latches_at latches_field c.requires _ e in
    field-flawed _ latches_at latches_field c.requires _ e
    (latches-flags _ _ latches_at ms ∙ sym c.held_flags.ensures ∙ c.if-not-held_flags.true) _

pub returns : goal.returns
returns c =
    let e = c.in_ok-members.ensures.value in
    let ms = field-members _ latches_at latches_field c.requires _ e in
    rw (
      c.empties_hold_0.ensures,
      c.latch_from.ensures,
      c.latch_from-2.ensures,
      c.latch_from-3.ensures,
      c.latch_from-4.ensures,
      c.latch_from-low.ensures,
      c.latch_from-high.ensures,
      ← latches_empty _ _ latches_at ms,
    )
    (field-read _ latches_at latches_field c.requires _ e
    (latches-flags _ _ latches_at ms ∙ sym c.held_flags.ensures ∙ c.if-not-held_flags.false)
    (λ (xs : List ℕ). record { empties_hold_0 = six_hold0 c.in_ok-members.members; latches = latches_from xs }))
