-- `get::channel_at` meets its contract. Assumes nothing.
use mathlib.Core.Path.{◌∙◌}
use Rattle.image.specs.Image.{channel_field, timer_from}
use Rattle.parking.proofs.Forms.{field-missing, field-members, field-flawed, field-read, channel-flags}
use Rattle.parking.proofs.get.channel_at.Goals as goal

pub returns-in_err-members : goal.returns-in_err-members
returns-in_err-members c =
    rw c.from_residual.ensures (field-missing _ _ channel_field c.requires c.in_err-members.ensures.value _)

pub returns-then-not-flags : goal.returns-then-not-flags
returns-then-not-flags c =
    let e = c.in_ok-members.ensures.value in
    field-flawed _ _ channel_field c.requires _ e
    (channel-flags _ _ _ (field-members _ _ channel_field c.requires _ e) ∙ c.if-not-flags.true) _

pub returns : goal.returns
returns c =
    let e = c.in_ok-members.ensures.value in
    field-read _ _ channel_field c.requires _ e
    (channel-flags _ _ _ (field-members _ _ channel_field c.requires _ e) ∙ c.if-not-flags.false) timer_from
