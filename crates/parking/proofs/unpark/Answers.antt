-- `unpark` meets its contract. Assumes nothing.
use mathlib.Core.Path.{◌∙◌}
use Rattle.std.proofs.lemmas.Result.{err_from_is_err_and}
use Rattle.image.specs.declared.Form.TheVariants.{New, Old}
use Rattle.parking.proofs.RoundTrip.{formed_not}
use Rattle.parking.proofs.Answers.{none_found, one_found, new-read, new-missing, old_read}
use Rattle.parking.proofs.Answers.{reading_malformed, read-new, read-old}
use Rattle.parking.proofs.unpark.Goals as goal

pub returns-in_err-rate : goal.returns-in_err-rate
returns-in_err-rate c =
    let l = c.args.image.now in
    let long = c.if-image-eq-NEW_LENGTH.true in
    let p = err_from_is_err_and c.from_residual.result c.from_residual.ensures.1 in
    let none = none_found _ _ _ _ (rw c.rate_in.ensures at c.in_err-rate.ensures.value) in
    rw (p.1, p.2, none.1) (reading_malformed New l (new-missing l long none.0) ∙ read-new l long)

pub returns-in_ok-rate : goal.returns-in_ok-rate
returns-in_ok-rate c =
    let l = c.args.image.now in
    let long = c.if-image-eq-NEW_LENGTH.true in
    let one = one_found _ _ _ _ (rw c.rate_in.ensures at c.in_ok-rate.ensures.value) in
    c.read_fields.ensures ∙ new-read l long _ one.0 one.1 ∙ read-new l long

pub returns-then-image-eq-OLD_LENGTH : goal.returns-then-image-eq-OLD_LENGTH
returns-then-image-eq-OLD_LENGTH c =
    c.read_fields-then-image-eq-OLD_LENGTH.ensures ∙ old_read _ ∙ read-old _ c.if-image-eq-NEW_LENGTH.false

pub returns-else-image-eq-OLD_LENGTH : goal.returns-else-image-eq-OLD_LENGTH
returns-else-image-eq-OLD_LENGTH c =
    let l = c.args.image.now in
    reading_malformed Old l (formed_not Old l c.if-image-eq-OLD_LENGTH.false)
    ∙ read-old l c.if-image-eq-NEW_LENGTH.false
