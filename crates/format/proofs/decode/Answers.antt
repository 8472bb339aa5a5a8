-- `decode` meets its contract: by the tag that is found. Assumes nothing.
use mathlib.Core.Path.{◌∙◌, refl, ap}
use lib.Dec.{eqb}
use Rattle.format.specs.declared.tag.Tag.TheVariants as T
use Rattle.format.specs.Format.{members_at, answer_too_long}
use Rattle.format.specs.Codec.{call_of}
use Rattle.format.specs.CodeDecode.{Decoded, decoded_of}
use Rattle.format.proofs.Decoding.{decoded-cut, decoded-unknown, as-tag, named-early, named-not, named-bare}
use native.Mathlib.Omega.{arith}
use Rattle.std.proofs.lemmas.Grind.{common_steps}
use Rattle.format.proofs.decode.Goals as goal

pub returns-then-rest-lt-HEADER_LENGTH : goal.returns-then-rest-lt-HEADER_LENGTH
returns-then-rest-lt-HEADER_LENGTH c =
    let cut = decoded-cut _ _ c.if-rest-lt-HEADER_LENGTH.true in
    record { value = cut; named = named-early c.args.rest.now _ _ cut refl }

pub returns-in_default : goal.returns-in_default
returns-in_default c =
    let unknown = decoded-unknown _ _ c.if-rest-lt-HEADER_LENGTH.false (grind (arith, common_steps)) in
    record { value = unknown; named = named-early c.args.rest.now _ _ unknown refl }

pub returns-in-1 : goal.returns-in-1
unfolding call_of members_at
returns-in-1 c =
    let found = c.host_time.ensures.value ∙ as-tag _ _ c.if-rest-lt-HEADER_LENGTH.false T.HostTime c.in-1.is in
    let l = c.args.rest.now in
    record {
      value = found;
      named = c.host_time.ensures.named ∙ named-not l (decoded_of l c.args.room) T.HostTime c.in-1.is refl;
    }

pub returns-in-2 : goal.returns-in-2
unfolding call_of members_at
returns-in-2 c =
    let found = c.read.ensures.value ∙ as-tag _ _ c.if-rest-lt-HEADER_LENGTH.false T.Read c.in-2.is in
    let l = c.args.rest.now in
    record {
      value = found;
      named = c.read.ensures.named ∙ named-not l (decoded_of l c.args.room) T.Read c.in-2.is refl;
    }

pub returns-in-3 : goal.returns-in-3
unfolding call_of members_at
returns-in-3 c =
    let found = c.write.ensures.value ∙ as-tag _ _ c.if-rest-lt-HEADER_LENGTH.false T.Write c.in-3.is in
    let l = c.args.rest.now in
    record {
      value = found;
      named = c.write.ensures.named ∙ named-not l (decoded_of l c.args.room) T.Write c.in-3.is refl;
    }

pub returns-in-4 : goal.returns-in-4
unfolding call_of members_at
returns-in-4 c =
    let found = c.advance.ensures.value ∙ as-tag _ _ c.if-rest-lt-HEADER_LENGTH.false T.Advance c.in-4.is in
    let l = c.args.rest.now in
    record {
      value = found;
      named = c.advance.ensures.named ∙ named-not l (decoded_of l c.args.room) T.Advance c.in-4.is refl;
    }

pub returns-in-5 : goal.returns-in-5
unfolding call_of members_at
returns-in-5 c =
    let found = c.bare.ensures.value ∙ as-tag _ _ c.if-rest-lt-HEADER_LENGTH.false T.Deadline c.in-5.is in
    let l = c.args.rest.now in
    record {
      value = found;
      named = c.bare.ensures.named
          ∙ ap (λ (d : Decoded). eqb d.refusal answer_too_long) found
          ∙ named-bare l (decoded_of l c.args.room) T.Deadline c.in-5.is refl;
    }

pub returns-in-6 : goal.returns-in-6
unfolding call_of members_at
returns-in-6 c =
    let found = c.bare-in-6.ensures.value ∙ as-tag _ _ c.if-rest-lt-HEADER_LENGTH.false T.Skip c.in-6.is in
    let l = c.args.rest.now in
    record {
      value = found;
      named = c.bare-in-6.ensures.named
          ∙ ap (λ (d : Decoded). eqb d.refusal answer_too_long) found
          ∙ named-bare l (decoded_of l c.args.room) T.Skip c.in-6.is refl;
    }

pub returns-in-7 : goal.returns-in-7
unfolding call_of members_at
returns-in-7 c =
    let found = c.source.ensures.value ∙ as-tag _ _ c.if-rest-lt-HEADER_LENGTH.false T.Source c.in-7.is in
    let l = c.args.rest.now in
    record {
      value = found;
      named = c.source.ensures.named ∙ named-not l (decoded_of l c.args.room) T.Source c.in-7.is refl;
    }

pub returns-in-8 : goal.returns-in-8
unfolding call_of members_at
returns-in-8 c =
    let l = c.args.rest.now in
    let found = as-tag _ _ c.if-rest-lt-HEADER_LENGTH.false T.ControllerRead c.in-8.is in
    let named = named-not l (decoded_of l c.args.room) T.ControllerRead c.in-8.is refl in
    record { value = c.controller_read.ensures.value ∙ found; named = c.controller_read.ensures.named ∙ named }

pub returns-in-9 : goal.returns-in-9
unfolding call_of members_at
returns-in-9 c =
    let l = c.args.rest.now in
    let found = as-tag _ _ c.if-rest-lt-HEADER_LENGTH.false T.ControllerWrite c.in-9.is in
    let named = named-not l (decoded_of l c.args.room) T.ControllerWrite c.in-9.is refl in
    record { value = c.controller_write.ensures.value ∙ found; named = c.controller_write.ensures.named ∙ named }

pub returns-in-10 : goal.returns-in-10
unfolding call_of members_at
returns-in-10 c =
    let found = c.bare-in-10.ensures.value ∙ as-tag _ _ c.if-rest-lt-HEADER_LENGTH.false T.Output c.in-10.is in
    let l = c.args.rest.now in
    record {
      value = found;
      named = c.bare-in-10.ensures.named
          ∙ ap (λ (d : Decoded). eqb d.refusal answer_too_long) found
          ∙ named-bare l (decoded_of l c.args.room) T.Output c.in-10.is refl;
    }
