-- `read_fields` meets its contract. Assumes nothing.
use Prim.Native.Nat.{ℕ}
use mathlib.Core.Path.{◌≡◌, sym, ap, ◌∙◌}
use mathlib.Core.List.{List}
use Rattle.std.proofs.lemmas.Bool.{not-true, not-false}
use Rattle.image.specs.Image.{board_from}
use Rattle.parking.specs.declared.get.BoardSaid.{BoardSaid}
use Rattle.image.specs.declared.Form.TheVariants.{Old}
use Rattle.parking.specs.Parking.{said, empties_in}
use Rattle.std.proofs.lemmas.Option.{cond_some}
use Rattle.parking.proofs.Forms.{not_there}
use Rattle.parking.proofs.Answers.{members-malformed, members-kept, members-unsound, members-accepted}
use Rattle.parking.proofs.read_fields.Goals as goal

pub returns-in_default : goal.returns-in_default
returns-in_default c =
    members-malformed c.args.form c.args.rate _ (said Old c.args.fields.now) (not_there _ _ c.in_default.ensures)

-- what is read, where every field is formed: its two parts
module _ (l : List ℕ) (rate : ℕ) (x : BoardSaid)
    (e : x ≡ record { empties_hold_0 = empties_in Old l; board = board_from rate (said Old l) }) where
  empties : x.empties_hold_0 ≡ empties_in Old l
  empties = ap (λ (y : BoardSaid). y.empties_hold_0) e

  board : x.board ≡ board_from rate (said Old l)
  board = ap (λ (y : BoardSaid). y.board) e

pub returns-then-not-said : goal.returns-then-not-said
returns-then-not-said c =
    let a = c.args in
    let one = cond_some _ _ _ (sym c.in-Some.ensures) in
    members-kept a.form a.rate _ (said Old a.fields.now) one.0 _ (empties a.fields.now a.rate _ (sym one.1))
    (not-true _ c.if-not-said.true)

pub returns-then-not-sound : goal.returns-then-not-sound
returns-then-not-sound c =
    let a = c.args in
    let one = cond_some _ _ _ (sym c.in-Some.ensures) in
    members-unsound a.form a.rate _ (said Old a.fields.now) one.0 _ (empties a.fields.now a.rate _ (sym one.1))
    (not-false _ c.if-not-said.false) _ (board a.fields.now a.rate _ (sym one.1))
    (sym c.sound.ensures.0 ∙ c.if-not-sound.true)

pub returns : goal.returns
returns c =
    let a = c.args in
    let one = cond_some _ _ _ (sym c.in-Some.ensures) in
    members-accepted a.form a.rate _ (said Old a.fields.now) one.0 _ (empties a.fields.now a.rate _ (sym one.1))
    (not-false _ c.if-not-said.false) _ (board a.fields.now a.rate _ (sym one.1))
    (sym c.sound.ensures.0 ∙ c.if-not-sound.false)
