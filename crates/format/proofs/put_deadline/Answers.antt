-- `put_deadline` meets its contract: the members are the answer's, with or without a deadline. Assumes nothing.
use Prim.Native.Nat.{ℕ}
use mathlib.Core.Path.{◌≡◌, ◌∙◌, ap}
use lib.Seq.{sets}
use mir.Val.{bool_byte}
use Rattle.std.specs.Prelude.{Option, None, Some}
use Rattle.std.specs.Option.{is_some, unwrap_or}
use Rattle.wide.specs.declared.number.Wide.{Wide}
use Rattle.wide.specs.Number.{value_of}
use Rattle.board.specs.declared.calls.DeadlineGiven.{DeadlineGiven}
use Rattle.format.specs.declared.Answer.TheVariants.{Deadline, DeadlineMembers}
use Rattle.format.specs.Format.{members_bytes, value_bytes}
use Rattle.format.proofs.put_deadline.Goals as goal

-- the bytes of a deadline, or of none with zeros
bytes : (given : Option DeadlineGiven) (n : ℕ) → n ≡ bool_byte (is_some given) → (z : Wide) → value_of z ≡ 0 →
    (d : DeadlineGiven) → d ≡ unwrap_or given (record { exact = z; word = record { 0 = 0 } }) →
    value_bytes (DeadlineMembers n d.exact d.word.0) ≡ value_bytes (Deadline given)
unfolding members_bytes value_bytes
bytes None n p z e d q = rw (p, q, e)
bytes (Some x) n p z e d q = rw (p, q)

pub returns : goal.returns
returns c = let a = c.args in
    c.put_deadline_members.ensures
    ∙ ap (sets a.buf.now a.at) (bytes a.given _ (c.from.ensures ∙ ap bool_byte c.is_some.ensures) _ c.from-zero.ensures
    _ c.unwrap_or-deadline.ensures)
