-- `put_deadline_members` meets its contract: the three stores are the members' bytes. Assumes nothing.
use Prim.Native.Nat.{ℕ}
use mathlib.Core.Path.{◌≡◌, ◌∙◌, ap}
use mathlib.Core.List.{◌++◌, append_assoc, append-nil}
use lib.ListN.{length-append}
use lib.Seq.{sets}
use Rattle.wide.specs.declared.number.Wide.{Wide}
use Rattle.wide.specs.Number.{value_of}
use Rattle.wide.specs.Fields.{be}
use Rattle.wide.proofs.BigEndian.{length-be}
use Rattle.format.specs.declared.Answer.TheVariants.{DeadlineMembers}
use Rattle.format.specs.Format.{members_bytes, value_bytes}
use Rattle.format.proofs.Frames.{sets_then, sets_be}
use Rattle.format.proofs.put_deadline_members.Goals as goal

bytes : (present n word : ℕ) (exact : Wide) → n ≡ present →
    (be 1 n ++ be 16 (value_of exact)) ++ be 8 word ≡ value_bytes (DeadlineMembers present exact word)
unfolding members_bytes value_bytes
bytes present n word exact e = rw (e, append-nil, append_assoc)

pub returns : goal.returns
returns c = let a = c.args in
    let first = be 1 c.from.result in
    rw (
      c.put-2.ensures,
      c.put_wide.ensures,
      c.put.ensures,
      sets_be a.buf.now a.at 1 c.from.result (be 16 (value_of a.exact)),
    )
    (sets_then a.buf.now a.at 17 (first ++ be 16 (value_of a.exact)) (be 8 a.word) (simp (length-append, length-be))
    ∙ ap (sets a.buf.now a.at) (bytes a.present c.from.result a.word a.exact c.from.ensures))
