-- `put_value` meets its contract. Assumes nothing.
use Prim.Native.Nat.{ℕ, ◌+◌, ◌≤◌}
use mathlib.Core.Path.{◌≡◌}
use lib.ListN.{length}
use Rattle.wide.specs.Fields.{be}
use Rattle.format.specs.declared.Answer.{Answer}
use Rattle.format.specs.Format.{members_bytes, value_bytes}
use Rattle.format.proofs.put_value.Goals as goal

-- the room for an answer is the room for what it is
room : {x y : Answer} (at k : ℕ) → x ≡ y → at + length (value_bytes x) ≤ k → at + length (value_bytes y) ≤ k
room at k e h = rw e at h

pub put_byte-requires : goal.put_byte-requires
unfolding members_bytes value_bytes be
put_byte-requires c = room _ _ c.in-Byte.is c.requires

pub put_deadline-requires : goal.put_deadline-requires
unfolding members_bytes value_bytes be
put_deadline-requires c = room _ _ c.in-Deadline.is c.requires

pub put_skip-requires : goal.put_skip-requires
unfolding members_bytes value_bytes be
put_skip-requires c = room _ _ c.in-Skip.is c.requires

pub put_output-requires : goal.put_output-requires
unfolding members_bytes value_bytes be
put_output-requires c = room _ _ c.in-Output.is c.requires

pub put_deadline_members-requires : goal.put_deadline_members-requires
unfolding members_bytes value_bytes be
put_deadline_members-requires c = room _ _ c.in-DeadlineMembers.is c.requires

pub put_skip_members-requires : goal.put_skip_members-requires
unfolding members_bytes value_bytes be
put_skip_members-requires c = room _ _ c.in-SkipMembers.is c.requires

pub put_pair-requires : goal.put_pair-requires
unfolding members_bytes value_bytes be
put_pair-requires c = room _ _ c.in-Pair.is c.requires
