-- The fields that stand in some bytes: the code's tests of a field are the rule's. Assumes nothing.
use Prim.Native.Nat.{ℕ, ◌+◌, ◌≤◌}
use mathlib.Core.Path.{◌≡◌, refl, sym}
use mathlib.Core.Bool.{Bool, true, false, cond, ◌&&◌, and-true, and_assoc}
use Rattle.std.proofs.Common.{Some, None}
use Rattle.std.proofs.lemmas.Option.{none-some, cond_some}
use Rattle.image.specs.CodeTables.{header_at, members_in}
use mathlib.Core.List.{List}
use lib.ListN.{length, get_or}
use lib.Dec.{leb, eqb}
use borrow.Author.Tests.{le-leb}
use Rattle.wide.specs.Fields.{be_at}
use Rattle.format.specs.Format.{members_at}
use Rattle.image.specs.Image.{
  Field,
  channel_field,
  clock_field,
  latches_field,
  members_length,
  field_length,
  flags_hold,
  field_at,
  empties_hold0,
}
use Rattle.parking.specs.CodeReads.{held_flags, six_hold0}

-- a value that is there where a test holds
pub not_there : {A : Type 0} (v : Bool) (x : A) → None ≡ cond v (Some x) None → v ≡ false
not_there true x e = absurd (none-some x e)
not_there false x e = refl

module _ (l : List ℕ) (at : ℕ) (f : Field) (room : at + field_length f ≤ length l) where
  -- where there is room, a header and flags that hold are the field
  field-is : field_at l at f
      ≡ (header_at l at f.tag (members_length f) && flags_hold f.members (members_in f l at))
  unfolding field_at
  field-is =
      rw (le-leb (at + field_length f) (length l) room)
      (sym (and_assoc (eqb (be_at l at 1) f.tag) (eqb (be_at l (at + 1) 2) (members_length f)) _))

  -- without its header
  pub field-missing : None ≡ cond (header_at l at f.tag (members_length f)) (Some (members_in f l at)) None →
      {A : Type 0} (x : A) → None ≡ cond (field_at l at f) (Some x) None
  field-missing e x = rw (field-is, not_there _ _ e)

  module _ (ms : List ℕ)
      (e : Some ms ≡ cond (header_at l at f.tag (members_length f)) (Some (members_in f l at)) None) where
    found : (header_at l at f.tag (members_length f) ≡ true) × (members_in f l at ≡ ms)
    found = cond_some _ _ _ (sym e)

    pub field-members : ms ≡ members_in f l at
    field-members = sym found.1

    -- with a flag above 1
    pub field-flawed : flags_hold f.members ms ≡ false → {A : Type 0} (x : A) →
        None ≡ cond (field_at l at f) (Some x) None
    field-flawed n x = rw (field-is, found.0, found.1, n)

    pub field-read : flags_hold f.members ms ≡ true → {A : Type 0} (said : List ℕ → A) →
        Some (said ms) ≡ cond (field_at l at f) (Some (said (members_in f l at))) None
    field-read h said = rw (field-is, found.0, found.1, h)

-- ---- the flags of each field, of members that were taken out

module _ (l ms : List ℕ) (at : ℕ) where
  pub channel-flags : ms ≡ members_in channel_field l at →
      flags_hold channel_field.members ms ≡ (leb (get_or ms 6 0) 1 && leb (get_or ms 7 0) 1)
  unfolding flags_hold members_at
  channel-flags e = rw e (simp and-true)

  pub clock-flags : ms ≡ members_in clock_field l at →
      flags_hold clock_field.members ms ≡ ((leb (get_or ms 4 0) 1 && leb (get_or ms 9 0) 1) && leb (get_or ms 10 0) 1)
  unfolding flags_hold members_at
  clock-flags e = rw e (simp (and-true, and_assoc))

  pub latches-flags : ms ≡ members_in latches_field l at → flags_hold latches_field.members ms ≡ held_flags ms
  unfolding flags_hold members_at
  latches-flags e = rw e (simp (and-true, and_assoc))

  -- the latches that are empty
  pub latches_empty : ms ≡ members_in latches_field l at → six_hold0 ms ≡ empties_hold0 (members_in latches_field l at)
  unfolding members_at
  latches_empty e = rw e (simp (and-true, and_assoc))
