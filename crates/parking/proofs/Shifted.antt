-- Fields in the bytes from an index on: they stand and say there what they stand and say in the whole. Assumes nothing.
use Prim.Native.Nat.{ℕ, zero, suc, ◌+◌, ◌*◌, ◌≤◌}
use native.Mathlib.Nat.{add_assoc}
use native.Mathlib.Omega.{arith}
use mathlib.Core.Path.{◌≡◌, refl, sym, ap, ap₂, ◌∙◌}
use mathlib.Core.Bool.{◌&&◌}
use mathlib.Core.List.{List, [], ◌∷◌}
use lib.ListN.{length, get_or, drop, length-drop}
use lib.Seq.{get_or-drop}
use lib.Dec.{eqb}
use borrow.Author.Tests.{eqb-true, eqb-false, eq-eqb, ne_eqb}
use Rattle.wide.specs.Fields.{be_at}
use Rattle.wide.proofs.Choices.{either, leb_same}
use Rattle.format.specs.Format.{header_length, members_at}
use Rattle.image.specs.Image.{
  Field,
  widths_of,
  members_length,
  field_length,
  flags_hold,
  field_at,
  fields_at,
  members_from,
}

module _ (l : List ℕ) (n : ℕ) where
  number_behind : (at w : ℕ) → be_at (drop n l) at w ≡ be_at l (n + at) w
  unfolding be_at
  number_behind at zero = refl
  number_behind at (suc w) =
      ap₂ (λ (high low : ℕ). high * 256 + low) (number_behind at w)
      (get_or-drop n l (at + w) 0 ∙ ap (λ (k : ℕ). get_or l k 0) (sym (add_assoc n at w)))

  pub members-behind : (at : ℕ) (ws : List ℕ) → members_at (drop n l) at ws ≡ members_at l (n + at) ws
  unfolding members_at
  members-behind at [] = refl
  members-behind at (w ∷ ws) =
      ap₂ ◌∷◌ (number_behind at w)
      (members-behind (at + w) ws ∙ ap (λ (k : ℕ). members_at l k ws) (sym (add_assoc n at w)))

  -- a field's members, which stand behind its header
  field-behind : (at : ℕ) (f : Field) →
      members_at (drop n l) (at + header_length) (widths_of f.members)
      ≡ members_at l (n + at + header_length) (widths_of f.members)
  field-behind at f =
      members-behind (at + header_length) (widths_of f.members)
      ∙ ap (λ (k : ℕ). members_at l k (widths_of f.members)) (sym (add_assoc n at header_length))

  pub said-behind : (at : ℕ) (fs : List Field) → members_from (drop n l) at fs ≡ members_from l (n + at) fs
  unfolding members_from
  said-behind at [] = refl
  said-behind at (f ∷ fs) =
      ap₂ ◌∷◌ (field-behind at f)
      (said-behind (at + field_length f) fs
      ∙ ap (λ (k : ℕ). members_from l k fs) (sym (add_assoc n at (field_length f))))

module _ (l : List ℕ) (n : ℕ) (h : n ≤ length l) where
  stands-behind : (at : ℕ) (f : Field) → field_at (drop n l) at f ≡ field_at l (n + at) f
  unfolding field_at
  stands-behind at f =
      let long = length-drop n l in
      ap₂ ◌&&◌
      (leb_same (at + field_length f) (length (drop n l)) (n + at + field_length f) (length l)
      (λ e. omega (arith, e, h, long)) (λ e. omega (arith, e, h, long)))
      (ap₂ ◌&&◌ (ap (λ (v : ℕ). eqb v f.tag) (number_behind l n at 1))
      (ap₂ ◌&&◌
      (ap (λ (v : ℕ). eqb v (members_length f))
      (number_behind l n (at + 1) 2 ∙ ap (λ (k : ℕ). be_at l k 2) (sym (add_assoc n at 1))))
      (ap (flags_hold f.members) (field-behind l n at f))))

  pub formed-behind : (at : ℕ) (fs : List Field) → fields_at (drop n l) at fs ≡ fields_at l (n + at) fs
  unfolding fields_at
  formed-behind at [] =
      let long = length-drop n l in
      either (eqb (length l) (n + at))
      (λ e. let same = eqb-true (length l) (n + at) e in
      eq-eqb (length (drop n l)) at (omega (arith, same, h, long)) ∙ sym e)
      (λ e. ne_eqb (length (drop n l)) at (λ same. eqb-false (length l) (n + at) e (omega (arith, same, h, long)))
      ∙ sym e)
  formed-behind at (f ∷ fs) =
      ap₂ ◌&&◌ (stands-behind at f)
      (formed-behind (at + field_length f) fs
      ∙ ap (λ (k : ℕ). fields_at l k fs) (sym (add_assoc n at (field_length f))))
