-- Fields there and back: stored and taken out again they have the same members, and bytes that are taken out and
-- stored again are the same bytes. By induction over the layout, whatever its fields are. Assumes nothing.
use Prim.Native.Nat.{ℕ, zero, suc, ◌+◌, ◌≤◌}
use native.Mathlib.Nat.{add-zero, add_assoc}
use native.Mathlib.Omega.{arith}
use mathlib.Core.Path.{◌≡◌, refl, sym, ap, ap₂, ◌∙◌}
use mathlib.Core.Bool.{Bool, true, ◌&&◌}
use mathlib.Core.List.{List, [], ◌∷◌, ◌++◌, append_assoc, append-nil}
use lib.ListN.{length, get_or, take, drop, length-append, take-append-drop, drop_of_length-le}
use lib.Seq.{drop-drop}
use lib.Dec.{leb, ltb, eqb}
use borrow.Author.Tests.{ltb-true, leb-true, le-leb, eqb-true, eq-eqb}
use Rattle.wide.specs.Fields.{be_at}
use Rattle.wide.proofs.Choices.{and_parts, and_join}
use Rattle.format.specs.Format.{sum, header_length, members_at, members_bytes}
use Rattle.format.proofs.Members.{Bytes, Each, ended, ◌▸◌, Fit, bytes_fit, members_back, members-of, record-members}
use Rattle.image.specs.Image.{
  Member,
  number,
  flag,
  Field,
  widths_of,
  members_length,
  field_length,
  fields_length,
  field_bytes,
  fields_bytes,
  flags_hold,
  field_at,
  fields_at,
  members_from,
}
use Rattle.image.proofs.Fields.{field-length}

-- ---- flags

-- a member that is a flag, where flags hold
pub flag_at : (ks : List Member) (ms : List ℕ) → flags_hold ks ms ≡ true → (k : ℕ) → get_or ks k (number 0) ≡ flag →
    get_or ms k 0 ≤ 1
unfolding flags_hold
flag_at [] ms e k f = let z : ◌≡◌ {A = ℕ} 0 1 = cc in absurd (omega (arith, z))
flag_at (number w ∷ ks) ms e zero f = let z : ◌≡◌ {A = ℕ} 0 1 = cc in absurd (omega (arith, z))
flag_at (flag ∷ ks) ms e zero f = leb-true (get_or ms 0 0) 1 (and_parts (leb (get_or ms 0 0) 1) _ e).0
flag_at (number w ∷ ks) [] e (suc k) f = omega arith
flag_at (number w ∷ ks) (m ∷ ms) e (suc k) f = flag_at ks ms e k f
flag_at (flag ∷ ks) [] e (suc k) f = omega arith
flag_at (flag ∷ ks) (m ∷ ms) e (suc k) f = flag_at ks ms (and_parts (leb m 1) (flags_hold ks ms) e).1 k f

-- ---- a field: tag and length are members too

abbrev headed : Field → List ℕ
headed f = 1 ∷ 2 ∷ widths_of f.members

-- the members stand behind these two
behind : (at : ℕ) → at + header_length ≡ at + 1 + 2
behind at = omega arith

headed_bytes : (f : Field) (ms : List ℕ) →
    field_bytes f ms ≡ members_bytes (headed f) (f.tag ∷ members_length f ∷ ms)
unfolding field_bytes
headed_bytes f ms = record-members f.tag (widths_of f.members) ms

-- tag and length of a field fit their widths
abbrev pub header_fits : Field → Bool
header_fits f = ltb f.tag 256 && ltb (members_length f) 65536

-- and so do its members, of which no flag is above 1
pub record FieldFit (f : Field) (ms : List ℕ) : Type 0 where
  pub header : header_fits f ≡ true
  pub members : Fit (widths_of f.members) ms
  pub flags : flags_hold f.members ms ≡ true

-- what is said where a field stands
record Stands (l : List ℕ) (at : ℕ) (f : Field) : Type 0 where
  room : at + field_length f ≤ length l
  tag : be_at l at 1 ≡ f.tag
  size : be_at l (at + 1) 2 ≡ members_length f
  flags : flags_hold f.members (members_at l (at + header_length) (widths_of f.members)) ≡ true

module _ (l : List ℕ) (at : ℕ) (f : Field) where
  abbrev room_test : Bool
  room_test = leb (at + field_length f) (length l)

  abbrev tag_test : Bool
  tag_test = eqb (be_at l at 1) f.tag

  abbrev size_test : Bool
  size_test = eqb (be_at l (at + 1) 2) (members_length f)

  abbrev flags_test : Bool
  flags_test = flags_hold f.members (members_at l (at + header_length) (widths_of f.members))

  stands : field_at l at f ≡ true → Stands l at f
  unfolding field_at
  stands e =
      let p = and_parts room_test (tag_test && (size_test && flags_test)) e in
      let q = and_parts tag_test (size_test && flags_test) p.1 in
      let r = and_parts size_test flags_test q.1 in
      record {
        room = leb-true (at + field_length f) (length l) p.0;
        tag = eqb-true (be_at l at 1) f.tag q.0;
        size = eqb-true (be_at l (at + 1) 2) (members_length f) r.0;
        flags = r.1;
      }

  stood : Stands l at f → field_at l at f ≡ true
  unfolding field_at
  stood s =
      and_join room_test (tag_test && (size_test && flags_test)) (le-leb (at + field_length f) (length l) s.room)
      (and_join tag_test (size_test && flags_test) (eq-eqb (be_at l at 1) f.tag s.tag)
      (and_join size_test flags_test (eq-eqb (be_at l (at + 1) 2) (members_length f) s.size) s.flags))

-- stored and taken out again
module _ (f : Field) (ms : List ℕ) (fit : FieldFit f ms) (pre post : List ℕ) where
  abbrev around : List ℕ
  around = pre ++ (field_bytes f ms ++ post)

  headed_back : members_at around (length pre) (headed f) ≡ f.tag ∷ members_length f ∷ ms
  headed_back =
      let h = and_parts (ltb f.tag 256) (ltb (members_length f) 65536) fit.header in
      ap (λ (l : List ℕ). members_at (pre ++ (l ++ post)) (length pre) (headed f)) (headed_bytes f ms)
      ∙ members_back (headed f) (f.tag ∷ members_length f ∷ ms)
      (ltb-true f.tag 256 h.0 ▸ ltb-true (members_length f) 65536 h.1 ▸ fit.members) pre post

  field_members : members_at around (length pre + header_length) (widths_of f.members) ≡ ms
  unfolding members_at
  field_members =
      ap (λ (n : ℕ). members_at around n (widths_of f.members)) (behind (length pre)) ∙ ap (drop 2) headed_back

  field_back : field_at around (length pre) f ≡ true
  unfolding members_at
  field_back =
      stood around (length pre) f
      (record {
        room =
            omega (
              arith,
              length-append pre (field_bytes f ms ++ post),
              length-append (field_bytes f ms) post,
              field-length f ms,
            );
        tag = ap (λ (l : List ℕ). get_or l 0 0) headed_back;
        size = ap (λ (l : List ℕ). get_or l 1 0) headed_back;
        flags = ap (flags_hold f.members) field_members ∙ fit.flags;
      })

-- taken out and stored again
field_of : (l : List ℕ) → Bytes l → (at : ℕ) (f : Field) → Stands l at f →
    field_bytes f (members_at l (at + header_length) (widths_of f.members)) ≡ take (field_length f) (drop at l)
unfolding members_at
field_of l bytes at f s =
    let ms = members_at l (at + header_length) (widths_of f.members) in
    let same : sum (headed f) ≡ field_length f = omega arith in
    headed_bytes f ms
    ∙ ap₂ (λ (t n : ℕ). members_bytes (headed f) (t ∷ n ∷ ms)) (sym s.tag) (sym s.size)
    ∙ ap (λ (n : ℕ). members_bytes (headed f)
    (be_at l at 1 ∷ be_at l (at + 1) 2 ∷ members_at l n (widths_of f.members)))
    (behind at)
    ∙ members-of l bytes at (headed f) (omega (arith, s.room))
    ∙ ap (λ (n : ℕ). take n (drop at l)) same

-- ---- fields one behind another

abbrev pub FieldsFit : List Field → List (List ℕ) → Type 0
FieldsFit = Each FieldFit

-- stored and taken out again
module _ (f : Field) (fs : List Field) (ms : List ℕ) (mss : List (List ℕ)) (pre : List ℕ) where
  abbrev ahead : List ℕ
  ahead = pre ++ field_bytes f ms

  ahead-whole : pre ++ (field_bytes f ms ++ fields_bytes fs mss) ≡ ahead ++ fields_bytes fs mss
  ahead-whole = sym (append_assoc pre (field_bytes f ms) (fields_bytes fs mss))

  ahead-length : length pre + field_length f ≡ length ahead
  ahead-length =
      sym (length-append pre (field_bytes f ms) ∙ ap (λ (n : ℕ). length pre + n) (field-length f ms))

pub fields_formed : (fs : List Field) (mss : List (List ℕ)) → FieldsFit fs mss → (pre : List ℕ) →
    fields_at (pre ++ fields_bytes fs mss) (length pre) fs ≡ true
unfolding fields_at fields_bytes
fields_formed [] [] ended pre = eq-eqb (length (pre ++ [])) (length pre) (ap length (append-nil pre))
fields_formed [] (ms ∷ mss) fits pre = elim fits [ ]
fields_formed (f ∷ fs) [] fits pre = elim fits [ ]
fields_formed (f ∷ fs) (ms ∷ mss) (fit ▸ fits) pre =
    and_join _ _ (field_back f ms fit pre (fields_bytes fs mss))
    (ap₂ (λ (l : List ℕ) (n : ℕ). fields_at l n fs) (ahead-whole f fs ms mss pre) (ahead-length f fs ms mss pre)
    ∙ fields_formed fs mss fits (pre ++ field_bytes f ms))

pub fields_back : (fs : List Field) (mss : List (List ℕ)) → FieldsFit fs mss → (pre : List ℕ) →
    members_from (pre ++ fields_bytes fs mss) (length pre) fs ≡ mss
unfolding members_from fields_bytes
fields_back [] [] ended pre = refl
fields_back [] (ms ∷ mss) fits pre = elim fits [ ]
fields_back (f ∷ fs) [] fits pre = elim fits [ ]
fields_back (f ∷ fs) (ms ∷ mss) (fit ▸ fits) pre =
    ap₂ ◌∷◌ (field_members f ms fit pre (fields_bytes fs mss))
    (ap₂ (λ (l : List ℕ) (n : ℕ). members_from l n fs) (ahead-whole f fs ms mss pre) (ahead-length f fs ms mss pre)
    ∙ fields_back fs mss fits (pre ++ field_bytes f ms))

-- fields that stand in some bytes: taken out and stored again
pub fields_of : (l : List ℕ) → Bytes l → (at : ℕ) (fs : List Field) → fields_at l at fs ≡ true →
    fields_bytes fs (members_from l at fs) ≡ drop at l
unfolding fields_at fields_bytes members_from
fields_of l bytes at [] e =
    let n = eqb-true (length l) at e in
    sym (drop_of_length-le l {i = at} (omega (arith, n)))
fields_of l bytes at (f ∷ fs) e =
    let p = and_parts (field_at l at f) (fields_at l (at + field_length f) fs) e in
    ap₂ ◌++◌ (field_of l bytes at f (stands l at f p.0))
    (fields_of l bytes (at + field_length f) fs p.1 ∙ sym (drop-drop (field_length f) at l))
    ∙ take-append-drop (field_length f) (drop at l)

-- there is nothing else
pub fields_long : (l : List ℕ) (at : ℕ) (fs : List Field) → fields_at l at fs ≡ true →
    length l ≡ at + fields_length fs
unfolding fields_at
fields_long l at [] e = eqb-true (length l) at e ∙ sym (add-zero at)
fields_long l at (f ∷ fs) e =
    fields_long l (at + field_length f) fs (and_parts (field_at l at f) (fields_at l (at + field_length f) fs) e).1
    ∙ add_assoc at (field_length f) (fields_length fs)

-- the headers of fields fit
abbrev pub headers_fit : List Field → Bool
headers_fit [] = true
headers_fit (f ∷ fs) = header_fits f && headers_fit fs

-- and their members, taken out of bytes
pub fields_fit : (l : List ℕ) → Bytes l → (at : ℕ) (fs : List Field) → headers_fit fs ≡ true →
    fields_at l at fs ≡ true → FieldsFit fs (members_from l at fs)
unfolding fields_at members_from
fields_fit l bytes at [] h e = ended
fields_fit l bytes at (f ∷ fs) h e =
    let p = and_parts (field_at l at f) (fields_at l (at + field_length f) fs) e in
    let q = and_parts (header_fits f) (headers_fit fs) h in
    record {
      header = q.0;
      members = bytes_fit l bytes (at + header_length) (widths_of f.members);
      flags = (stands l at f p.0).flags;
    }
    ▸ fields_fit l bytes (at + field_length f) fs q.1 p.1
