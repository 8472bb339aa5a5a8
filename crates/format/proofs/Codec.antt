-- The codec of calls is exact both ways. Assumes nothing.
use Prim.Native.Nat.{ℕ, ◌+◌, ◌-◌, ◌≤◌}
use native.Mathlib.Omega.{arith}
use mathlib.Core.Path.{◌≡◌, refl, sym, ap, ap₂, ◌∙◌}
use mathlib.Core.List.{List, [], ◌∷◌, ◌++◌}
use lib.ListN.{length, get_or, take, drop, length-append}
use borrow.Author.Tests.{le-ltb, eq-eqb}
use Rattle.wide.specs.Fields.{be_at}
use Rattle.board.specs.declared.calls.Call.{Call}
use Rattle.board.specs.declared.calls.Call.TheVariants.{HostTime, Read, Write, Advance, Deadline, Skip, Source}
use Rattle.board.specs.declared.calls.Call.TheVariants.{ControllerRead, ControllerWrite, Output}
use Rattle.board.specs.Calls.{CallFits}
use Rattle.format.specs.Format.{sum, row_of, value_length, header_length, members_at, members_bytes, record_of}
use Rattle.format.specs.Codec.{tag_of, arguments_of, call_bytes, call_length, tag_at, frame_refusal, call_of, call_at}
use Rattle.format.proofs.Frames.{by_tag, framed, told_is, tag_is, tag_below, tag-known, value-below}
use Rattle.format.proofs.Frames.{record-length, members-length}
use Rattle.format.proofs.Members.{Bytes, Fit, ended, ◌▸◌, members_back, members-of, record-members}

tag_first : (l : List ℕ) → be_at l 0 1 ≡ tag_at l
unfolding be_at
tag_first l = omega arith

-- ---- a call in bytes, decoded

-- a call's members fit the row's widths, and with its tag they are the call
arguments_fit : (call : Call) → CallFits call →
    Fit (row_of (tag_of call)).value (arguments_of call) × (call_of (tag_of call) (arguments_of call) ≡ call)
unfolding call_of
arguments_fit (HostTime nanoseconds seconds) h = (h.1 ▸ h.0 ▸ ended, refl)
arguments_fit (Read address) h = (h ▸ ended, refl)
arguments_fit (Write byte address) h = (h.1 ▸ h.0 ▸ ended, refl)
arguments_fit (Advance c) h = (h ▸ ended, refl)
arguments_fit Deadline h = (ended, refl)
arguments_fit Skip h = (ended, refl)
arguments_fit (Source number level) h = (h.0 ▸ h.1 ▸ ended, refl)
arguments_fit (ControllerRead address) h = (h ▸ ended, refl)
arguments_fit (ControllerWrite byte address) h = (h.1 ▸ h.0 ▸ ended, refl)
arguments_fit Output h = (ended, refl)

module _ (call : Call) (fits : CallFits call) (m : List ℕ) where
  abbrev widths : List ℕ
  widths = (row_of (tag_of call)).value

  abbrev there : List ℕ
  there = call_bytes call ++ m

  -- tag, length and members are the call's
  headed : members_at there 0 (1 ∷ 2 ∷ widths) ≡ tag_of call ∷ sum widths ∷ arguments_of call
  unfolding call_bytes
  headed =
      ap (λ (l : List ℕ). members_at (l ++ m) 0 (1 ∷ 2 ∷ widths))
      (record-members (tag_of call) widths (arguments_of call))
      ∙ members_back (1 ∷ 2 ∷ widths) (tag_of call ∷ sum widths ∷ arguments_of call)
      (tag_below call ▸ omega (arith, value-below call) ▸ (arguments_fit call fits).0) [] m

  parts :
      ((tag_at there ≡ tag_of call) × (be_at there 1 2 ≡ value_length (tag_of call)))
      × (members_at there header_length widths ≡ arguments_of call)
  unfolding members_at
  parts =
      let t = sym (tag_first there) ∙ ap (λ (l : List ℕ). get_or l 0 0) headed in
      ((t, ap (λ (l : List ℕ). get_or l 1 0) headed), ap (drop 2) headed)

  whole-there : header_length + value_length (tag_of call) ≤ length there
  unfolding call_bytes
  whole-there =
      let r = record-length (tag_of call) (members_bytes widths (arguments_of call)) in
      omega (arith, r, length-append (call_bytes call) m, members-length widths (arguments_of call))

  -- A call whose members fit their widths is decoded from its bytes, whatever stands behind them.
  pub decode-encode : (frame_refusal (call_bytes call ++ m) ≡ 0) × (call_at (call_bytes call ++ m) ≡ call)
  unfolding frame_refusal
  decode-encode =
      let e = eq-eqb (value_length (tag_of call)) (value_length (tag_of call)) refl in
      let h = le-ltb (length there) header_length (omega (arith, whole-there)) in
      let v = le-ltb (length there - header_length) (value_length (tag_of call)) (omega (arith, whole-there)) in
      let c : call_at there ≡ call = rw (parts.0.0, parts.1) (arguments_fit call fits).1 in
      (rw (parts.0.0, parts.0.1, tag-known call, e, h, v), c)

-- ---- the bytes of a call that is decoded

module _ (l : List ℕ) (bytes : Bytes l) (f : frame_refusal l ≡ 0) where
  abbrev row : List ℕ
  row = (row_of (tag_at l)).value

  arguments-are : arguments_of (call_at l) ≡ members_at l header_length row
  unfolding call_of members_at
  arguments-are =
      let at : ℕ → List ℕ = λ t. members_at l header_length (row_of t).value in
      by_tag (λ (t : ℕ). arguments_of (call_of t (at t)) ≡ at t) (tag_at l) (framed l f).1.0 (framed l f).1.1
      refl refl refl refl refl refl refl refl refl refl

  -- The bytes at the front of a list that a decoded call uses are that call's bytes.
  pub encode-decode : take (call_length (call_at l)) l ≡ call_bytes (call_at l)
  unfolding call_bytes members_at
  encode-decode =
      let size : header_length + value_length (tag_at l) ≡ sum (1 ∷ 2 ∷ row) = omega arith in
      ap (λ (t : ℕ). take (header_length + value_length t) l) (tag_is l f)
      ∙ ap (λ (n : ℕ). take n l) size
      ∙ sym (members-of l bytes 0 (1 ∷ 2 ∷ row) (omega (arith, (framed l f).0)))
      ∙ ap₂ (λ (t n : ℕ). members_bytes (1 ∷ 2 ∷ row) (t ∷ n ∷ members_at l header_length row)) (tag_first l)
      (told_is l f)
      ∙ sym (record-members (tag_at l) row (members_at l header_length row))
      ∙ sym (ap₂ (λ (t : ℕ) (ms : List ℕ). record_of t (members_bytes (row_of t).value ms)) (tag_is l f) arguments-are)
