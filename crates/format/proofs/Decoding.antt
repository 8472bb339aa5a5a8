-- What the code finds of the call at the front of a list is what the rules say of it. Assumes nothing.
use Prim.Native.Nat.{ℕ, ◌+◌, ◌-◌, ◌≤◌, ◌<◌}
use native.Mathlib.Omega.{arith}
use mathlib.Core.Path.{◌≡◌, refl, sym, ◌∙◌}
use mathlib.Core.Bool.{true, false, cond, not, and-false, false≢true}
use mathlib.Core.List.{List}
use lib.ListN.{length}
use lib.Dec.{ltb, eqb}
use borrow.Author.Tests.{ltb-false, lt-ltb, le-ltb, eqb-true, eq-eqb}
use Rattle.wide.specs.Fields.{be_at}
use Rattle.wide.proofs.Choices.{either}
use Rattle.board.specs.declared.Board.{Board}
use Rattle.board.specs.declared.calls.Call.{Call}
use Rattle.board.specs.declared.calls.Call.TheVariants.{HostTime, Read, Write, Advance, Deadline, Skip, Source}
use Rattle.board.specs.declared.calls.Call.TheVariants.{ControllerRead, ControllerWrite, Output}
use Rattle.board.specs.Calls.{host_time_refusal, address_refusal, source_refusal, effect_of}
use Rattle.format.specs.Format.{answer_too_long, row_of, known, value_length, header_length}
use Rattle.format.specs.Format.{members_at}
use Rattle.format.specs.Codec.{tag_at, frame_refusal, call_of, call_at, record_length, first_of, refusal_at}
use Rattle.format.specs.declared.tag.Tag.{Tag}
use Rattle.format.specs.declared.tag.Tag.TheVariants as T
use Rattle.format.specs.Tags.{tag_number}
use Rattle.format.specs.CodeDecode.{Decoded, value_refusal, refused_by, told, roomed, valued, named_at}
use Rattle.format.specs.CodeDecode.{value_frame, framed_as, decoded_of, board_refusal, first_refusal}

-- ---- the frame

-- a value that is not refused is whole
pub whole : (value : ℕ) (l : List ℕ) → header_length ≤ length l → 0 ≡ value_frame value l →
    header_length + value ≤ length l
unfolding value_frame
whole value l h z =
    either (not (eqb (be_at l 1 2) value))
    (λ e. let q : ◌≡◌ {A = ℕ} 0 4 = rw e at z in absurd (omega arith))
    (λ e. either (ltb (length l - header_length) value)
    (λ f. let q : ◌≡◌ {A = ℕ} 0 5 = rw (e, f) at z in absurd (omega arith))
    (λ f. let m = ltb-false (length l - header_length) value f in omega arith))

-- a value is not refused for the room
pub frame-names : (value : ℕ) (l : List ℕ) (n : ℕ) → n ≡ value_frame value l → eqb n answer_too_long ≡ false
unfolding value_frame
frame-names value l n e =
    either (not (eqb (be_at l 1 2) value))
    (λ f. rw (e, f))
    (λ f. either (ltb (length l - header_length) value) (λ g. rw (e, f, g)) (λ g. rw (e, f, g)))

-- ---- the call at the front

tag-known : (tag : Tag) → known (tag_number tag) ≡ true
tag-known T.HostTime = refl
tag-known T.Read = refl
tag-known T.Write = refl
tag-known T.Advance = refl
tag-known T.Deadline = refl
tag-known T.Skip = refl
tag-known T.Source = refl
tag-known T.ControllerRead = refl
tag-known T.ControllerWrite = refl
tag-known T.Output = refl

module _ (l : List ℕ) (room : ℕ) where
  pub decoded-cut : length l < header_length → refused_by 2 ≡ decoded_of l room
  unfolding frame_refusal decoded_of
  decoded-cut h = rw (lt-ltb (length l) header_length h)

  pub decoded-unknown : header_length ≤ length l → known (tag_at l) ≡ false → refused_by 3 ≡ decoded_of l room
  unfolding frame_refusal decoded_of
  decoded-unknown h k = rw (le-ltb (length l) header_length h, k)

  -- by the tag that stands there
  pub as-tag : header_length ≤ length l → (tag : Tag) → tag_at l ≡ tag_number tag →
      framed_as (value_length (tag_number tag)) (call_of (tag_number tag) (members_at l header_length
      (row_of (tag_number tag)).value)) l room
      ≡ decoded_of l room
  unfolding frame_refusal value_frame framed_as decoded_of
  as-tag h tag e = rw (le-ltb (length l) header_length h, e, tag-known tag)

-- ---- whether a call that is refused is named

module _ (l : List ℕ) (d : Decoded) where
  -- not where it is refused ahead of the room
  pub named-early : (n : ℕ) → refused_by n ≡ d → eqb n answer_too_long ≡ false → false ≡ named_at l d
  named-early n e f = rw (← e, f, and-false)

  -- not where it has members
  pub named-not : (tag : Tag) → tag_at l ≡ tag_number tag → eqb (value_length (tag_number tag)) 0 ≡ false →
      false ≡ named_at l d
  named-not tag e v = rw (e, v)

  -- where it has none, it is where the room refuses it
  pub named-bare : (tag : Tag) → tag_at l ≡ tag_number tag → eqb (value_length (tag_number tag)) 0 ≡ true →
      eqb d.refusal answer_too_long ≡ named_at l d
  named-bare tag e v = rw (e, v)

-- ---- what a caller learns of it

first_none : (n : ℕ) → n ≡ first_of n 0
first_none n = either (eqb n 0) (λ e. rw e (eqb-true n 0 e)) (λ e. rw e)

-- .0: what the members decide of a call's own refusal, and what the board does; .1: what is told of a call without
-- room says no less of the board's part
parts : (call : Call) (b : Board) →
    ((effect_of call b).refusal ≡ first_of (value_refusal call) (board_refusal call b))
    × (board_refusal (told call) b ≡ board_refusal call b)
parts (HostTime nanoseconds seconds) b =
    (first_none (host_time_refusal (record { seconds = seconds; nanoseconds = nanoseconds })), refl)
parts (Read address) b = (first_none (address_refusal address), refl)
parts (Write byte address) b = (first_none (address_refusal address), refl)
parts (Advance c) b = (refl, refl)
parts Deadline b = (refl, refl)
parts Skip b = (refl, refl)
parts (Source number level) b = (first_none (source_refusal number level), refl)
parts (ControllerRead address) b = (refl, refl)
parts (ControllerWrite byte address) b = (refl, refl)
parts Output b = (refl, refl)

-- a number that is 0 and is not
neither : {P : Type 0} (n : ℕ) → n ≡ 0 → eqb n 0 ≡ false → P
neither n z f = absurd (false≢true (sym f ∙ eq-eqb n 0 z))

first_some : (m n : ℕ) → eqb n 0 ≡ false → eqb (first_of m n) 0 ≡ false
first_some m n f = either (eqb m 0) (λ e. rw e f) (λ e. rw e e)

module _ (call : Call) (room : ℕ) where
  -- the rest of the refusal rule, behind the frame's
  abbrev later : Board → ℕ
  later b = first_of (effect_of call b).refusal (cond (ltb room (record_length call)) answer_too_long 0)

  valued-accepted : (valued call room).refusal ≡ 0 →
      ((valued call room).call ≡ call) × ((value_refusal call ≡ 0) × (record_length call ≤ room))
  unfolding valued roomed
  valued-accepted z =
      either (eqb (value_refusal call) 0)
      (λ v. either (ltb room (record_length call))
      (λ s. let e : ◌≡◌ {A = ℕ} 11 0 = rw (v, s) at z in absurd (omega arith))
      (λ s. (rw (v, s), (eqb-true (value_refusal call) 0 v, ltb-false room (record_length call) s))))
      (λ v. let e : value_refusal call ≡ 0 = rw v at z in neither (value_refusal call) e v)

  valued-refused : (b : Board) → eqb (valued call room).refusal 0 ≡ false →
      (first_refusal b (valued call room) ≡ later b) × (eqb (later b) 0 ≡ false)
  unfolding valued roomed
  valued-refused b f =
      either (eqb (value_refusal call) 0)
      (λ v. either (ltb room (record_length call))
      (λ s. let e : (effect_of call b).refusal ≡ board_refusal call b = rw v at (parts call b).0 in
      (rw (v, s, (parts call b).1, e), rw (s, e) (first_some (board_refusal call b) 11 refl)))
      (λ s. let e : eqb 0 0 ≡ false = rw (v, s) at f in absurd (false≢true (sym e))))
      (λ v. let e : (effect_of call b).refusal ≡ value_refusal call = rw v at (parts call b).0 in
      (rw (v, e, v), rw (e, v, v)))

module _ (l : List ℕ) (room : ℕ) where
  -- a call that is found accepted is the one that stands there, and its frame, members and room are as they must be
  pub decoded-accepted : (decoded_of l room).refusal ≡ 0 →
      ((decoded_of l room).call ≡ call_at l)
      × ((frame_refusal l ≡ 0) × ((value_refusal (call_at l) ≡ 0) × (record_length (call_at l) ≤ room)))
  unfolding decoded_of
  decoded-accepted z =
      either (eqb (frame_refusal l) 0)
      (λ f. let p = valued-accepted (call_at l) room (rw f at z) in
      (rw f p.0, (eqb-true (frame_refusal l) 0 f, p.1)))
      (λ f. let e : frame_refusal l ≡ 0 = rw f at z in neither (frame_refusal l) e f)

module _ (b : Board) (l : List ℕ) (room : ℕ) where
  -- one that is found refused is refused by the rule, with the skip's own refusal ahead of the room's
  pub first-refusal : eqb (decoded_of l room).refusal 0 ≡ false →
      (first_refusal b (decoded_of l room) ≡ refusal_at b l room) × (eqb (refusal_at b l room) 0 ≡ false)
  unfolding decoded_of refusal_at
  first-refusal r =
      either (eqb (frame_refusal l) 0)
      (λ f. let p = valued-refused (call_at l) room b (rw f at r) in (rw f p.0, rw f p.1))
      (λ f. (rw f, rw (f, f)))

  -- one that is found accepted is refused for its own refusal alone
  pub accepted-refusal : (decoded_of l room).refusal ≡ 0 → refusal_at b l room ≡ (effect_of (call_at l) b).refusal
  unfolding refusal_at
  accepted-refusal z =
      let p = decoded-accepted l room z in
      rw (p.1.0, le-ltb room (record_length (call_at l)) p.1.1.1)
      (sym (first_none (effect_of (call_at l) b).refusal))

-- what it says of a call that it is not refused: the frame, the call's own and the room
pub record Clear (b : Board) (l : List ℕ) (room : ℕ) : Type 0 where
  pub frame : frame_refusal l ≡ 0
  pub own : (effect_of (call_at l) b).refusal ≡ 0
  pub fits : record_length (call_at l) ≤ room

first_clear : (m n : ℕ) → first_of m n ≡ 0 → (m ≡ 0) × (n ≡ 0)
first_clear m n z =
    either (eqb m 0) (λ e. (eqb-true m 0 e, rw e at z)) (λ e. let q : m ≡ 0 = rw e at z in neither m q e)

pub clear : (b : Board) (l : List ℕ) (room : ℕ) → refusal_at b l room ≡ 0 → Clear b l room
unfolding refusal_at
clear b l room z =
    let p = first_clear (frame_refusal l) _ z in
    let q = first_clear (effect_of (call_at l) b).refusal _ p.1 in
    let room-is : record_length (call_at l) ≤ room =
    either (ltb room (record_length (call_at l)))
    (λ s. let e : ◌≡◌ {A = ℕ} 11 0 = rw s at q.1 in absurd (omega arith))
    (λ s. ltb-false room (record_length (call_at l)) s) in
    record { frame = p.0; own = q.0; fits = room-is }
