-- Laws of the bytes of a list: a call at its front and its members, and how the parts of a record are stored. Assumes
-- nothing.
use mathlib.Core.Path.{◌≡◌, refl, ap, ◌∙◌}
use mathlib.Core.List.{List, [], ◌∷◌, ◌++◌}
use mathlib.Core.Bool.{Bool, true, false, cond, ◌&&◌, not}
use Prim.Native.Nat.{ℕ, zero, suc, ◌+◌, ◌-◌, ◌^◌, ◌≤◌, ◌<◌}
use native.Mathlib.Nat.{zero-add, pow-suc}
use native.Mathlib.Omega.{arith}
use lib.Arith.{digits_lt}
use lib.ListN.{length, get_or, take, drop, length-drop, length-append, get_or-append}
use lib.Seq.{sets, sets-eq, take_all}
use lib.Dec.{ltb, eqb}
use borrow.Author.Tests.{ltb-true, ltb-false, le-ltb, eqb-true, eqb-false, not-false}
use Rattle.wide.specs.Fields.{be_at, be}
use Rattle.wide.proofs.BigEndian.{length-be, sets-append}
use Rattle.wide.proofs.Choices.{choose, either}
use Rattle.board.specs.declared.Board.{Board}
use Rattle.board.specs.declared.calls.Call.{Call}
use Rattle.board.specs.declared.calls.Call.TheVariants.{HostTime, Read, Write, Advance, Deadline, Skip, Source}
use Rattle.board.specs.declared.calls.Call.TheVariants.{ControllerRead, ControllerWrite, Output}
use Rattle.board.specs.Calls.{effect_of, CallFits}
use Rattle.format.specs.Format.{sum, row_of, known, value_length, answer_length}
use Rattle.format.specs.Format.{header_length, members_at, members_bytes, answer_bytes, record_of}
use Rattle.format.specs.Codec.{tag_of, call_length, tag_at, frame_refusal, call_of, call_at, answer_record}
use Rattle.format.specs.Codec.{record_length}

-- ---- bytes behind

pub field_before : (l m : List ℕ) (at n : ℕ) → at + n ≤ length l → be_at (l ++ m) at n ≡ be_at l at n
unfolding be_at
field_before l m at zero h = refl
field_before l m at (suc n) h =
    rw (field_before l m at n (omega arith), get_or-append l m 0 (at + n) (omega arith))

pub members_before : (l m : List ℕ) (at : ℕ) (ws : List ℕ) → at + sum ws ≤ length l →
    members_at (l ++ m) at ws ≡ members_at l at ws
unfolding members_at
members_before l m at [] h = refl
members_before l m at (w ∷ ws) h =
    rw (field_before l m at w (omega arith), members_before l m (at + w) ws (omega arith))

-- ---- members of bytes fit their widths

field_below : (l : List ℕ) → ((i : ℕ) → get_or l i 0 < 256) → (at n : ℕ) → be_at l at n < 256 ^ n
unfolding be_at
field_below l bytes at zero = omega arith
field_below l bytes at (suc n) = rw pow-suc (digits_lt (field_below l bytes at n) (bytes (at + n)))

pub members_below : (l : List ℕ) → ((i : ℕ) → get_or l i 0 < 256) → (at : ℕ) (ws : List ℕ) (k : ℕ) →
    get_or (members_at l at ws) k 0 < 256 ^ get_or ws k 0
unfolding members_at
members_below l bytes at [] k = omega arith
members_below l bytes at (w ∷ ws) zero = field_below l bytes at w
members_below l bytes at (w ∷ ws) (suc k) = members_below l bytes (at + w) ws k

-- ---- tags

-- a property of a known tag, tag by tag
pub by_tag : (P : ℕ → Type 0) (tag : ℕ) → 0 < tag → tag < 11 →
    P 1 → P 2 → P 3 → P 4 → P 5 → P 6 → P 7 → P 8 → P 9 → P 10 → P tag
by_tag P tag low high p1 p2 p3 p4 p5 p6 p7 p8 p9 p10 =
    at 0 low p1 (λ h1. at 1 h1 p2 (λ h2. at 2 h2 p3 (λ h3. at 3 h3 p4 (λ h4. at 4 h4 p5 (λ h5. at 5 h5 p6
    (λ h6. at 6 h6 p7 (λ h7. at 7 h7 p8 (λ h8. at 8 h8 p9
    (λ h9. at 9 h9 p10 (λ h10. absurd (omega (arith, high, h10))))))))))))
  where
    at : (k : ℕ) → k < tag → P (suc k) → (suc k < tag → P tag) → P tag
    at k h p n =
        either (eqb tag (suc k)) (λ e. let q : tag ≡ suc k = eqb-true tag (suc k) e in rw q p)
        (λ e. let m = eqb-false tag (suc k) e in n (omega arith))

-- ---- a call at the front

-- no refusal: no test that gives one is met, and the tag is neither too small nor too large
passed : (t₁ t₂ u₂ t₃ t₄ : Bool) → ◌≡◌ {A = ℕ} (cond t₁ 2 (cond (not (t₂ && u₂)) 3 (cond t₃ 4 (cond t₄ 5 0)))) 0 →
    ((t₁ ≡ false) × (t₄ ≡ false)) × (((t₂ ≡ true) × (u₂ ≡ true)) × (t₃ ≡ false))
passed true t₂ u₂ t₃ t₄ e = absurd (omega arith)
passed false false u₂ t₃ t₄ e = absurd (omega arith)
passed false true false t₃ t₄ e = absurd (omega arith)
passed false true true true t₄ e = absurd (omega arith)
passed false true true false true e = absurd (omega arith)
passed false true true false false e = ((refl, refl), ((refl, refl), refl))

module _ (l : List ℕ) (e : frame_refusal l ≡ 0) where
  tests :
      ((ltb (length l) header_length ≡ false) × (ltb (length l - header_length) (value_length (tag_at l)) ≡ false))
      × (((ltb 0 (tag_at l) ≡ true) × (ltb (tag_at l) 11 ≡ true))
      × (not (eqb (be_at l 1 2) (value_length (tag_at l))) ≡ false))
  unfolding frame_refusal
  tests = passed _ _ _ _ _ e

  -- .0: header and value of a call lie within its list; .1: its tag is one of the table's
  pub framed : (header_length + value_length (tag_at l) ≤ length l) × ((0 < tag_at l) × (tag_at l < 11))
  framed =
      let a = ltb-false (length l) header_length tests.0.0 in
      let v = ltb-false (length l - header_length) (value_length (tag_at l)) tests.0.1 in
      (omega arith, (ltb-true 0 (tag_at l) tests.1.0.0, ltb-true (tag_at l) 11 tests.1.0.1))

  -- the length that stands there is the table's
  pub told_is : be_at l 1 2 ≡ value_length (tag_at l)
  told_is = eqb-true (be_at l 1 2) (value_length (tag_at l)) (not-false _ tests.1.1)

  -- bytes behind a call have no part in it
  module _ (m : List ℕ) where
    pub tag-before : tag_at (l ++ m) ≡ tag_at l
    tag-before = get_or-append l m 0 0 (omega (arith, framed))

    pub frame-before : frame_refusal (l ++ m) ≡ 0
    unfolding frame_refusal
    frame-before =
        let w = value_length (tag_at l) in
        let long : header_length + w ≤ length (l ++ m) = omega (arith, framed.0, length-append l m) in
        let a = le-ltb (length (l ++ m)) header_length (omega arith) in
        let v = le-ltb (length (l ++ m) - header_length) w (omega arith) in
        let f = field_before l m 1 2 (omega (arith, framed.0)) in
        rw (tag-before, f, a, tests.1.0.0, tests.1.0.1, tests.1.1, v)

    pub call-before : call_at (l ++ m) ≡ call_at l
    call-before =
        rw tag-before (ap (call_of (tag_at l)) (members_before l m header_length (row_of (tag_at l)).value framed.0))

  -- a call's tag is the one that stands there
  pub tag_is : tag_of (call_at l) ≡ tag_at l
  unfolding call_of
  tag_is =
      by_tag (λ (t : ℕ). (ms : List ℕ) → tag_of (call_of t ms) ≡ t) (tag_at l) framed.1.0 framed.1.1 (λ ms. refl)
      (λ ms. refl) (λ ms. refl) (λ ms. refl) (λ ms. refl) (λ ms. refl) (λ ms. refl) (λ ms. refl) (λ ms. refl)
      (λ ms. refl) (members_at l header_length (row_of (tag_at l)).value)

  pub call_length_lem : call_length (call_at l) ≤ length l
  call_length_lem = rw tag_is framed.0

pub call_least : (call : Call) → 3 ≤ call_length call
call_least call = omega arith

-- a call's tag has a row, and it and its lengths are below 256
bounds : (call : Call) →
    ((known (tag_of call) ≡ true) × (ltb (tag_of call) 256 ≡ true))
    × ((ltb (value_length (tag_of call)) 256 ≡ true) × (ltb (answer_length (tag_of call)) 256 ≡ true))
bounds (HostTime nanoseconds seconds) = ((refl, refl), (refl, refl))
bounds (Read address) = ((refl, refl), (refl, refl))
bounds (Write byte address) = ((refl, refl), (refl, refl))
bounds (Advance c) = ((refl, refl), (refl, refl))
bounds Deadline = ((refl, refl), (refl, refl))
bounds Skip = ((refl, refl), (refl, refl))
bounds (Source number level) = ((refl, refl), (refl, refl))
bounds (ControllerRead address) = ((refl, refl), (refl, refl))
bounds (ControllerWrite byte address) = ((refl, refl), (refl, refl))
bounds Output = ((refl, refl), (refl, refl))

module _ (call : Call) where
  pub tag-known : known (tag_of call) ≡ true
  tag-known = (bounds call).0.0

  pub tag_below : tag_of call < 256
  tag_below = ltb-true (tag_of call) 256 (bounds call).0.1

  pub value-below : value_length (tag_of call) < 256
  value-below = ltb-true (value_length (tag_of call)) 256 (bounds call).1.0

  pub answer-below : answer_length (tag_of call) < 256
  answer-below = ltb-true (answer_length (tag_of call)) 256 (bounds call).1.1

-- a call of bytes fits, whatever they are
module _ (tag : ℕ) (ms : List ℕ) (below : (k : ℕ) → get_or ms k 0 < 256 ^ get_or (row_of tag).value k 0) where
  width : (n k : ℕ) → eqb tag n ≡ true → get_or ms k 0 < 256 ^ get_or (row_of n).value k 0
  width n k e = let q : tag ≡ n = eqb-true tag n e in rw q at (below k)

  members_fit : CallFits (call_of tag ms)
  unfolding call_of
  members_fit =
      choose CallFits (eqb tag 1) (λ e. (width 1 1 e, width 1 0 e))
      (λ _. choose CallFits (eqb tag 2) (λ e. width 2 0 e)
      (λ _. choose CallFits (eqb tag 3) (λ e. (width 3 1 e, width 3 0 e))
      (λ _. choose CallFits (eqb tag 4) (λ e. width 4 0 e)
      (λ _. choose CallFits (eqb tag 5) (λ _. tt)
      (λ _. choose CallFits (eqb tag 6) (λ _. tt)
      (λ _. choose CallFits (eqb tag 7) (λ e. (width 7 0 e, width 7 1 e))
      (λ _. choose CallFits (eqb tag 8) (λ e. width 8 0 e)
      (λ _. choose CallFits (eqb tag 9) (λ e. (width 9 1 e, width 9 0 e))
      (λ _. tt)))))))))

pub call_fits : (l : List ℕ) → ((i : ℕ) → get_or l i 0 < 256) → CallFits (call_at l)
call_fits l bytes =
    members_fit (tag_at l) (members_at l header_length (row_of (tag_at l)).value)
    (members_below l bytes header_length (row_of (tag_at l)).value)

-- a part of a slice that goes to its end
pub part_rest : (l : List ℕ) (k : ℕ) → take (length l - k) (drop k l) ≡ drop k l
part_rest l k = take_all (length l - k) (drop k l) (omega (arith, length-drop k l))

-- ---- stores

-- a run of stores, and another right behind it, where the first one's length is known by an equation
pub sets_then : (l : List ℕ) (i n : ℕ) (xs ys : List ℕ) → length xs ≡ n →
    sets (sets l i xs) (i + n) ys ≡ sets l i (xs ++ ys)
sets_then l i n xs ys e = rw (← e) (sets-append l i xs ys)

-- the same where the first is a number of some bytes
pub sets_be : (l : List ℕ) (i w n : ℕ) (ys : List ℕ) → sets (sets l i (be w n)) (i + w) ys ≡ sets l i (be w n ++ ys)
sets_be l i w n ys = sets_then l i w (be w n) ys (length-be w n)

-- a run of stores from the start of a list that has room for it
pub sets_front : (l vs : List ℕ) → length vs ≤ length l → sets l 0 vs ≡ vs ++ drop (length vs) l
sets_front l vs h = simp zero-add at (sets-eq vs l 0 (simp zero-add h))

-- a record is its value and three bytes
pub record-length : (tag : ℕ) (value : List ℕ) → length (record_of tag value) ≡ 3 + length value
unfolding record_of
record-length tag value = simp (length-append, length-be) (omega arith)

-- ---- the bytes of members

-- members are as long as their widths say
pub members-length : (ws ms : List ℕ) → length (members_bytes ws ms) ≡ sum ws
unfolding members_bytes
members-length [] ms = refl
members-length (w ∷ ws) ms =
    rw (length-append (be w (get_or ms 0 0)) (members_bytes ws (drop 1 ms)), length-be, members-length ws (drop 1 ms))

pub answer-length : (tag : ℕ) (ms : List ℕ) → length (answer_bytes tag ms) ≡ answer_length tag
answer-length tag ms = members-length (row_of tag).answer ms

pub answer_size : (call : Call) (b : Board) → length (answer_record call b) ≡ record_length call
answer_size call b =
    record-length (tag_of call) (answer_bytes (tag_of call) (effect_of call b).members)
    ∙ ap (λ (n : ℕ). 3 + n) (answer-length (tag_of call) (effect_of call b).members)
