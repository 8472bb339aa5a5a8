-- The parts of one call of a run: the step that is made of the call at the front, what it changes, and the stores of
-- its record. Assumes nothing.
use Prim.Native.Nat.{ℕ, ◌+◌}
use mathlib.Core.Path.{◌≡◌, refl, sym, ap, ◌∙◌}
use mathlib.Core.Bool.{Bool, true, false}
use mathlib.Core.Option.{none}
use Rattle.std.specs.Prelude.{Result, Ok, Err}
use mathlib.Core.List.{List, [], ◌∷◌, ◌++◌}
use lib.ListN.{length-append}
use lib.Dec.{eqb}
use mir.Val.{bool_byte}
use lib.Seq.{sets}
use Rattle.wide.specs.Bits.{bit, flag_of}
use Rattle.wide.specs.Fields.{be}
use Rattle.wide.proofs.BigEndian.{length-be}
use Rattle.board.specs.declared.Board.{Board}
use Rattle.board.specs.declared.calls.Call.{Call}
use Rattle.board.specs.declared.calls.Call.TheVariants.{Skip}
use Rattle.board.specs.declared.refusal.Refusal.{Refusal}
use Rattle.board.specs.Board.{line, sound}
use Rattle.board.specs.Calls.{effect_of, skip_length}
use Rattle.board.proofs.Answers.{some_refusal}
use Rattle.board.proofs.Soundness.{sound_facts}
use Rattle.format.specs.declared.Answer.TheVariants.{Skip as SkipAnswer}
use Rattle.format.specs.declared.Undecoded.{Undecoded}
use Rattle.format.specs.declared.Undecoded.TheVariants.{Refused, NoRoom}
use Rattle.format.specs.declared.tag.Tag.{Tag}
use Rattle.format.specs.Tags.{tag_number}
use Rattle.format.specs.Format.{answer_length, members_bytes, answer_bytes, value_bytes, record_of}
use Rattle.format.specs.Codec.{tag_of, call_at, refusal_at}
use Rattle.format.specs.CodeAnswers.{header_bytes, header_of}
use Rattle.format.specs.CodeDecode.{Decoded, value_refusal, decoded, decoded_of, first_refusal}
use Rattle.format.proofs.Frames.{sets_then}
use Rattle.format.proofs.Decoding.{decoded-accepted, first-refusal, accepted-refusal}
use Rattle.wide.proofs.Bits.{byte_flag}
use Rattle.steps.specs.declared.Step.{Step}
use Rattle.steps.specs.declared.Step.TheVariants as T
use Rattle.steps.specs.declared.Changes.{Changes}
use Rattle.steps.specs.CodeSteps.{Makes, SkipIs, StepIs, ChangesAre, Changed, passed_put, other_put}

-- ---- arms of several cases, by the variants that other arms name

-- the steps that no arm names: a skip that stays, and those that are not of such a call
pub record Rest (step : Step) : Type 0 where
  pub host : (nanoseconds seconds : ℕ) → step ≡ T.HostTime nanoseconds seconds → ⊥
  pub deadline : step ≡ T.Deadline → ⊥
  pub source : (number level : ℕ) → step ≡ T.Source number level → ⊥
  pub read : (address : ℕ) → step ≡ T.ControllerRead address → ⊥
  pub write : (byte address : ℕ) → step ≡ T.ControllerWrite byte address → ⊥
  pub output : step ≡ T.Output → ⊥

-- ---- the step

module _ (b : Board) (l : List ℕ) (room : ℕ) where
  -- of a call that decoding refuses
  module _ (u : Undecoded) (e : decoded (Err u) ≡ decoded_of l room) where
    numbered : (v : Undecoded) → eqb (decoded (Err v)).refusal 0 ≡ false
    numbered (Refused refusal) = some_refusal refusal
    numbered (NoRoom call) = refl

    pub step-refused : first_refusal b (decoded (Err u)) ≡ refusal_at b l room
    step-refused = ap (first_refusal b) e ∙ (first-refusal b l room (rw (← e) (numbered u))).0

  -- of one that it accepts
  module _ (found : Call) (e : decoded (Ok found) ≡ decoded_of l room) (call : Call) (k : found ≡ call) where
    clear : (decoded_of l room).refusal ≡ 0
    clear = sym (ap (λ (d : Decoded). d.refusal) e)

    there : call_at l ≡ call
    there = sym (decoded-accepted l room clear).0 ∙ sym (ap (λ (d : Decoded). d.call) e) ∙ k

    own : refusal_at b l room ≡ (effect_of call b).refusal
    own = accepted-refusal b l room clear ∙ ap (λ (x : Call). (effect_of x b).refusal) there

    -- where its members decide its own refusal
    pub step-accepted : (effect_of call b).refusal ≡ value_refusal call → (step : Step) → Makes call b step →
        StepIs b l room (Ok step)
    step-accepted v step m =
        (own ∙ v ∙ ap value_refusal (sym there) ∙ (decoded-accepted l room clear).1.1.0, rw there m)

  pub step-skips : (found : Call) → decoded (Ok found) ≡ decoded_of l room → found ≡ Skip →
      (r : Result Step Refusal) → SkipIs b r → StepIs b l room r
  step-skips found e k r m = rw (own found e Skip k, there found e Skip k) m

-- ---- the calls that change host time or the controller at most

-- the rest has the changes of a skip that stays
rest_is : (step : Step) → Rest step → (b : Board) (c : Changes) → (skip_length b ≡ none → ChangesAre Skip b c) →
    Changed step b c
rest_is (T.Read offset) o b c h = h
rest_is (T.Write byte offset) o b c h = h
rest_is (T.Pass passing n) o b c h = h
rest_is (T.HostTime nanoseconds seconds) o b c h = absurd (o.host nanoseconds seconds refl)
rest_is T.Stay o b c h = h
rest_is T.Deadline o b c h = absurd (o.deadline refl)
rest_is (T.Source number level) o b c h = absurd (o.source number level refl)
rest_is (T.ControllerRead address) o b c h = absurd (o.read address refl)
rest_is (T.ControllerWrite byte address) o b c h = absurd (o.write byte address refl)
rest_is T.Output o b c h = absurd (o.output refl)
rest_is (T.Refused refusal) o b c h = h

-- a skip that stays: the level of source 3 is the line
pub rest_changes : (b : Board) → sound b ≡ true → (step : Step) → Rest step → (level : Bool) →
    level ≡ bit 3 b.controller.levels →
    Changed step b (record {
      host = b.clock.host;
      controller = b.controller;
      answer = SkipAnswer (record { passed = record { 0 = 0 }; line = level });
    })
unfolding value_bytes
rest_changes b s step o level e =
    let q : level ≡ line b = e ∙ (sound_facts b s).level in
    rest_is step o b _ (λ n. rw (n, q) (refl, refl))

-- ---- stores: m is the buffer with the header, r the buffer with the value behind it

header_then : (buf m r : List ℕ) (at tag size : ℕ) (value : List ℕ) → m ≡ sets buf at (header_bytes tag size) →
    r ≡ sets m (at + 3) value → r ≡ sets buf at (header_bytes tag size ++ value)
header_then buf m r at tag size value e f =
    f ∙ ap (λ (x : List ℕ). sets x (at + 3) value) e
    ∙ sets_then buf at 3 (header_bytes tag size) value (simp (length-append, length-be))

-- of a read
byte_record : (v : ℕ) → header_bytes 2 1 ++ be 1 v ≡ record_of 2 (answer_bytes 2 (v ∷ []))
unfolding be members_bytes record_of
byte_record v = refl

pub byte_then : (buf m r : List ℕ) (at v : ℕ) → m ≡ sets buf at (header_bytes 2 1) → r ≡ sets m (at + 3) (be 1 v) →
    r ≡ sets buf at (record_of 2 (answer_bytes 2 (v ∷ [])))
byte_then buf m r at v e f = header_then buf m r at 2 1 (be 1 v) e f ∙ ap (sets buf at) (byte_record v)

-- of a pass: the header, and the line behind it or behind the cycles
module _ (buf m r : List ℕ) (at v : ℕ) (line : Bool) (f : v ≡ bool_byte line) where
  pub advance-passed : m ≡ sets buf at (header_of 4) → r ≡ sets m (at + 3) (be 1 v) →
      r ≡ passed_put true (flag_of line) at buf
  unfolding passed_put
  advance-passed e g = rw (← byte_flag line, ← f) (header_then buf m r at 4 65 (be 1 v) e g)

  pub skip-passed : m ≡ sets buf at (header_of 6) → r ≡ sets m (at + 11) (be 1 v) →
      r ≡ passed_put false (flag_of line) at buf
  unfolding passed_put
  skip-passed e g = rw (← byte_flag line, ← f, ← e) g

-- of another call
pub other-then : (call : Call) (tag : Tag) → tag_number tag ≡ tag_of call → (buf m r : List ℕ) (at : ℕ)
    (value : List ℕ) → m ≡ sets buf at (header_of (tag_number tag)) → r ≡ sets m (at + 3) value →
    r ≡ other_put (tag_of call) at value buf
other-then call tag t buf m r at value f g =
    rw (← t) (header_then buf m r at (tag_number tag) (answer_length (tag_number tag)) value f g)
