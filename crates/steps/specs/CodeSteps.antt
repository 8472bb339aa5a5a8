-- Not document 01's sentences: what the code makes of the first call of a list, and the steps in which it writes the
-- call's record. The rules are `refusal_at`, `effect_of` and `answer_record`; the proofs show that the two agree.
use Rattle.std.specs.Prelude.{ℕ, ◌+◌, ◌*◌, ◌≡◌, List, [], ◌∷◌, ◌++◌, Bool, true, false, Result, Ok, Err}
use Rattle.std.proofs.Math.Option.{none, some}
use Rattle.std.proofs.lemmas.List.Edits.{sets}
use Rattle.wide.specs.Fields.{be}
use Rattle.clock.specs.declared.HostTime.{HostTime as HostTimeOf}
use Rattle.clock.specs.Fields.{with_host}
use Rattle.controller.specs.declared.IrqController.{IrqController}
use Rattle.board.specs.declared.Board.{Board}
use Rattle.board.specs.declared.refusal.Refusal.{Refusal}
use Rattle.board.specs.Refusals.{refusal_number}
use Rattle.board.specs.declared.calls.Call.{Call}
use Rattle.board.specs.declared.calls.Call.TheVariants.{HostTime, Read, Write, Deadline, Skip, Source}
use Rattle.board.specs.declared.calls.Call.TheVariants.{ControllerRead, ControllerWrite, Output}
use Rattle.board.specs.Registers.{base}
use Rattle.board.specs.Fields.{with_clock, with_controller}
use Rattle.board.specs.Calls.{effect_of, advance_by, skip_length}
use Rattle.format.specs.Format.{answer_length, answer_bytes, value_bytes}
use Rattle.format.specs.Codec.{call_at, refusal_at, tag_of}
use Rattle.format.specs.CodeAnswers.{header_bytes, wides}
use Rattle.steps.specs.declared.Passing.{Passing}
use Rattle.steps.specs.declared.Passing.TheVariants as P
use Rattle.steps.specs.declared.Step.{Step}
use Rattle.steps.specs.declared.Step.TheVariants as T
use Rattle.steps.specs.declared.Changes.{Changes}

-- ---- the step that the run makes of the first call

-- a register of this offset is read, or a byte written to it
pub record Reads (call : Call) (offset : ℕ) : Type 0 where
  pub address : ℕ
  pub is : call ≡ Read address
  pub at : offset ≡ address + base

pub record Writes (call : Call) (byte offset : ℕ) : Type 0 where
  pub address : ℕ
  pub is : call ≡ Write byte address
  pub at : offset ≡ address + base

-- cycles pass, by an advance or by a skip that makes one
pub record Passes (call : Call) (b : Board) (counted : Bool) (c : ℕ) : Type 0 where
  pub advance : counted ≡ true → call ≡ advance_by c
  pub skip : counted ≡ false → (call ≡ Skip) × (skip_length b ≡ some c)

-- whether compare points are counted
abbrev pub counts : Passing → Bool
counts P.Advance = true
counts P.Skip = false

-- the step of an accepted call
abbrev pub Makes : Call → Board → Step → Type 0
Makes call b (T.Read offset) = Reads call offset
Makes call b (T.Write byte offset) = Writes call byte offset
Makes call b (T.Pass passing c) = Passes call b (counts passing) c.0
Makes call b (T.HostTime nanoseconds seconds) = call ≡ HostTime nanoseconds seconds
Makes call b T.Stay = (call ≡ Skip) × (skip_length b ≡ none)
Makes call b T.Deadline = call ≡ Deadline
Makes call b (T.Source number level) = call ≡ Source number level
Makes call b (T.ControllerRead address) = call ≡ ControllerRead address
Makes call b (T.ControllerWrite byte address) = call ≡ ControllerWrite byte address
Makes call b T.Output = call ≡ Output
Makes call b (T.Refused refusal) = ⊥

-- what becomes of a call whose refusal is n
abbrev pub Becomes : ℕ → Call → Board → Result Step Refusal → Type 0
Becomes n call b (Ok step) = (n ≡ 0) × Makes call b step
Becomes n call b (Err refusal) = refusal_number refusal ≡ n

-- the step of a skip
abbrev pub SkipIs : Board → Result Step Refusal → Type 0
SkipIs b r = Becomes (effect_of Skip b).refusal Skip b r

-- the step of the first call of a list, with this room for its answer
abbrev pub StepIs : Board → List ℕ → ℕ → Result Step Refusal → Type 0
StepIs b l room r = Becomes (refusal_at b l room) (call_at l) b r

-- ---- the calls that change at most host time or the controller

-- the call of such a step; `Skip` for every other step
abbrev pub other_call : Step → Call
other_call (T.Read offset) = Skip
other_call (T.Write byte offset) = Skip
other_call (T.Pass passing c) = Skip
other_call (T.HostTime nanoseconds seconds) = HostTime nanoseconds seconds
other_call T.Stay = Skip
other_call T.Deadline = Deadline
other_call (T.Source number level) = Source number level
other_call (T.ControllerRead address) = ControllerRead address
other_call (T.ControllerWrite byte address) = ControllerWrite byte address
other_call T.Output = Output
other_call (T.Refused refusal) = Skip

-- a board with this host time and this controller
abbrev pub with_changes : HostTimeOf → IrqController → Board → Board
with_changes h q b = with_controller q (with_clock (with_host h b.clock) b)

-- what a call changes, and its answer
abbrev pub ChangesAre : Call → Board → Changes → Type 0
ChangesAre call b c =
    (with_changes c.host c.controller b ≡ (effect_of call b).board)
    × (value_bytes c.answer ≡ answer_bytes (tag_of call) (effect_of call b).members)

-- what such a step changes
abbrev pub Changed : Step → Board → Changes → Type 0
Changed (T.Read offset) b c = skip_length b ≡ none → ChangesAre Skip b c
Changed (T.Write byte offset) b c = skip_length b ≡ none → ChangesAre Skip b c
Changed (T.Pass passing n) b c = skip_length b ≡ none → ChangesAre Skip b c
Changed (T.HostTime nanoseconds seconds) b c = ChangesAre (HostTime nanoseconds seconds) b c
Changed T.Stay b c = skip_length b ≡ none → ChangesAre Skip b c
Changed T.Deadline b c = ChangesAre Deadline b c
Changed (T.Source number level) b c = ChangesAre (Source number level) b c
Changed (T.ControllerRead address) b c = ChangesAre (ControllerRead address) b c
Changed (T.ControllerWrite byte address) b c = ChangesAre (ControllerWrite byte address) b c
Changed T.Output b c = ChangesAre Output b c
Changed (T.Refused refusal) b c = skip_length b ≡ none → ChangesAre Skip b c

-- ---- the record of an advance or a skip, by whether it has counts

-- the call of a pass
abbrev pub pass_call : Bool → ℕ → Call
pass_call true c = advance_by c
pass_call false c = Skip

-- where the counts go in a record from index at on: after tag, length and line
abbrev pub counts_at : ℕ → ℕ
counts_at at = at + 4

-- written before the cycles pass: counts of 0, or the number of cycles
unfoldable pub begun_put : Bool → ℕ → ℕ → List ℕ → List ℕ
begun_put true c at buf = sets buf (counts_at at) (wides (0 ∷ 0 ∷ 0 ∷ 0 ∷ []))
begun_put false c at buf = sets buf (at + 3) (be 8 c)

-- the count n of channel i is written
unfoldable pub count_put : Bool → ℕ → ℕ → ℕ → List ℕ → List ℕ
count_put true at i n buf = sets buf (counts_at at + 16 * i) (be 16 n)
count_put false at i n buf = buf

-- written after they have passed: the header and the line
unfoldable pub passed_put : Bool → ℕ → ℕ → List ℕ → List ℕ
passed_put true v at buf = sets buf at (header_bytes 4 65 ++ be 1 v)
passed_put false v at buf = sets (sets buf at (header_bytes 6 9)) (at + 11) (be 1 v)

-- ---- the record of another call

abbrev pub other_put : ℕ → ℕ → List ℕ → List ℕ → List ℕ
other_put tag at value buf = sets buf at (header_bytes tag (answer_length tag) ++ value)
