-- A direct call's answer, as the code gives it: a board, and the members of the answer or a refusal. Each kind has its
-- list of members as numbers, in document 01's order; by it the answer is that of the rules.
use Rattle.std.specs.Prelude.{ℕ, List, [], ◌∷◌, map, Option, None, Some, Result, Ok, Err}
use Rattle.wide.specs.Bits.{flag_of}
use Rattle.wide.specs.Number.{value_of}
use Rattle.controller.specs.declared.IrqOutput.{IrqOutput}
use Rattle.board.specs.declared.refusal.Refusal.{Refusal}
use Rattle.board.specs.declared.calls.Answered.{Answered}
use Rattle.board.specs.declared.calls.Advance.{Advance}
use Rattle.board.specs.declared.calls.DeadlineGiven.{DeadlineGiven}
use Rattle.board.specs.declared.calls.Skip.{Skip}
use Rattle.board.specs.Calls.{DirectAnswer}
use Rattle.board.specs.Refusals.{refusal_code}

-- the members of an answer by a list of them; a refused call has none
abbrev pub members_of : {T : Type 0} → (T → List ℕ) → Result T Refusal → List ℕ
members_of list (Ok x) = list x
members_of list (Err refusal) = []

abbrev pub answered : {T : Type 0} → (T → List ℕ) → Answered T → DirectAnswer
answered list a = record { board = a.board; refusal = refusal_code a.answer; members = members_of list a.answer }

-- '→ none'
abbrev pub no_members : Unit {0} → List ℕ
no_members _ = []

-- '→ 1'
abbrev pub byte_members : ℕ → List ℕ
byte_members byte = byte ∷ []

-- '→ line 1', and by S-4 'four 16-byte counts, channel 0 first'
abbrev pub advance_members : Advance → List ℕ
advance_members a = flag_of a.line ∷ map value_of a.matches

-- '→ present 1, D 16, 64-bit deadline 8 (zeros if none)'
abbrev pub deadline_members : Option DeadlineGiven → List ℕ
deadline_members None = 0 ∷ 0 ∷ 0 ∷ []
deadline_members (Some d) = 1 ∷ value_of d.exact ∷ d.word.0 ∷ []

-- '→ passed 8, line 1'
abbrev pub skip_members : Skip → List ℕ
skip_members s = s.passed.0 ∷ flag_of s.line ∷ []

-- '→ valid, number'
abbrev pub output_members : IrqOutput → List ℕ
output_members o = flag_of o.valid ∷ o.number.0 ∷ []
