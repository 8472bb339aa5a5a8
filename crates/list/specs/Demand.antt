-- Document 01: 'calls 01 and 04 that a run carries out one after another are such a list too', a list of the
-- deadline's promise: bytes that are calls, one after another.
use Rattle.std.specs.Prelude.{ℕ, ◌≡◌, List, [], ◌∷◌, drop}
use Rattle.board.specs.declared.calls.Call.{Call}
use Rattle.format.specs.Codec.{frame_refusal, call_at, call_length}

-- some bytes begin with this call
abbrev pub FrontIs : List ℕ → Call → Type 0
FrontIs l call = (frame_refusal l ≡ 0) × (call_at l ≡ call)

-- the bytes are these calls, one after another
unfoldable pub ListIs : List ℕ → List Call → Type 0
ListIs l [] = l ≡ []
ListIs l (call ∷ calls) = FrontIs l call × ListIs (drop (call_length call) l) calls
