-- What a run carries out, and what runs over images carry out one after another. Document 01: 'calls 01 and 04 that a
-- run carries out one after another are such a list too', a list of the deadline's promise; S-1: 'Demand 3 holds too
-- where the board is written and read back between calls of the list.'
use Rattle.std.specs.Prelude.{ℕ, zero, suc, ◌<◌, ◌≡◌, List, [], ◌∷◌, ◌++◌, drop, get_or}
use Rattle.board.specs.declared.Board.{Board}
use Rattle.board.specs.declared.calls.Call.{Call}
use Rattle.board.specs.Loops.{All}
use Rattle.board.specs.Demand.{PassesTime, after, after_all}
use Rattle.format.specs.Codec.{call_at, call_length, answer_record}
use Rattle.list.specs.Run.{run_of}
use Rattle.list.specs.Demand.{FrontIs, ListIs}
use Rattle.resume.specs.Resumed.{resumed_of, image_after}

-- ---- one run

-- the first n calls of some bytes
unfoldable pub calls_in : ℕ → List ℕ → List Call
calls_in zero l = []
calls_in (suc n) l = call_at l ∷ calls_in n (drop (call_length (call_at l)) l)

-- some bytes begin with these calls, one after another
unfoldable pub BeginsWith : List ℕ → List Call → Type 0
BeginsWith l [] = Unit {0}
BeginsWith l (call ∷ calls) = FrontIs l call × BeginsWith (drop (call_length call) l) calls

-- the calls that a run over a board carries out: as many as its outcome counts
abbrev pub carried_by : Board → List ℕ → ℕ → List Call
carried_by b l room = calls_in (run_of b l room).outcome.calls l

-- the answers of calls, one after another, each on the board that the call before returned
unfoldable pub answers_of : List Call → Board → List ℕ
answers_of [] b = []
answers_of (call ∷ calls) b = answer_record call b ++ answers_of calls (after call b)

-- a run is the calls that it carries out
pub record Carried (b : Board) (l : List ℕ) (room : ℕ) : Type 0 where
  -- its board is that after them
  pub board : (run_of b l room).outcome.board ≡ after_all (carried_by b l room) b
  -- its answers are theirs
  pub answers : (run_of b l room).answers ≡ answers_of (carried_by b l room) b
  -- they are the first calls of its list
  pub begins : BeginsWith l (carried_by b l room)
  -- and all of its list, where it is not refused
  pub whole : (run_of b l room).outcome.refusal ≡ 0 → ListIs l (carried_by b l room)

-- ---- runs over images, one after another

-- a run: its list, and the room of its own answer buffer
pub record ImageRun : Type 0 where
  pub list : List ℕ
  pub room : ℕ

-- its list is bytes
abbrev pub ListBytes : ImageRun → Type 0
ListBytes r = (i : ℕ) → get_or r.list i 0 < 256

-- the image after all runs, each over the image that the run before left
unfoldable pub image_after_all : List ImageRun → List ℕ → List ℕ
image_after_all [] image = image
image_after_all (r ∷ runs) image = image_after_all runs (image_after image r.list r.room)

-- the calls that all runs carry out, those of the first run first: of each as many as its result counts
unfoldable pub carried_out : List ImageRun → List ℕ → List Call
carried_out [] image = []
carried_out (r ∷ runs) image =
    calls_in (resumed_of image r.list r.room).calls r.list
    ++ carried_out runs (image_after image r.list r.room)

-- a run's list is calls 01 and 04, one after another
pub record PassingList (r : ImageRun) : Type 0 where
  pub calls : List Call
  pub are : ListIs r.list calls
  pub pass : All PassesTime calls
