-- Document 01, 'The call list': what a run does.
use Rattle.std.specs.Prelude.{ℕ, zero, suc, ◌+◌, ◌-◌, List, [], ◌∷◌, ◌++◌, cond, length, drop, eqb}
use Rattle.board.specs.declared.Board.{Board}
use Rattle.board.specs.Board.{sound}
use Rattle.board.specs.Calls.{not_sound, board_after}
use Rattle.format.specs.Codec.{call_at, call_length, answer_record, refusal_at}
use Rattle.board.specs.Refusals.{refusal_code}
use Rattle.list.specs.declared.Outcome.{Outcome as Ended}

-- ---- one call

-- what becomes of one call: it is done, with the board after it, the list bytes it used and its answer; or it is
-- refused
pub data Result : Type 0 where
  done : Board → ℕ → List ℕ → Result
  refused : ℕ → Result

-- what becomes of the first call of a list, with this room for its answer
unfoldable pub result_of : Board → List ℕ → ℕ → Result
result_of b l room =
    cond (eqb (refusal_at b l room) 0)
    (done (board_after (call_at l) b) (call_length (call_at l)) (answer_record (call_at l) b))
    (refused (refusal_at b l room))

-- ---- a run

-- a run's result: its board, the calls done, the list bytes that they used, the answer bytes, and the refusal, 0 for
-- none
pub record Outcome : Type 0 where
  pub board : Board
  pub calls : ℕ
  pub used : ℕ
  pub written : ℕ
  pub refusal : ℕ

-- what the code's result stands for
abbrev pub outcome_of : Ended → Outcome
outcome_of e =
    record {
      board = e.board;
      calls = e.done.calls;
      used = e.done.used;
      written = e.done.written;
      refusal = refusal_code e.end;
    }

-- the run so far after one more call; a refused call changes only the refusal
unfoldable pub stepped : Outcome → Result → Outcome
stepped s (done b n a) =
    record {
      board = b;
      calls = s.calls + 1;
      used = s.used + n;
      written = s.written + length a;
      refusal = 0;
    }
stepped s (refused n) =
    record {
      board = s.board;
      calls = s.calls;
      used = s.used;
      written = s.written;
      refusal = n;
    }

-- a run's result, and the answers of the calls carried out
pub record Run : Type 0 where
  pub outcome : Outcome
  pub answers : List ℕ

-- 'The first refusal stops the run, earlier calls stand': over what is left of the list, the run skips the bytes that
-- the last call used, and takes a call where nothing is left to skip
unfoldable pub run_on : ℕ → List ℕ → ℕ → Outcome → List ℕ → Run
run_on skip [] room s out = record { outcome = s; answers = out }
run_on (suc k) (x ∷ rest) room s out = run_on k rest room s out
run_on zero (x ∷ rest) room s out =
    elim (result_of s.board (x ∷ rest) (room - length out)) [
      | done b n a ↦ run_on (n - 1) rest room (stepped s (done b n a)) (out ++ a)
      | refused n ↦ record { outcome = stepped s (refused n); answers = out }
    ]

-- a run that has done nothing
abbrev pub nothing_done : Board → ℕ → Outcome
nothing_done b refusal = record { board = b; calls = 0; used = 0; written = 0; refusal = refusal }

-- 'Run: refusal 1, board not sound, nothing done.'
unfoldable pub run_of : Board → List ℕ → ℕ → Run
run_of b l room =
    cond (sound b) (run_on 0 l room (nothing_done b 0) []) (record { outcome = nothing_done b not_sound; answers = [] })

-- 'the answers of the calls carried out, in order from its first byte, then its old bytes'
unfoldable pub over : List ℕ → List ℕ → List ℕ
over answers old = answers ++ drop (length answers) old

-- ---- two runs

-- the counts of two runs, the second over the board that the first left, added up; board and refusal are the second's
abbrev pub behind : Outcome → Outcome → Outcome
behind o s =
    record {
      board = s.board;
      calls = o.calls + s.calls;
      used = o.used + s.used;
      written = o.written + s.written;
      refusal = s.refusal;
    }

-- the two as one run, with the answers of the first and then those of the second
abbrev pub joined : Run → Run → Run
joined p q = record { outcome = behind p.outcome q.outcome; answers = p.answers ++ q.answers }
