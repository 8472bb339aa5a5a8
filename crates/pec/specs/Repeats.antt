-- Runs one after another over one board and one answer buffer, as the C interface makes them.
use Rattle.std.specs.Prelude.{ℕ, zero, suc, cond, List, length, eqb}
use Rattle.board.specs.declared.Board.{Board}
use Rattle.board.specs.Fields.{fresh_board}
use Rattle.board.specs.Calls.{fresh_of}
use Rattle.list.specs.Run.{Outcome, run_of, over, nothing_done}

-- what the last run gave, and what the buffer holds after it
pub record Held : Type 0 where
  pub outcome : Outcome
  pub buffer : List ℕ

-- a board before any run, and the buffer as it is lent
abbrev pub started_on : Board → List ℕ → Held
started_on b buffer = record { outcome = nothing_done b 0; buffer = buffer }

-- a fresh board without a given rate
abbrev pub started : List ℕ → Held
started buffer = started_on fresh_board buffer

-- document 01's run of a list, over the board and into the buffer that are left
unfoldable pub ran : List ℕ → Held → Held
ran l h =
    record {
      outcome = (run_of h.outcome.board l (length h.buffer)).outcome;
      buffer = over (run_of h.outcome.board l (length h.buffer)).answers h.buffer;
    }

-- the same list n times
unfoldable pub repeats : ℕ → List ℕ → Held → Held
repeats zero l h = h
repeats (suc n) l h = ran l (repeats n l h)

-- ---- over a fresh board at a rate

-- S-7: '15, another rate, before all else when a board is made': then nothing is run
abbrev pub unless_refused : ℕ → (Board → Held) → List ℕ → Held
unless_refused rate runs buffer =
    cond (eqb (fresh_of rate).refusal 0) (runs (fresh_of rate).board)
    (record { outcome = nothing_done (fresh_of rate).board (fresh_of rate).refusal; buffer = buffer })

-- a run of a list
unfoldable pub ran_at : ℕ → List ℕ → List ℕ → Held
ran_at rate l buffer = unless_refused rate (λ b. ran l (started_on b buffer)) buffer

-- a run of a list, and then of another `times` times
unfoldable pub repeats_at : ℕ → List ℕ → List ℕ → ℕ → List ℕ → Held
repeats_at rate first l times buffer = unless_refused rate (λ b. repeats times l (ran first (started_on b buffer)))
    buffer
