-- What a record is, and when a run agrees with it.
use Rattle.std.specs.Prelude.{◌≡◌, ℕ, ◌+◌, ◌≤◌, List, length, slice_index}
use Rattle.wide.specs.Fields.{be_at}
use Rattle.board.specs.declared.Board.{Board}
use Rattle.board.specs.Fields.{fresh_board, with_timer_enable}
use Rattle.list.specs.Run.{Outcome, run_of, over}
use Rattle.recording.specs.declared.Results.{Results}
use Rattle.recording.specs.declared.Header.{Header}

-- the fresh board with a timer enable
unfoldable pub start_of : ℕ → Board
start_of n = with_timer_enable n fresh_board

-- a run's results without the board and the answers
abbrev pub results_of : Outcome → Results
results_of o =
    record { done = record { calls = o.calls; used = o.used; written = o.written }; refusal = o.refusal }

-- the numbers of the record at an index: timer enable 1; lengths of the list 2 and of the buffer 2; calls done 2, list
-- bytes used 2, answer bytes 2, refusal 1
unfoldable pub header_at : List ℕ → ℕ → Header
header_at s at =
    record {
      enable = slice_index s at;
      list = be_at s (at + 1) 2;
      buffer = be_at s (at + 3) 2;
      results = record {
        done = record {
          calls = be_at s (at + 5) 2;
          used = be_at s (at + 7) 2;
          written = be_at s (at + 9) 2;
        };
        refusal = slice_index s (at + 11);
      };
    }

-- a record lies within `room` bytes, and its buffer is not too long
pub record Fits (h : Header) (room : ℕ) : Type 0 where
  pub bytes : 12 + (h.list + h.results.done.written) ≤ room
  pub buffer : h.buffer ≤ 32768

-- the run of a record's list, by the rules, has the recorded results, and leaves in the buffer the recorded answers,
-- then old bytes
pub record Agrees (h : Header) (list answers buffer old : List ℕ) : Type 0 where
  pub same-results : results_of (run_of (start_of h.enable) list (length buffer)).outcome ≡ h.results
  pub same_bytes : over (run_of (start_of h.enable) list (length buffer)).answers buffer ≡ over answers old
