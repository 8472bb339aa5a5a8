-- Document 01, 'The call list': what `listrun` prints.
use Rattle.std.specs.Prelude.{ℕ, List, cond, length, ltb}
use Rattle.board.specs.Fields.{fresh_board}
use Rattle.list.specs.Run.{Run, run_of}
use Rattle.listing.specs.Listing.{ascii, listing_of}

-- 'a list, as raw bytes, of at most 32,768 bytes'
abbrev pub list_limit : ℕ
list_limit = 32_768

-- 'answer buffer 32,768'
abbrev pub answer_room : ℕ
answer_room = 32_768

-- the listing of a run's answers and of its end
unfoldable pub listed : Run → List ℕ
listed run = listing_of run.answers run.outcome.calls run.outcome.refusal run.outcome.used

-- 'else prints `too long`; fresh board, answer buffer 32,768'
unfoldable pub printed_of : List ℕ → List ℕ
printed_of list = cond (ltb list_limit (length list)) (ascii "too long\n")
    (listed (run_of fresh_board list answer_room))
