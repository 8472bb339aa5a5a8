-- S-4, an advance split into several on a board: a list of cycles, with one advance for each, on the board that the one
-- before left.
use Rattle.std.specs.Prelude.{ℕ, ◌+◌, List, [], ◌∷◌, get_or}
use Rattle.board.specs.declared.Board.{Board}
use Rattle.board.specs.Calls.{effect_of, advance_by, advanced_board, answer_of, member_at}

-- 'Call 04 answers the line and four 16-byte counts, channel 0 first': the count of channel i that an accepted advance
-- of c cycles answers
abbrev pub count_at : ℕ → ℕ → Board → ℕ
count_at i c b = get_or (effect_of (advance_by c) b).members (i + 1) 0

-- the board after all advances
unfoldable pub board_by : List ℕ → Board → Board
board_by [] b = b
board_by (c ∷ cs) b = board_by cs (advanced_board c b)

-- the counts of channel i that the advances answer, added up
unfoldable pub counts_by : ℕ → List ℕ → Board → ℕ
counts_by i [] b = 0
counts_by i (c ∷ cs) b = count_at i c b + counts_by i cs (advanced_board c b)

-- ---- the same by the answers of direct calls

-- the count of channel i that a direct call of advance answers: member 0 is the line, and 'four 16-byte counts,
-- channel 0 first' follow it. The rule takes every number of cycles, and a call of the code those below 2^64
abbrev pub answered_at : ℕ → ℕ → Board → ℕ
answered_at i c b = member_at (i + 1) (answer_of (advance_by c) b)

-- the counts of channel i that such calls answer, added: each call is on the board that the call before returned
unfoldable pub answered_by : ℕ → List ℕ → Board → ℕ
answered_by i [] b = 0
answered_by i (c ∷ cs) b = answered_at i c b + answered_by i cs (answer_of (advance_by c) b).board
