-- What a writing, a reading and a move answer, as the code gives it: by these the answer is that of the rules, 0 for no
-- refusal and for no byte written.
use Rattle.std.specs.Prelude.{ℕ, Result, Ok, Err}
use Rattle.board.specs.declared.Board.{Board}
use Rattle.board.specs.declared.refusal.Refusal.{Refusal}
use Rattle.board.specs.declared.calls.Answered.{Answered}
use Rattle.board.specs.Refusals.{refusal_number, refusal_code}
use Rattle.board.specs.Fields.{fresh_board}
use Rattle.parking.specs.declared.Parked.{Parked}
use Rattle.parking.specs.declared.Reading.{Reading as ReadingOf}
use Rattle.parking.specs.Parking.{Reading, Writing, default_form}
use Rattle.parking.specs.Moves.{Moved}

-- a reading
abbrev pub was_read : ReadingOf → Reading
was_read r = record { board = r.board; form = r.form; refusal = refusal_code r.end }

-- one without the board that a refused reading hands back, which is a fresh one
abbrev pub reading_said : Result Parked Refusal → Reading
reading_said (Ok parked) = record { board = parked.board; form = parked.form; refusal = 0 }
reading_said (Err refusal) = record { board = fresh_board; form = default_form; refusal = refusal_number refusal }

-- a writing of this board, which is handed back
abbrev pub writing_said : Board → Result ℕ Refusal → Writing
writing_said b (Ok written) = record { board = b; refusal = 0; written = written }
writing_said b (Err refusal) = record { board = b; refusal = refusal_number refusal; written = 0 }

-- one with the board
abbrev pub written : Answered ℕ → Writing
written a = writing_said a.board a.answer

-- a move
abbrev pub move_said : Result ℕ Refusal → Moved
move_said (Ok written) = record { refusal = 0; written = written }
move_said (Err refusal) = record { refusal = refusal_number refusal; written = 0 }
