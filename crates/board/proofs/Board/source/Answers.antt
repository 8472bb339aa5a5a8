-- `Board::source` meets its contract. Assumes nothing.
use Rattle.board.specs.declared.calls.Call.TheVariants.{Source}
use Rattle.board.proofs.Answers.{and-answers}
use Rattle.board.proofs.Board.source.Goals as goal

pub returns-in-Err : goal.returns-in-Err
returns-in-Err c = let a = c.args in
    rw c.refused.ensures
    (and-answers (Source a.number.0 a.level) a.self _ _ _
    c.check_sound.ensures.refused c.check_source.ensures c.in-Err.ensures)
