-- `Board::host_time` meets its contract. Assumes nothing.
use Rattle.board.specs.Calls.{host_time_to}
use Rattle.board.proofs.Answers.{and-answers}
use Rattle.board.proofs.Board.host_time.Goals as goal

pub returns-in-Err : goal.returns-in-Err
returns-in-Err c = let a = c.args in
    rw c.refused.ensures
    (and-answers (host_time_to a.host) a.self _ _ _
    c.check_sound.ensures.refused c.check_host_time.ensures c.in-Err.ensures)
