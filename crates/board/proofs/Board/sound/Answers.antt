-- `Board::sound` meets its contract. Assumes nothing.
use Rattle.board.specs.Board.{sound}
use Rattle.board.proofs.Widths.{board_fits}
use Rattle.board.proofs.Board.sound.Goals as goal

pub returns : goal.returns
unfolding sound
returns c = (
  rw (
    c.line.ensures,
    c.sound_parts.ensures,
    c.level_of-level.ensures,
  ),
  board_fits c.args.self _ c.well_formed.0,
)
