-- `Board::exact_deadline` meets its contract. Assumes nothing.
use Rattle.board.specs.Board.{exact_deadline}
use Rattle.board.proofs.Soundness.{sound_facts, clock_facts}
use Rattle.board.proofs.Widths.{board_fits}
use Rattle.board.proofs.Board.exact_deadline.Goals as goal

pub soonest-requires : goal.soonest-requires
soonest-requires c = (sound_facts c.args.self c.requires).timers

pub deadline-requires : goal.deadline-requires
deadline-requires c =
    (clock_facts c.args.self
    (board_fits c.args.self _ c.well_formed.0).clock
    c.requires
    ).parts.subsecond

pub returns : goal.returns
unfolding exact_deadline
returns c = rw (c.sooner.ensures, c.deadline.ensures, c.soonest.ensures)
