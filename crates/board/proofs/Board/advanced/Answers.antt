-- `Board::advanced` meets its contract. Assumes nothing.
use Rattle.board.specs.Calls.{moved_board, advanced_board}
use Rattle.clock.specs.Clock.{rate_of}
use Rattle.clock.proofs.Soundness.{clock-timed}
use Rattle.board.proofs.Soundness.{sound_facts, clock_facts}
use Rattle.board.proofs.Widths.{board_fits}
use Rattle.board.proofs.Board.advanced.Goals as goal

pub advance_all-moved-requires : goal.advance_all-moved-requires
advance_all-moved-requires c = (sound_facts c.args.self c.requires).timers

pub advance-self-requires : goal.advance-self-requires
advance-self-requires c =
    clock-timed (rate_of c.args.self.clock) c.args.self.clock (sound_facts c.args.self c.requires).rate
    (clock_facts c.args.self
    (board_fits c.args.self _ c.well_formed.0).clock
    c.requires)

pub returns : goal.returns
unfolding advanced_board moved_board
returns c =
    let all = c.advance_all-moved in
    (rw (c.wired.ensures, c.advance-self.ensures, all.ensures.0), all.ensures.1)
