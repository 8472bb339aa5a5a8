-- `put::put_old` meets its contract. Assumes nothing.
use Rattle.board.proofs.Widths.{board_fits}
use Rattle.image.proofs.Fields.{old_stored}
use Rattle.image.proofs.put.put_old.Goals as goal

pub returns : goal.returns
returns c =
    old_stored _ (board_fits c.args.board _ c.well_formed.1.0).four _ _ _ _ _
    c.put_channels.ensures c.put_clock.ensures
    c.put_latches.ensures c.put_controller.ensures
