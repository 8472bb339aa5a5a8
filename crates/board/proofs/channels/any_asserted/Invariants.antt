-- `channels::any_asserted` meets its contract. Assumes nothing.
use mathlib.Core.Bool.{false, ◌||◌}
use Rattle.channel.specs.Channel.{line_of}
use Rattle.board.proofs.Loops.{Joined}
use Rattle.board.proofs.channels.any_asserted.Given as goal

abbrev pub invariant-loop-t : goal.invariant-loop-t
invariant-loop-t l = Joined (λ _ h. line_of h) ◌||◌ false l.timers l.t-index l.any
