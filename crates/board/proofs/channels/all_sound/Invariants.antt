-- `channels::all_sound` meets its contract. Assumes nothing.
use mathlib.Core.Bool.{true, ◌&&◌}
use Rattle.channel.specs.Channel.{sound_timer}
use Rattle.board.proofs.Loops.{Joined}
use Rattle.board.proofs.channels.all_sound.Given as goal

abbrev pub invariant-loop-t : goal.invariant-loop-t
invariant-loop-t l = Joined (λ _ h. sound_timer h) ◌&&◌ true l.timers l.t-index l.all
