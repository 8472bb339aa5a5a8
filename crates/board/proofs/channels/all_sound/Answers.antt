-- `channels::all_sound` meets its contract. Assumes nothing.
use mathlib.Core.Bool.{true, ◌&&◌, and_assoc, and-true}
use borrow.Author.Rules.{rules}
use Rattle.channel.specs.Channel.{fresh_timer, sound_timer}
use Rattle.board.proofs.Loops.{fold-goes, fold-ends}
use Rattle.board.proofs.channels.all_sound.Goals as goal

pub loop-t-preserved : goal.loop-t-preserved
loop-t-preserved c =
    fold-goes (λ _ h. sound_timer h) ◌&&◌ true and_assoc c.args.timers.now fresh_timer c.loop-t.t-index _ _
    (search rules) c.sound-all.ensures.0 c.loop-t.invariant

pub returns : goal.returns
returns c =
    fold-ends (λ _ h. sound_timer h) ◌&&◌ true and-true c.args.timers.now c.loop-t.t-index _ (search rules)
    c.loop-t.invariant
