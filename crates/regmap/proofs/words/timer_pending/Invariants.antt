-- `words::timer_pending` meets its contract. Assumes nothing.
use Prim.Native.Nat.{◌+◌, ◌*◌, ◌^◌, ◌<◌}
use mathlib.Core.Path.{◌≡◌}
use lib.ListN.{drop}
use Rattle.wide.specs.Bits.{flag_of}
use Rattle.board.specs.Loops.{fold_from}
use Rattle.board.specs.RegisterWords.{pending_word}
use Rattle.regmap.proofs.words.timer_pending.Given as goal

-- the word has the bits of the channels below i
abbrev pub invariant-loop-i : goal.invariant-loop-i
invariant-loop-i l = record {
  joined :
      l.word + 2 ^ l.i * fold_from (λ _ h. flag_of h.pending) (λ flag w. flag + 2 * w) 0 l.i (drop l.i l.t-items)
      ≡ pending_word l.t-items;
  room : l.word < 2 ^ l.i;
}
