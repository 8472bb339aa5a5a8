-- `words::timer_pending` meets its contract. Assumes nothing.
use Prim.Native.Nat.{◌+◌, ◌*◌}
use lib.ListN.{get_or}
use native.Mathlib.Nat.{mul-zero, add-zero}
use borrow.Author.Rules.{rules}
use Rattle.wide.specs.Bits.{flag_of}
use Rattle.channel.specs.Channel.{fresh_timer}
use Rattle.board.proofs.Loops.{fold-next, fold-past}
use Rattle.wide.proofs.Bits.{byte_flag}
use Rattle.regmap.proofs.Pending.{pending-goes, pending-stays}
use Rattle.regmap.proofs.words.timer_pending.Goals as goal

pub loop-i-preserved : goal.loop-i-preserved
loop-i-preserved c =
    let l = c.loop-i in
    let ts = c.args.timers in
    let v = (get_or ts l.i fresh_timer).pending in
    let next = fold-next (λ _ h. flag_of h.pending) (λ flag w. flag + 2 * w) 0 ts fresh_timer l.i (search rules) in
    rw (c.from.ensures, byte_flag v)
    (record {
      joined = pending-goes v l.word l.i c.loop-i-test.true _ _ (rw next at l.invariant.joined);
      room = pending-stays v l.word l.i c.loop-i-test.true l.invariant.room;
    })

pub returns : goal.returns
returns c =
    let l = c.loop-i in
    let past = fold-past (λ _ h. flag_of h.pending) (λ flag w. flag + 2 * w) 0 c.args.timers l.i (search rules) in
    rw (past, mul-zero, add-zero) at l.invariant.joined
