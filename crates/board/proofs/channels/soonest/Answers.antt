-- `channels::soonest` meets its contract. Assumes nothing.
use mathlib.Core.Path.{◌≡◌, refl, ap}
use mathlib.Core.Option.{Option, none, some}
use Prim.Native.Nat.{ℕ}
use native.Mathlib.Omega.{arith}
use borrow.Author.Rules.{rules}
use lib.ListN.{get_or}
use Rattle.wide.specs.Bits.{bit}
use Rattle.wide.specs.Deadline.{sooner}
use Rattle.channel.specs.Channel.{fresh_timer}
use Rattle.channel.specs.Deadline.{deadline_of}
use Rattle.board.proofs.Loops.{fold-goes, fold-ends}
use Rattle.board.proofs.Phases.{phase_at}
use Rattle.board.proofs.channels.soonest.Goals as goal

pub cycles_until_match-requires : goal.cycles_until_match-requires
cycles_until_match-requires c = phase_at c.args.timers.now c.loop-i.i (search rules) c.requires

-- the soonest of three, and of one
joins : (a b c : Option ℕ) → sooner (sooner a b) c ≡ sooner a (sooner b c)
joins none b c = refl
joins (some m) none c = refl
joins (some m) (some n) none = refl
joins (some m) (some n) (some k) = ap some (omega arith)

alone : (a : Option ℕ) → sooner a none ≡ a
alone none = refl
alone (some n) = refl

pub loop-i-preserved : goal.loop-i-preserved
loop-i-preserved c =
    let n = c.args.timer_enable in
    let ts = c.args.timers.now in
    let i = c.loop-i.i in
    rw (c.sooner-soonest.ensures, c.cycles_until_match.ensures, c.selected-selected.ensures)
    (fold-goes (λ k h. deadline_of (bit k n) h) sooner none joins ts fresh_timer i _
    (deadline_of (bit i n) (get_or ts i fresh_timer)) (search rules) refl c.loop-i.invariant)

pub returns : goal.returns
returns c =
    fold-ends (λ k h. deadline_of (bit k c.args.timer_enable) h) sooner none alone c.args.timers.now c.loop-i.i _
    (search rules) c.loop-i.invariant
