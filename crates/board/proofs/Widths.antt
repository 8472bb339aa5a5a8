-- What a machine's types say: whatever it holds as a board is within its widths. A function that has a board knows this
-- of it. Assumes nothing.
use Prim.Native.Nat.{ℕ}
use native.Mathlib.Omega.{arith}
use mathlib.Core.Path.{◌≡◌}
use mathlib.Core.List.{List, [], ◌∷◌}
use lib.ListN.{length}
use mir.Val.{Val}
use denote.Shadow.{shadow}
use denote.Builtin.{u32}
use denote.Laws.{Is}
use denote.Array.{each, Array}
use denote.RattleType.{RattleType}
use Rattle.channel.specs.contracts.HardwareTimer.{the_row as timer-row}
use Rattle.channel.specs.declared.HardwareTimer.{HardwareTimer}
use Rattle.channel.specs.Channel.{TimerFits}
use Rattle.board.specs.Fields.{Latch}
use Rattle.std.specs.Prelude.{None, Some}
use Rattle.board.specs.declared.CountLatch.{CountLatch}
use Rattle.board.specs.declared.Latches.{Latches}
use Rattle.board.specs.declared.Board.{Board}
use Rattle.board.specs.Loops.{All}
use Rattle.board.specs.Board.{LatchFits, CountFits, LatchesFit, BoardFits}
use Rattle.std.specs.contracts.option.Option.{the_row as option-row}
use Rattle.board.specs.contracts.CountLatch.{the_row as count-row}
use Rattle.board.specs.contracts.Latches.{the_row as latches-row}
use Rattle.board.specs.contracts.Board.{the_row as board-row}

-- an array has its length, and each element is held
module _ (R : RattleType) (P : R.Denot → Type 0) (fits : (x : R.Denot) (vs : List Val) → Is R x vs → P x) where
  each_fits : (xs : List R.Denot) (us : List Val) → shadow (each R.Denot R.own_val xs us) → All P xs
  each_fits [] us h = tt
  each_fits (x ∷ xs) [] h = absurd h
  each_fits (x ∷ xs) (u ∷ us) h = (fits x (u ∷ []) h.0, each_fits xs us h.1)

  array-fits : (n : ℕ) (xs : List R.Denot) (vs : List Val) → Is (Array R n) xs vs → (length xs ≡ n) × All P xs
  array-fits n xs vs h = (h.1.0.1, each_fits xs h.0 h.1.1)

timer_fits : (t : HardwareTimer) (vs : List Val) → Is timer-row t vs → TimerFits t
timer_fits t vs h =
    record { counter = omega arith; compare = omega arith; reload = omega arith; prescaler = omega arith }

latch_fits : (l : Latch) (vs : List Val) → Is (option-row u32) l vs → LatchFits l
latch_fits None vs h = omega arith
latch_fits (Some v) vs h = omega arith

count_fits : (c : CountLatch) (vs : List Val) → Is count-row c vs → CountFits c
count_fits c vs h = latch_fits c.high h.0.0 h.1.1.0

latches_fit : (ls : Latches) (vs : List Val) → Is latches-row ls vs → LatchesFit ls
latches_fit ls vs h =
    let (us, (_, (counts, (low, (high, _))))) = h in
    let all = array-fits count-row CountFits count_fits 4 ls.counts us.0 counts in
    record {
      four = all.0;
      counts = all.1;
      low = latch_fits ls.low us.1.0 low;
      high = latch_fits ls.high us.1.1.0 high;
    }

pub board_fits : (b : Board) (vs : List Val) → Is board-row b vs → BoardFits b
board_fits b vs h =
    let (us, (_, (timers, (_, (clock, (latches, (controller, _))))))) = h in
    let all = array-fits timer-row TimerFits timer_fits 4 b.timers us.0 timers in
    record {
      four = all.0;
      timers = all.1;
      clock =
          record {
            seconds = omega (arith, clock);
            offset = omega (arith, clock);
            alarm = omega (arith, clock);
            shadow = omega (arith, clock);
            alarm_shadow = omega (arith, clock);
            host = omega (arith, clock);
          };
      latches = latches_fit b.latches us.1.1.1.0 latches;
      controller =
          record {
            pending = omega (arith, controller);
            enable = omega (arith, controller);
            levels = omega (arith, controller);
          };
    }
