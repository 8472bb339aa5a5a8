-- Document 01, 'An advance arrives at the board': the fresh board, and a board with one of its fields changed. Every
-- rule that changes a board does so by these.
use Rattle.std.specs.Prelude.{ℕ, Option, List, [], ◌∷◌, get_or, set}
use Rattle.channel.specs.declared.HardwareTimer.{HardwareTimer}
use Rattle.channel.specs.Channel.{fresh_timer}
use Rattle.clock.specs.declared.Clock.{Clock}
use Rattle.clock.specs.Fields.{fresh_rate, fresh_clock_at}
use Rattle.controller.specs.declared.IrqController.{IrqController}
use Rattle.controller.specs.Controller.{fresh}
use Rattle.std.specs.Prelude.{None}
use Rattle.board.specs.declared.Latches.{Latches}
use Rattle.board.specs.declared.Board.{Board}

-- a latch, as the code has it: the word that it holds, or none
abbrev pub Latch : Type 0
Latch = Option ℕ

abbrev four : {A : Type 0} → A → List A
four a = a ∷ a ∷ a ∷ a ∷ []

-- 'A fresh board is made by a constructor of the board's own: everything zero except clock control 1.' S-7: 'A fresh
-- board takes its rate .. and the board carries it.'
abbrev pub fresh_board_at : ℕ → Board
fresh_board_at rate =
    record {
      timers = four fresh_timer;
      timer_enable = 0;
      clock = fresh_clock_at rate;
      latches = record { counts = four (record { high = None }); low = None; high = None };
      controller = fresh;
    }

-- 'of which no rate is said'
abbrev pub fresh_board : Board
fresh_board = fresh_board_at fresh_rate

-- ---- one field

abbrev pub with_timers : List HardwareTimer → Board → Board
with_timers ts b =
    record {
      timers = ts;
      timer_enable = b.timer_enable;
      clock = b.clock;
      latches = b.latches;
      controller = b.controller;
    }

abbrev pub with_timer_enable : ℕ → Board → Board
with_timer_enable n b =
    record {
      timers = b.timers;
      timer_enable = n;
      clock = b.clock;
      latches = b.latches;
      controller = b.controller;
    }

abbrev pub with_clock : Clock → Board → Board
with_clock k b =
    record {
      timers = b.timers;
      timer_enable = b.timer_enable;
      clock = k;
      latches = b.latches;
      controller = b.controller;
    }

abbrev pub with_latches : Latches → Board → Board
with_latches ls b =
    record {
      timers = b.timers;
      timer_enable = b.timer_enable;
      clock = b.clock;
      latches = ls;
      controller = b.controller;
    }

abbrev pub with_controller : IrqController → Board → Board
with_controller q b =
    record {
      timers = b.timers;
      timer_enable = b.timer_enable;
      clock = b.clock;
      latches = b.latches;
      controller = q;
    }

-- ---- a channel, and a latch

abbrev pub channel_at : ℕ → Board → HardwareTimer
channel_at n b = get_or b.timers n fresh_timer

abbrev pub with_channel : ℕ → HardwareTimer → Board → Board
with_channel n h b = with_timers (set b.timers n h) b

-- the latch of channel n's count
abbrev pub count_latch : ℕ → Board → Latch
count_latch n b = (get_or b.latches.counts n (record { high = None })).high

abbrev pub with_count_latch : ℕ → Latch → Board → Board
with_count_latch n l b =
    with_latches
    (record {
      counts = set b.latches.counts n (record { high = l });
      low = b.latches.low;
      high = b.latches.high;
    })
    b

-- the clock's latches
abbrev pub with_clock_latches : Latch → Latch → Board → Board
with_clock_latches low high b =
    with_latches (record { counts = b.latches.counts; low = low; high = high }) b
