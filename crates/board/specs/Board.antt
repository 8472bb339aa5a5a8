-- Document 01, 'An advance arrives at the board' and 'The line, source 3 and the deadline': the board's fields,
-- soundness, line and deadline. The terms sound, line and deadline are document 01's.
use Rattle.std.specs.Prelude.{ℕ, ◌^◌, ◌<◌, min, Bool, true, false, ◌&&◌, ◌||◌, ◌≡◌, length, ltb, eqb}
use Rattle.std.specs.Bool.{beq}
use Rattle.std.proofs.Math.Option.{Option, none, some}
use Rattle.wide.specs.Bits.{bit}
use Rattle.wide.specs.Number.{largest}
use Rattle.wide.specs.Deadline.{sooner}
use Rattle.channel.specs.Channel.{TimerFits}
use Rattle.clock.specs.Clock.{rate_of}
use Rattle.clock.specs.Sound.{ClockFits, sound_rate, sound_clock}
use Rattle.clock.specs.Deadline.{clock_line, clock_deadline}
use Rattle.controller.specs.Controller.{ControllerFits, source_set}
use Rattle.board.specs.Fields.{Latch}
use Rattle.std.specs.Prelude.{None, Some}
use Rattle.board.specs.declared.CountLatch.{CountLatch}
use Rattle.board.specs.declared.Latches.{Latches}
use Rattle.board.specs.declared.Board.{Board}
use Rattle.board.specs.Loops.{All, fold_from}
use Rattle.board.specs.Channels.{any_line, soonest_of, all_sound}
use Rattle.board.specs.Fields.{with_controller}

-- a latch as document 01's 'held flag, value'
abbrev pub held_of : Latch → Bool
held_of None = false
held_of (Some v) = true

abbrev pub held_value : Latch → ℕ
held_value None = 0
held_value (Some v) = v

-- ---- the widths of the fields, as the code's types have them

abbrev pub LatchFits : Latch → Type 0
LatchFits l = held_value l < 2 ^ 32

abbrev pub CountFits : CountLatch → Type 0
CountFits c = LatchFits c.high

pub record LatchesFit (ls : Latches) : Type 0 where
  pub four : length ls.counts ≡ 4
  pub counts : All CountFits ls.counts
  pub low : LatchFits ls.low
  pub high : LatchFits ls.high

-- each field is within its width, and there are four channels and four count latches; soundness bounds timer enable,
-- and the fields that `TimerFits` and `ClockFits` leave out
pub record BoardFits (b : Board) : Type 0 where
  pub four : length b.timers ≡ 4
  pub timers : All TimerFits b.timers
  pub clock : ClockFits b.clock
  pub latches : LatchesFit b.latches
  pub controller : ControllerFits b.controller

-- ---- the line and the deadline

-- 'The line is high if some channel has pending and interrupt enable, or the alarm is pending and enabled; else it is
-- low.'
unfoldable pub line : Board → Bool
line b = any_line b.timers || clock_line b.clock

-- 'D is the smallest, or none'
unfoldable pub exact_deadline : Board → Option ℕ
exact_deadline b = sooner (soonest_of b.timer_enable b.timers) (clock_deadline (rate_of b.clock) b.clock)

-- 'The 64-bit deadline is the smaller of D and 2^64 − 1.'
abbrev pub word_deadline : Option ℕ → Option ℕ
word_deadline none = none
word_deadline (some d) = some (min d largest)

-- 'After every accepted call the controller's source 3 is set to the line'
unfoldable pub wired : Board → Board
wired b = with_controller (source_set b.controller 3 (line b)) b

-- ---- soundness

-- 'an empty latch holds 0'
abbrev pub sound_latch : Latch → Bool
sound_latch l = held_of l || eqb (held_value l) 0

abbrev pub sound_latches : Latches → Bool
sound_latches ls =
    fold_from (λ _ l. sound_latch l.high) ◌&&◌ true 0 ls.counts && (sound_latch ls.low && sound_latch ls.high)

-- 'timer enable < 16', by S-7 the rate is one of three, and the clauses of the channels, the clock and the latches
unfoldable pub sound_parts : Board → Bool
sound_parts b =
    all_sound b.timers
    && (ltb b.timer_enable 16
    && (sound_rate (rate_of b.clock)
    && (sound_clock (rate_of b.clock) b.clock && sound_latches b.latches)))

-- 'level bit 3 equals the line'
abbrev pub sound_level : Board → Bool
sound_level b = beq (bit 3 b.controller.levels) (line b)

-- 'A board is sound when'
unfoldable pub sound : Board → Bool
sound b = sound_parts b && sound_level b
