-- Document 01, 'Registers and latches': the words that registers read as, 'as in `read_register`'. The word is 0 where
-- there is no register, and for the two acknowledge registers.
use Rattle.std.specs.Prelude.{ℕ, ◌+◌, ◌*◌, cond, List, eqb}
use Rattle.wide.specs.Bits.{flag_of}
use Rattle.wide.specs.Words.{low_word, high_word}
use Rattle.channel.specs.declared.HardwareTimer.{HardwareTimer}
use Rattle.channel.specs.Registers.{word_of}
use Rattle.clock.specs.declared.Clock.{Clock}
use Rattle.clock.specs.Clock.{rate_of, time_seconds}
use Rattle.clock.specs.Registers.{status_word, time_nanoseconds}
use Rattle.board.specs.declared.Board.{Board}
use Rattle.board.specs.Loops.{fold_from}
use Rattle.board.specs.Fields.{channel_at}
use Rattle.board.specs.Registers.{
  timer_id_at,
  timer_enable_at,
  timer_pending_at,
  clock_control_at,
  clock_status_at,
  seconds_low_at,
  seconds_high_at,
  subsecond_at,
  alarm_low_at,
  alarm_high_at,
  alarm_enable_at,
  in_timers,
  in_clock,
  in_channels,
  register_of,
  channel_of,
  place_of,
}

-- TIMER_ID
abbrev pub timer_id : ℕ
timer_id = 0x51540001

-- TIMER_PENDING: a bit for each channel, channel 0's the lowest
abbrev pub pending_word : List HardwareTimer → ℕ
pending_word = fold_from (λ _ h. flag_of h.pending) (λ flag word. flag + 2 * word) 0 0

-- a register that all channels share, by timer enable and the channels
unfoldable pub timer_word : ℕ → ℕ → List HardwareTimer → ℕ
timer_word register enable timers =
    cond (eqb register timer_id_at) timer_id
    (cond (eqb register timer_enable_at) enable
    (cond (eqb register timer_pending_at) (pending_word timers)
    0))

unfoldable pub clock_word : ℕ → Clock → ℕ
clock_word register k =
    cond (eqb register clock_control_at) k.control
    (cond (eqb register clock_status_at) (status_word k.alarm)
    (cond (eqb register seconds_low_at) (low_word (time_seconds (rate_of k) k))
    (cond (eqb register seconds_high_at) (high_word (time_seconds (rate_of k) k))
    (cond (eqb register subsecond_at) (time_nanoseconds (rate_of k) k)
    (cond (eqb register alarm_low_at) (low_word k.alarm.seconds)
    (cond (eqb register alarm_high_at) (high_word k.alarm.seconds)
    (cond (eqb register alarm_enable_at) k.alarm.enable
    0)))))))

-- a channel's register, by its offset in the channel's block
abbrev pub channel_word : ℕ → Board → ℕ
channel_word offset b = word_of (register_of (place_of offset)) (channel_at (channel_of offset) b)

-- the word of the register at an offset
unfoldable pub live_word : ℕ → Board → ℕ
live_word offset b =
    cond (in_timers offset) (timer_word (register_of offset) b.timer_enable b.timers)
    (cond (in_clock offset) (clock_word (register_of offset) b.clock)
    (cond (in_channels offset) (channel_word offset b)
    0))
