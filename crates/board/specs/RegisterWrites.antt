-- Document 01, 'Registers and latches': what a byte written does, 'as in .. `write_byte`'. A byte written elsewhere
-- does nothing, and no write changes a latch.
use Rattle.std.specs.Prelude.{ℕ, ◌+◌, ◌%◌, Bool, false, cond, ◌&&◌, List, eqb}
use Rattle.wide.specs.Bits.{bit}
use Rattle.channel.specs.declared.HardwareTimer.{HardwareTimer}
use Rattle.channel.specs.Channel.{with_flags}
use Rattle.channel.specs.Registers.{byte_written}
use Rattle.clock.specs.declared.Clock.{Clock}
use Rattle.clock.specs.Clock.{rate_of}
use Rattle.clock.specs.Registers.{merge_byte, write_control, write_seconds, write_alarm, write_alarm_enable}
use Rattle.clock.specs.Registers.{acknowledge}
use Rattle.board.specs.declared.Board.{Board}
use Rattle.board.specs.Loops.{map_from}
use Rattle.board.specs.Fields.{with_timers, with_timer_enable, with_clock, channel_at, with_channel}
use Rattle.board.specs.Registers.{
  timer_enable_at,
  timer_ack_at,
  clock_control_at,
  seconds_low_at,
  seconds_high_at,
  alarm_low_at,
  alarm_high_at,
  alarm_enable_at,
  clock_ack_at,
  in_timers,
  in_clock,
  in_channels,
  register_of,
  byte_of,
  channel_of,
  place_of,
}

-- a channel's pending is cleared where its bit is set
abbrev pub cleared_by : Bool → HardwareTimer → HardwareTimer
cleared_by clear h = cond clear (with_flags false h.armed h) h

-- TIMER_ACK: clears the pending of each channel whose bit is set in the byte
abbrev pub acknowledged : ℕ → List HardwareTimer → List HardwareTimer
acknowledged v = map_from (λ k h. cleared_by (bit k v) h) 0

-- byte i of a register of the timers. TIMER_ENABLE keeps a bit for each channel; the channels' bits of TIMER_ACK are
-- in byte 3.
unfoldable pub timer_written : ℕ → ℕ → ℕ → Board → Board
timer_written register i v b =
    cond (eqb register timer_enable_at) (with_timer_enable (merge_byte i v b.timer_enable % 16) b)
    (cond (eqb register timer_ack_at && eqb i 3) (with_timers (acknowledged v b.timers) b)
    b)

-- byte i of a register of the clock. The low word has the last four of the eight bytes of seconds, and of the alarm.
unfoldable pub clock_written : ℕ → ℕ → ℕ → Clock → Clock
clock_written register i v k =
    cond (eqb register clock_control_at) (write_control (rate_of k) i v k)
    (cond (eqb register seconds_low_at) (write_seconds (rate_of k) (i + 4) v k)
    (cond (eqb register seconds_high_at) (write_seconds (rate_of k) i v k)
    (cond (eqb register alarm_low_at) (write_alarm (rate_of k) (i + 4) v k)
    (cond (eqb register alarm_high_at) (write_alarm (rate_of k) i v k)
    (cond (eqb register alarm_enable_at) (write_alarm_enable i v k)
    (cond (eqb register clock_ack_at) (acknowledge i v k)
    k))))))

-- a byte of a channel's register
abbrev pub channel_written : ℕ → ℕ → Board → Board
channel_written offset v b =
    with_channel (channel_of offset)
    (byte_written (register_of (place_of offset)) (byte_of offset) v (channel_at (channel_of offset) b)) b

-- byte v written at an offset
unfoldable pub written_at : ℕ → ℕ → Board → Board
written_at offset v b =
    cond (in_timers offset) (timer_written (register_of offset) (byte_of offset) v b)
    (cond (in_clock offset) (with_clock (clock_written (register_of offset) (byte_of offset) v b.clock) b)
    (cond (in_channels offset) (channel_written offset v b)
    b))
