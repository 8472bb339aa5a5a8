-- Not document 01's sentences: what the code computes for a write. It is the part of the board that a byte written
-- at an offset changes, and the board with that part changed. The rule is `written_at` of crates/board, and
-- `written_is` of proofs/CodeWrites.antt shows that the board here is the rule's.
use Rattle.std.specs.Prelude.{ℕ, ◌%◌, Bool, true, false, cond, ltb, eqb}
use Rattle.channel.specs.Registers.{byte_written}
use Rattle.clock.specs.Registers.{merge_byte}
use Rattle.board.specs.declared.Board.{Board}
use Rattle.board.specs.Fields.{with_timers, with_timer_enable, with_clock, channel_at, with_channel}
use Rattle.board.specs.Registers.{
  timer_enable_at,
  timer_ack_at,
  last_of,
  in_register,
  in_clock,
  in_channels,
  register_of,
  byte_of,
  place_of,
}
use Rattle.board.specs.RegisterWrites.{acknowledged, clock_written}
use Rattle.registers.specs.declared.writes.WritePart.{WritePart}
use Rattle.registers.specs.declared.writes.WritePart.TheVariants.{Nothing, Enable, Acknowledge, Clock, Channel}
use Rattle.registers.specs.CodeReads.{channel_index}

-- the part that a byte written at an offset changes: TIMER_ENABLE, the byte of TIMER_ACK that has the channels' bits,
-- a register of the clock, or a channel's
unfoldable pub part_of : ℕ → WritePart
part_of offset =
    cond (in_register timer_enable_at offset) Enable
    (cond (eqb offset (last_of timer_ack_at)) Acknowledge
    (cond (in_clock offset) Clock
    (cond (in_channels offset) Channel
    Nothing)))

-- the board with that part changed by byte v
abbrev pub written_by : WritePart → ℕ → ℕ → Board → Board
written_by Nothing offset v b = b
written_by Enable offset v b = with_timer_enable (merge_byte (byte_of offset) v b.timer_enable % 16) b
written_by Acknowledge offset v b = with_timers (acknowledged v b.timers) b
written_by Clock offset v b = with_clock (clock_written (register_of offset) (byte_of offset) v b.clock) b
written_by Channel offset v b =
    with_channel (channel_index offset)
    (byte_written (register_of (place_of offset)) (byte_of offset) v (channel_at (channel_index offset) b)) b

-- ---- whether the line can move

-- the offset is in a channel's control register
abbrev pub at_control : ℕ → Bool
at_control offset = ltb (place_of offset) 4

-- a write of this part can move the line; where it cannot, source 3 need not be set
abbrev pub moves_line : WritePart → ℕ → Bool
moves_line Nothing offset = false
moves_line Enable offset = false
moves_line Acknowledge offset = true
moves_line Clock offset = true
moves_line Channel offset = at_control offset
