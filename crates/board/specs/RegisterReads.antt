-- Document 01, 'Registers and latches': a read with the latches, as `PeCTimingDevice::read` makes it.
use Rattle.std.specs.Prelude.{ℕ, cond, eqb}
use Rattle.wide.specs.Words.{low_word, high_word}
use Rattle.channel.specs.Registers.{count_low_at, count_high_at}
use Rattle.clock.specs.Clock.{rate_of, time_seconds, check_alarm}
use Rattle.board.specs.Fields.{Latch}
use Rattle.std.specs.Prelude.{None, Some}
use Rattle.board.specs.declared.Board.{Board}
use Rattle.board.specs.Fields.{with_clock, channel_at, count_latch, with_count_latch, with_clock_latches}
use Rattle.board.specs.Board.{held_of, held_value}
use Rattle.board.specs.Registers.{
  seconds_low_at,
  seconds_high_at,
  in_register,
  in_channels,
  byte_of,
  channel_of,
  place_of,
  byte_of_word,
}
use Rattle.board.specs.RegisterWords.{live_word}

-- ---- one byte

-- what a read gives: the board after it, before source 3 is set to the line, and the byte
pub record Read : Type 0 where
  pub board : Board
  pub byte : ℕ

-- the byte of a word at an offset; b is the board after the read
abbrev pub read_byte : ℕ → ℕ → Board → Read
read_byte offset word b = record { board = b; byte = byte_of_word (byte_of offset) word }

-- the board after the alarm check
abbrev pub checked : Board → Board
checked b = with_clock (check_alarm (rate_of b.clock) b.clock) b

-- 'The alarm check precedes a read that no latch serves.'
unfoldable pub read_live : ℕ → Board → Read
read_live offset b = read_byte offset (live_word offset (checked b)) (checked b)

-- 'freed after byte 3'
abbrev pub freed : ℕ → Latch → Latch
freed offset l = cond (eqb (byte_of offset) 3) None l

-- ---- a count

-- the board with the channel's high count word latched
abbrev pub count_held : ℕ → Board → Board
count_held n b = with_count_latch n (Some (high_word (channel_at n b).counter)) b

-- 'freed after byte 3 of the high word. .. Where a latch is empty the live register is read instead.'
unfoldable pub read_count_high : ℕ → Board → Read
read_count_high offset b =
    cond (held_of (count_latch (channel_of offset) b))
    (read_byte offset (held_value (count_latch (channel_of offset) b))
    (with_count_latch (channel_of offset) (freed offset (count_latch (channel_of offset) b)) b))
    (read_live offset b)

-- 'Reading byte 0 of a count's low word latches only its high word'
unfoldable pub read_channel : ℕ → Board → Read
read_channel offset b =
    cond (eqb (place_of offset) count_low_at) (read_live offset (count_held (channel_of offset) b))
    (cond (in_register count_high_at (place_of offset)) (read_count_high offset b)
    (read_live offset b))

-- ---- the clock's seconds

-- 'Byte 0 of clock seconds low latches both words'
unfoldable pub seconds_latched : ℕ → Board → Board
seconds_latched offset b =
    cond (eqb offset seconds_low_at)
    (with_clock_latches (Some (low_word (time_seconds (rate_of b.clock) b.clock)))
    (Some (high_word (time_seconds (rate_of b.clock) b.clock))) b)
    b

-- 'each freed after its own byte 3'
unfoldable pub read_low : ℕ → Board → Read
read_low offset b =
    cond (held_of b.latches.low)
    (read_byte offset (held_value b.latches.low)
    (with_clock_latches (freed offset b.latches.low) b.latches.high b))
    (read_live offset b)

-- the same of the high word
unfoldable pub read_high : ℕ → Board → Read
read_high offset b =
    cond (held_of b.latches.high)
    (read_byte offset (held_value b.latches.high)
    (with_clock_latches b.latches.low (freed offset b.latches.high) b))
    (read_live offset b)

-- ---- every offset

-- the read at an offset
unfoldable pub read_at : ℕ → Board → Read
read_at offset b =
    cond (in_register seconds_low_at offset) (read_low offset (seconds_latched offset b))
    (cond (in_register seconds_high_at offset) (read_high offset b)
    (cond (in_channels offset) (read_channel offset b)
    (read_live offset b)))
