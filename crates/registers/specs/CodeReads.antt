-- Not document 01's sentences: what the code computes for a read, from one channel, the clock, the latches and the word
-- of a register that all channels share. The rule is `read_at` of crates/board, and `read_parts` of
-- proofs/CodeReads.antt shows that the read here is the rule's.
use Rattle.std.specs.Prelude.{ℕ, Bool, false, not, cond, ◌&&◌, get_or, set, eqb}
use Rattle.std.specs.Bool.{beq}
use Rattle.wide.specs.Words.{low_word, high_word}
use Rattle.channel.specs.declared.HardwareTimer.{HardwareTimer}
use Rattle.channel.specs.Registers.{count_low_at, count_high_at, word_of}
use Rattle.clock.specs.declared.Clock.{Clock}
use Rattle.clock.specs.Fields.{with_alarm}
use Rattle.clock.specs.Clock.{rate_of, time_seconds, check_alarm}
use Rattle.board.specs.Fields.{Latch}
use Rattle.std.specs.Prelude.{None, Some}
use Rattle.board.specs.declared.Latches.{Latches}
use Rattle.board.specs.declared.Board.{Board}
use Rattle.board.specs.Fields.{with_clock, with_latches, channel_at}
use Rattle.board.specs.Board.{held_of, held_value}
use Rattle.board.specs.Registers.{
  seconds_low_at,
  seconds_high_at,
  in_register,
  in_timers,
  in_clock,
  in_channels,
  register_of,
  byte_of,
  channel_of,
  place_of,
  byte_of_word,
}
use Rattle.board.specs.RegisterWords.{timer_word, clock_word}
use Rattle.registers.specs.declared.reads.LatchedReading.{LatchedReading}

-- ---- where the offset is

-- the channel in whose block it is, 0 elsewhere
unfoldable pub channel_index : ℕ → ℕ
channel_index offset = cond (in_channels offset) (channel_of offset) 0

-- byte 0 of a count's low word
unfoldable pub at_count_low : ℕ → Bool
at_count_low offset = in_channels offset && eqb (place_of offset) count_low_at

-- a count's high word
unfoldable pub at_count_high : ℕ → Bool
at_count_high offset = in_channels offset && eqb (register_of (place_of offset)) count_high_at

-- ---- the latches

abbrev pub with_count : ℕ → Latch → Latches → Latches
with_count n l ls =
    record { counts = set ls.counts n (record { high = l }); low = ls.low; high = ls.high }

abbrev pub with_seconds : Latch → Latch → Latches → Latches
with_seconds low high ls = record { counts = ls.counts; low = low; high = high }

-- byte 0 of a count's low word fills the latch of its high word
unfoldable pub count_filled : ℕ → ℕ → Latches → Latches
count_filled offset counter ls =
    cond (at_count_low offset) (with_count (channel_index offset) (Some (high_word counter)) ls) ls

-- byte 0 of the clock's low seconds fills both of the clock's latches; elsewhere a count's may be filled
unfoldable pub filled : ℕ → ℕ → Clock → Latches → Latches
filled offset counter k ls =
    cond (eqb offset seconds_low_at)
    (with_seconds (Some (low_word (time_seconds (rate_of k) k))) (Some (high_word (time_seconds (rate_of k) k))) ls)
    (count_filled offset counter ls)

-- the latch of a count that serves the offset
unfoldable pub count_serving : ℕ → Latches → Latch
count_serving offset ls =
    cond (at_count_high offset) (get_or ls.counts (channel_index offset) (record { high = None })).high None

-- the latch that serves the offset; elsewhere an empty one
unfoldable pub serving : ℕ → Latches → Latch
serving offset ls =
    cond (in_register seconds_low_at offset) ls.low
    (cond (in_register seconds_high_at offset) ls.high
    (count_serving offset ls))

-- the latches with that latch of a count empty
unfoldable pub count_freed : ℕ → Latches → Latches
count_freed offset ls = cond (at_count_high offset) (with_count (channel_index offset) None ls) ls

-- the latches with the one that serves the offset empty
unfoldable pub latch_freed : ℕ → Latches → Latches
latch_freed offset ls =
    cond (in_register seconds_low_at offset) (with_seconds None ls.high ls)
    (cond (in_register seconds_high_at offset) (with_seconds ls.low None ls)
    (count_freed offset ls))

-- the same, but only after byte 3
unfoldable pub freed_at : ℕ → Latches → Latches
freed_at offset ls = cond (eqb (byte_of offset) 3) (latch_freed offset ls) ls

-- ---- the reading

-- the word of the register at an offset, by the channel, the clock and the word of a register that all channels share
unfoldable pub word_at : HardwareTimer → Clock → ℕ → ℕ → ℕ
word_at h k shared offset =
    cond (in_timers offset) shared
    (cond (in_clock offset) (clock_word (register_of offset) k)
    (cond (in_channels offset) (word_of (register_of (place_of offset)) h)
    0))

-- no latch serves: k is the clock after the alarm check, `before` whether its alarm was pending before. The check can
-- only set pending, so pending rose where it differs from `before`.
abbrev pub live_reading : HardwareTimer → ℕ → Clock → Bool → Latches → ℕ → LatchedReading
live_reading h shared k before ls offset =
    record {
      latches = ls;
      plain =
          record {
            byte = byte_of_word (byte_of offset) (word_at h k shared offset);
            pending = k.alarm.pending;
            armed = k.alarm.armed;
            rose = not (beq k.alarm.pending before);
          };
    }

-- a latch that holds `word` serves the read
abbrev pub latch_reading : ℕ → Clock → Latches → ℕ → LatchedReading
latch_reading word k ls offset =
    record {
      latches = freed_at offset ls;
      plain =
          record {
            byte = byte_of_word (byte_of offset) word;
            pending = k.alarm.pending;
            armed = k.alarm.armed;
            rose = false;
          };
    }

-- a read by the latches, already filled where the offset is byte 0 of a low word
unfoldable pub reading_by : HardwareTimer → ℕ → Clock → Latches → ℕ → LatchedReading
reading_by h shared k ls offset =
    cond (held_of (serving offset ls)) (latch_reading (held_value (serving offset ls)) k ls offset)
    (live_reading h shared (check_alarm (rate_of k) k) k.alarm.pending ls offset)

-- a read at an offset: h is the channel of its index, shared the word of the register that all channels share
unfoldable pub reading_of : HardwareTimer → ℕ → Clock → Latches → ℕ → LatchedReading
reading_of h shared k ls offset = reading_by h shared k (filled offset h.counter k ls) offset

-- ---- of a board

-- the reading at an offset
abbrev pub offset_reading : ℕ → Board → LatchedReading
offset_reading offset b =
    reading_of (channel_at (channel_index offset) b) (timer_word (register_of offset) b.timer_enable b.timers)
    b.clock b.latches offset

-- the board with a reading's latches and flags
abbrev pub after_reading : LatchedReading → Board → Board
after_reading r b =
    with_clock
    (with_alarm
    (record {
      enable = b.clock.alarm.enable;
      seconds = b.clock.alarm.seconds;
      pending = r.plain.pending;
      armed = r.plain.armed;
    })
    b.clock)
    (with_latches r.latches b)

-- ---- without the latches

-- a channel's register whose reads neither fill a latch nor use one
unfoldable pub plain_at : ℕ → Bool
plain_at offset =
    in_channels offset
    && (not (eqb (register_of (place_of offset)) count_low_at)
    && not (eqb (register_of (place_of offset)) count_high_at))
