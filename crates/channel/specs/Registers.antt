-- Document 01, 'Registers and latches', of a channel's registers: 'offsets, read values and write effects as in
-- `read_register` and `write_byte`'. A register is given by its offset in the channel's block; it has four bytes, most
-- significant first.
use Rattle.std.specs.Prelude.{ℕ, ◌+◌, ◌-◌, ◌*◌, ◌%◌, true, false, cond, ◌==◌}
use Rattle.wide.specs.Bits.{bit, flag_of}
use Rattle.wide.specs.Words.{low_word, high_word}
use Rattle.wide.specs.Fields.{with_byte}
use Rattle.channel.specs.declared.HardwareTimer.{HardwareTimer}
use Rattle.channel.specs.Channel.{
  enabled_of,
  with_control,
  with_counter,
  with_compare,
  with_reload,
  with_prescaler,
  with_phase,
  with_flags,
}

-- ---- the registers' offsets

abbrev pub control_at : ℕ
control_at = 0x00

abbrev pub status_at : ℕ
status_at = 0x04

abbrev pub count_low_at : ℕ
count_low_at = 0x08

abbrev pub count_high_at : ℕ
count_high_at = 0x0C

abbrev pub compare_low_at : ℕ
compare_low_at = 0x10

abbrev pub compare_high_at : ℕ
compare_high_at = 0x14

abbrev pub reload_low_at : ℕ
reload_low_at = 0x18

abbrev pub reload_high_at : ℕ
reload_high_at = 0x1C

abbrev pub prescaler_at : ℕ
prescaler_at = 0x20

-- ---- what they read as

-- the word that a register reads as; 0 where there is none
unfoldable pub word_of : ℕ → HardwareTimer → ℕ
word_of register h =
    cond (register == control_at) h.control
    (cond (register == status_at) (flag_of (enabled_of h.control) + 2 * flag_of h.pending)
    (cond (register == count_low_at) (low_word h.counter)
    (cond (register == count_high_at) (high_word h.counter)
    (cond (register == compare_low_at) (low_word h.compare)
    (cond (register == compare_high_at) (high_word h.compare)
    (cond (register == reload_low_at) (low_word h.reload)
    (cond (register == reload_high_at) (high_word h.reload)
    (cond (register == prescaler_at) h.prescaler
    0))))))))

-- ---- what a byte written does

-- the control word w: 'Control bit 4 written zeroes counter, phase and pending, and arms.'
unfoldable pub control_written : ℕ → HardwareTimer → HardwareTimer
control_written w h =
    cond (bit 4 w)
    (with_flags false true (with_phase 0 (with_counter 0 (with_control (w % 16) h))))
    (with_control (w % 16) h)

-- 'Compare bytes arm.'
abbrev pub compare_written : ℕ → HardwareTimer → HardwareTimer
compare_written n h = with_flags h.pending true (with_compare n h)

-- 'Each prescaler byte written zeroes phase.'
abbrev pub prescaler_written : ℕ → HardwareTimer → HardwareTimer
prescaler_written n h = with_phase 0 (with_prescaler n h)

-- byte i of a register, 0 the most significant, has 3 − i bytes below it; in the high word of a field of eight bytes,
-- 7 − i. A byte written elsewhere does nothing.
unfoldable pub byte_written : ℕ → ℕ → ℕ → HardwareTimer → HardwareTimer
byte_written register i v h =
    cond (register == control_at) (control_written (with_byte (3 - i) v h.control) h)
    (cond (register == count_low_at) (with_counter (with_byte (3 - i) v h.counter) h)
    (cond (register == count_high_at) (with_counter (with_byte (7 - i) v h.counter) h)
    (cond (register == compare_low_at) (compare_written (with_byte (3 - i) v h.compare) h)
    (cond (register == compare_high_at) (compare_written (with_byte (7 - i) v h.compare) h)
    (cond (register == reload_low_at) (with_reload (with_byte (3 - i) v h.reload) h)
    (cond (register == reload_high_at) (with_reload (with_byte (7 - i) v h.reload) h)
    (cond (register == prescaler_at) (prescaler_written (with_byte (3 - i) v h.prescaler) h)
    h)))))))
