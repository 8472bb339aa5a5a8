-- A channel's fields, control bits and soundness, and when it holds the line high, by document 01. The other rules use
-- the setters.
use Rattle.std.specs.Prelude.{ℕ, ◌+◌, ◌*◌, ◌/◌, ◌%◌, ◌^◌, ◌<◌, Bool, true, false, ◌&&◌, nat_lt}
use Rattle.wide.specs.Bits.{bit}
use Rattle.channel.specs.declared.Mode.{Mode}
use Rattle.channel.specs.declared.Mode.TheVariants.{OneShot, Periodic, FreeRunning, Idle}
use Rattle.channel.specs.declared.HardwareTimer.{HardwareTimer}

-- each field is within its width, as the code's types have it; soundness bounds control and phase
pub record TimerFits (h : HardwareTimer) : Type 0 where
  pub counter : h.counter < 2 ^ 64
  pub compare : h.compare < 2 ^ 64
  pub reload : h.reload < 2 ^ 64
  pub prescaler : h.prescaler < 2 ^ 32

-- 'A fresh board ..: everything zero'
abbrev pub fresh_timer : HardwareTimer
fresh_timer =
    record {
      control = 0;
      counter = 0;
      compare = 0;
      reload = 0;
      prescaler = 0;
      phase = 0;
      pending = false;
      armed = false;
    }

-- 'Channel control: bits 0–1 mode, 2 enable, 3 interrupt enable.'
abbrev pub mode_of : ℕ → ℕ
mode_of control = control % 4

-- the number of the code's mode. 'Mode 3 does nothing.'
abbrev pub mode_number : Mode → ℕ
mode_number OneShot = 0
mode_number Periodic = 1
mode_number FreeRunning = 2
mode_number Idle = 3

unfoldable pub enabled_of : ℕ → Bool
enabled_of control = bit 2 control

unfoldable pub irq_enabled_of : ℕ → Bool
irq_enabled_of control = bit 3 control

-- the same control with enable clear
unfoldable pub disabled : ℕ → ℕ
disabled control = control / 8 * 8 + control % 4

-- ---- one field set, or two

abbrev pub with_control : ℕ → HardwareTimer → HardwareTimer
with_control n h =
    record {
      control = n;
      counter = h.counter;
      compare = h.compare;
      reload = h.reload;
      prescaler = h.prescaler;
      phase = h.phase;
      pending = h.pending;
      armed = h.armed;
    }

abbrev pub with_counter : ℕ → HardwareTimer → HardwareTimer
with_counter n h =
    record {
      control = h.control;
      counter = n;
      compare = h.compare;
      reload = h.reload;
      prescaler = h.prescaler;
      phase = h.phase;
      pending = h.pending;
      armed = h.armed;
    }

abbrev pub with_compare : ℕ → HardwareTimer → HardwareTimer
with_compare n h =
    record {
      control = h.control;
      counter = h.counter;
      compare = n;
      reload = h.reload;
      prescaler = h.prescaler;
      phase = h.phase;
      pending = h.pending;
      armed = h.armed;
    }

abbrev pub with_reload : ℕ → HardwareTimer → HardwareTimer
with_reload n h =
    record {
      control = h.control;
      counter = h.counter;
      compare = h.compare;
      reload = n;
      prescaler = h.prescaler;
      phase = h.phase;
      pending = h.pending;
      armed = h.armed;
    }

abbrev pub with_prescaler : ℕ → HardwareTimer → HardwareTimer
with_prescaler n h =
    record {
      control = h.control;
      counter = h.counter;
      compare = h.compare;
      reload = h.reload;
      prescaler = n;
      phase = h.phase;
      pending = h.pending;
      armed = h.armed;
    }

abbrev pub with_phase : ℕ → HardwareTimer → HardwareTimer
with_phase n h =
    record {
      control = h.control;
      counter = h.counter;
      compare = h.compare;
      reload = h.reload;
      prescaler = h.prescaler;
      phase = n;
      pending = h.pending;
      armed = h.armed;
    }

abbrev pub with_flags : Bool → Bool → HardwareTimer → HardwareTimer
with_flags pending armed h =
    record {
      control = h.control;
      counter = h.counter;
      compare = h.compare;
      reload = h.reload;
      prescaler = h.prescaler;
      phase = h.phase;
      pending = pending;
      armed = armed;
    }

-- 'set pending'
abbrev pub set_pending : HardwareTimer → HardwareTimer
set_pending h = with_flags true h.armed h

-- 'clear enable'
abbrev pub clear_enable : HardwareTimer → HardwareTimer
clear_enable h = with_control (disabled h.control) h

-- ---- soundness and the line

-- 'divisor V = prescaler + 1'
abbrev pub divisor : HardwareTimer → ℕ
divisor h = h.prescaler + 1

-- document 01's term sound, of a channel: 'channel control < 16; phase < prescaler + 1'
unfoldable pub sound_timer : HardwareTimer → Bool
sound_timer h = nat_lt h.control 16 && nat_lt h.phase (divisor h)

-- document 01's term line, of one channel: 'some channel has pending and interrupt enable'
unfoldable pub line_of : HardwareTimer → Bool
line_of h = h.pending && irq_enabled_of h.control
