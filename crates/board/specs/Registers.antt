-- Document 01, 'Registers and latches': where the registers are, 'decoded from the offset by ranges, four bytes each,
-- most significant first'. The offsets are those of `timing.rs`.
use Rattle.std.specs.Prelude.{ℕ, ◌+◌, ◌-◌, ◌*◌, ◌/◌, ◌%◌, ◌^◌, ◌≤◌, Bool, ◌&&◌, leb}

-- 'Offset = address + 0x180'
abbrev pub base : ℕ
base = 0x180

-- ---- the registers' offsets, each below the name that the code, like `timing.rs`, has for it

-- TIMER_ID
abbrev pub timer_id_at : ℕ
timer_id_at = 0x180

-- TIMER_ENABLE
abbrev pub timer_enable_at : ℕ
timer_enable_at = 0x184

-- TIMER_PENDING
abbrev pub timer_pending_at : ℕ
timer_pending_at = 0x188

-- TIMER_ACK
abbrev pub timer_ack_at : ℕ
timer_ack_at = 0x18C

-- RTC_CTRL
abbrev pub clock_control_at : ℕ
clock_control_at = 0x200

-- RTC_STATUS
abbrev pub clock_status_at : ℕ
clock_status_at = 0x204

-- RTC_SECONDS_LO
abbrev pub seconds_low_at : ℕ
seconds_low_at = 0x208

-- RTC_SECONDS_HI
abbrev pub seconds_high_at : ℕ
seconds_high_at = 0x20C

-- RTC_SUBSEC
abbrev pub subsecond_at : ℕ
subsecond_at = 0x210

-- RTC_ALARM_LO
abbrev pub alarm_low_at : ℕ
alarm_low_at = 0x214

-- RTC_ALARM_HI
abbrev pub alarm_high_at : ℕ
alarm_high_at = 0x218

-- RTC_IRQ_CTRL
abbrev pub alarm_enable_at : ℕ
alarm_enable_at = 0x21C

-- RTC_ACK
abbrev pub clock_ack_at : ℕ
clock_ack_at = 0x220

-- TIMER_CHANNEL_BASE
abbrev pub channels_at : ℕ
channels_at = 0x400

-- TIMER_CHANNEL_STRIDE: a channel's block is 0x40 long
abbrev pub channel_stride : ℕ
channel_stride = 0x40

-- ---- ranges

-- a range of offsets, from the first to the last
pub record Range : Type 0 where
  pub first : ℕ
  pub last : ℕ

-- the first offset after a range
abbrev pub behind : Range → ℕ
behind r = r.last + 1

-- an offset is in a range: as a statement, and as a test
abbrev pub Inside : Range → ℕ → Type 0
Inside r offset = (r.first ≤ offset) × (offset ≤ r.last)

abbrev pub within : Range → ℕ → Bool
within r offset = leb r.first offset && leb offset r.last

-- the four bytes of a register, and the last of them
abbrev pub last_of : ℕ → ℕ
last_of register = register + 3

abbrev pub four_bytes : ℕ → Range
four_bytes register = record { first = register; last = last_of register }

abbrev pub in_register : ℕ → ℕ → Bool
in_register register = within (four_bytes register)

-- the three blocks
abbrev pub timer_block : Range
timer_block = record { first = timer_id_at; last = last_of timer_ack_at }

abbrev pub in_timers : ℕ → Bool
in_timers = within timer_block

abbrev pub clock_block : Range
clock_block = record { first = clock_control_at; last = last_of clock_ack_at }

abbrev pub in_clock : ℕ → Bool
in_clock = within clock_block

abbrev pub channel_blocks : Range
channel_blocks = record { first = channels_at; last = channels_at + 4 * channel_stride - 1 }

abbrev pub in_channels : ℕ → Bool
in_channels = within channel_blocks

-- 'four bytes each, most significant first': the register of an offset, and the byte of that register
abbrev pub register_of : ℕ → ℕ
register_of offset = offset / 4 * 4

abbrev pub byte_of : ℕ → ℕ
byte_of offset = offset % 4

-- the channel of an offset, and the offset in its block
abbrev pub channel_of : ℕ → ℕ
channel_of offset = (offset - channels_at) / channel_stride

abbrev pub place_of : ℕ → ℕ
place_of offset = (offset - channels_at) % channel_stride

-- byte i of a register's word
abbrev pub byte_of_word : ℕ → ℕ → ℕ
byte_of_word i word = word / 256 ^ (3 - i) % 256
