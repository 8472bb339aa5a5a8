-- 'Every call keeps a sound board sound', of its rate, and its words words: a read and a write, then every call, and
-- what a direct call answers. Assumes nothing.
use Prim.Native.Nat.{ℕ, ◌+◌, ◌^◌, ◌<◌}
use native.Mathlib.Nat.{mod-lt}
use native.Mathlib.Omega.{arith}
use mathlib.Core.Path.{◌≡◌, refl, subst⁻¹, ◌∙◌}
use mathlib.Core.Bool.{Bool, true, false, ◌&&◌}
use lib.Dec.{eqb}
use lib.ListN.{length-set}
use Rattle.wide.specs.Bits.{bit}
use Rattle.wide.specs.Words.{low_word, high_word}
use Rattle.wide.proofs.Choices.{choose, either}
use Rattle.channel.specs.declared.HardwareTimer.{HardwareTimer}
use Rattle.channel.specs.Channel.{fresh_timer}
use Rattle.channel.specs.Registers.{count_low_at, count_high_at, byte_written}
use Rattle.channel.proofs.Sound.{GoodTimer, fresh_timer_good, flags-good, byte-good}
use Rattle.clock.specs.declared.Clock.{Clock}
use Rattle.clock.specs.Clock.{rate_of, time_seconds, check_alarm}
use Rattle.clock.specs.Registers.{merge_byte}
use Rattle.clock.specs.Sound.{sound_rate}
use Rattle.clock.proofs.Rate.{Rate, three-rate}
use Rattle.clock.proofs.Soundness.{GoodClock, check-good, control_good, seconds-good, alarm-bytes-good, enable-good}
use Rattle.clock.proofs.Soundness.{acknowledge-good}
use Rattle.board.specs.Fields.{Latch}
use Rattle.board.specs.declared.refusal.Refusal.TheVariants.{NotSound}
use Rattle.std.specs.Prelude.{None, Some}
use Rattle.board.specs.declared.Board.{Board}
use Rattle.board.specs.declared.calls.Call.{Call}
use Rattle.board.specs.declared.calls.Call.TheVariants.{HostTime, Read, Write, Advance, Deadline, Skip, Source}
use Rattle.board.specs.declared.calls.Call.TheVariants.{ControllerRead, ControllerWrite, Output}
use Rattle.board.specs.Fields.{channel_at, with_channel, count_latch, with_count_latch, with_clock_latches}
use Rattle.board.specs.Board.{held_of, LatchFits, CountFits, BoardFits, sound}
use Rattle.board.specs.Registers.{base, timer_enable_at, timer_ack_at, clock_control_at, seconds_low_at}
use Rattle.board.specs.Registers.{seconds_high_at}
use Rattle.board.specs.Registers.{alarm_low_at, alarm_high_at, alarm_enable_at, clock_ack_at, in_register, in_timers}
use Rattle.board.specs.Registers.{in_clock}
use Rattle.board.specs.Registers.{in_channels, register_of, byte_of, channel_of, place_of}
use Rattle.board.specs.RegisterReads.{Read as ByteRead, read_live, freed, read_count_high, read_channel}
use Rattle.board.specs.RegisterReads.{seconds_latched}
use Rattle.board.specs.RegisterReads.{read_low, read_high, read_at}
use Rattle.board.specs.RegisterWrites.{cleared_by, acknowledged, timer_written, clock_written, written_at}
use Rattle.board.specs.Calls.{CallFits, answer_of}
use Rattle.board.proofs.Loops.{map-length, map_all}
use Rattle.board.specs.Kept.{Good, Keeps}
use Rattle.board.proofs.Good.{GoodParts, good, good-parts, parts-good, own-parts, at-rate, timers-parts}
use Rattle.board.proofs.Good.{enable-parts, clock-parts, latches-parts}
use Rattle.board.proofs.Kept.{host_time_keeps, advance_keeps, deadline_keeps, skip_keeps, source_keeps}
use Rattle.board.proofs.Kept.{controller_read_keeps, controller_write_keeps, output_keeps, answer-good, answer-kept}
use Rattle.board.proofs.Answers.{answer-refused}
use Rattle.registers.proofs.Lists.{all-get, all_set}

-- ---- the latches

high-word : (n : ℕ) → n < 2 ^ 64 → high_word n < 2 ^ 32
high-word n h = omega arith

seconds_word : (rate : ℕ) (k : Clock) → time_seconds rate k < 2 ^ 64
unfolding time_seconds
seconds_word rate k = omega arith

freed_fits : (offset : ℕ) (l : Latch) → LatchFits l → LatchFits (freed offset l)
freed_fits offset l h = choose LatchFits (eqb (byte_of offset) 3) (λ _. omega arith) (λ _. h)

module _ {rate : ℕ} {b : Board} (p : GoodParts rate b) where
  channel-good : (n : ℕ) → GoodTimer (channel_at n b)
  channel-good n = all-get GoodTimer fresh_timer fresh_timer_good n b.timers p.timers

  count_fits : (n : ℕ) → LatchFits (count_latch n b)
  count_fits n = all-get CountFits (record { high = None }) (omega arith) n b.latches.counts p.latches.counts

  count-parts : (n : ℕ) (l : Latch) → LatchFits l → GoodParts rate (with_count_latch n l b)
  count-parts n l h =
      latches-parts p _
      (record {
        four = length-set b.latches.counts n (record { high = l }) ∙ p.latches.four;
        counts = all_set CountFits (record { high = l }) h n b.latches.counts p.latches.counts;
        low = p.latches.low;
        high = p.latches.high;
      })

  seconds-parts : (low high : Latch) → LatchFits low → LatchFits high → GoodParts rate (with_clock_latches low high b)
  seconds-parts low high l h =
      latches-parts p _ (record { four = p.latches.four; counts = p.latches.counts; low = l; high = h })

-- ---- a read

module _ (rate offset : ℕ) where
  abbrev Kept : ByteRead → Type 0
  Kept r = GoodParts rate r.board

  -- by the live register, behind the alarm check
  live-kept : {b : Board} → GoodParts rate b → Kept (read_live offset b)
  unfolding read_live
  live-kept {b} p =
      clock-parts p _
      (subst⁻¹ (λ (n : ℕ). GoodClock rate (check_alarm n b.clock)) p.clock.parts.own
      (check-good rate b.clock p.clock.parts))

  count-high-kept : {b : Board} → GoodParts rate b → Kept (read_count_high offset b)
  unfolding read_count_high
  count-high-kept {b} p =
      let l = count_latch (channel_of offset) b in
      choose Kept (held_of l)
      (λ _. count-parts p (channel_of offset) (freed offset l) (freed_fits offset l (count_fits p (channel_of offset))))
      (λ _. live-kept p)

  channel-kept : {b : Board} → GoodParts rate b → Kept (read_channel offset b)
  unfolding read_channel
  channel-kept {b} p =
      let counter = (channel_at (channel_of offset) b).counter in
      choose Kept (eqb (place_of offset) count_low_at)
      (λ _. live-kept
      (count-parts p (channel_of offset) (Some (high_word counter))
      (high-word counter (channel-good p (channel_of offset)).fits.counter)))
      (λ _. choose Kept (in_register count_high_at (place_of offset)) (λ _. count-high-kept p) (λ _. live-kept p))

  latched-kept : {b : Board} → GoodParts rate b → GoodParts rate (seconds_latched offset b)
  unfolding seconds_latched
  latched-kept {b} p =
      let s = time_seconds (rate_of b.clock) b.clock in
      choose (GoodParts rate) (eqb offset seconds_low_at)
      (λ _. seconds-parts p (Some (low_word s)) (Some (high_word s)) (omega arith)
      (high-word s (seconds_word (rate_of b.clock) b.clock)))
      (λ _. p)

  low-kept : {b : Board} → GoodParts rate b → Kept (read_low offset b)
  unfolding read_low
  low-kept {b} p =
      let ls = b.latches in
      choose Kept (held_of ls.low)
      (λ _. seconds-parts p (freed offset ls.low) ls.high (freed_fits offset ls.low p.latches.low)
      p.latches.high)
      (λ _. live-kept p)

  high-kept : {b : Board} → GoodParts rate b → Kept (read_high offset b)
  unfolding read_high
  high-kept {b} p =
      let ls = b.latches in
      choose Kept (held_of ls.high)
      (λ _. seconds-parts p ls.low (freed offset ls.high) p.latches.low
      (freed_fits offset ls.high p.latches.high))
      (λ _. live-kept p)

  read_kept : {b : Board} → GoodParts rate b → Kept (read_at offset b)
  unfolding read_at
  read_kept p =
      choose Kept (in_register seconds_low_at offset) (λ _. low-kept (latched-kept p))
      (λ _. choose Kept (in_register seconds_high_at offset) (λ _. high-kept p)
      (λ _. choose Kept (in_channels offset) (λ _. channel-kept p)
      (λ _. live-kept p)))

-- ---- a write

cleared_good : (clear : Bool) (h : HardwareTimer) → GoodTimer h → GoodTimer (cleared_by clear h)
cleared_good clear h g = choose GoodTimer clear (λ _. flags-good h g false h.armed) (λ _. g)

-- to the clock, by its own rate
module _ (i v : ℕ) (four : i < 4) (byte : v < 256) (k : Clock) (known : sound_rate (rate_of k) ≡ true)
    (g : GoodClock (rate_of k) k) where
  abbrev P : Clock → Type 0
  P = GoodClock (rate_of k)

  clock-written-good : (register : ℕ) → P (clock_written register i v k)
  unfolding clock_written
  clock-written-good register =
      choose P (eqb register clock_control_at) (λ _. control_good (rate_of k) r i v k g)
      (λ _. choose P (eqb register seconds_low_at)
      (λ _. seconds-good (rate_of k) r (i + 4) v (omega arith) byte k g)
      (λ _. choose P (eqb register seconds_high_at)
      (λ _. seconds-good (rate_of k) r i v (omega arith) byte k g)
      (λ _. choose P (eqb register alarm_low_at)
      (λ _. alarm-bytes-good (rate_of k) r (i + 4) v (omega arith) byte k g)
      (λ _. choose P (eqb register alarm_high_at)
      (λ _. alarm-bytes-good (rate_of k) r i v (omega arith) byte k g)
      (λ _. choose P (eqb register alarm_enable_at) (λ _. enable-good (rate_of k) i v k g)
      (λ _. choose P (eqb register clock_ack_at) (λ _. acknowledge-good (rate_of k) i v k g)
      (λ _. g)))))))
    where
      r : Rate (rate_of k)
      r = three-rate (rate_of k) known

module _ (v : ℕ) (byte : v < 256) (b : Board) (p : GoodParts (rate_of b.clock) b) where
  abbrev Q : Board → Type 0
  Q = GoodParts (rate_of b.clock)

  timer-written-kept : (register i : ℕ) → Q (timer_written register i v b)
  unfolding timer_written
  timer-written-kept register i =
      choose Q (eqb register timer_enable_at)
      (λ _. enable-parts p _ (mod-lt (merge_byte i v b.timer_enable) (omega arith)))
      (λ _. choose Q (eqb register timer_ack_at && eqb i 3)
      (λ _. timers-parts p (acknowledged v b.timers)
      (map-length (λ k h. cleared_by (bit k v) h) 0 b.timers ∙ p.four)
      (map_all GoodTimer (λ k h. cleared_by (bit k v) h) (λ k. cleared_good (bit k v)) 0 b.timers p.timers))
      (λ _. p))

  channel-written-kept : (register i n : ℕ) → Q (with_channel n (byte_written register i v (channel_at n b)) b)
  channel-written-kept register i n =
      let h = byte_written register i v (channel_at n b) in
      timers-parts p _ (length-set b.timers n h ∙ p.four)
      (all_set GoodTimer h (byte-good (channel_at n b) (channel-good p n) register i v byte) n b.timers p.timers)

  written-kept : (offset : ℕ) → Q (written_at offset v b)
  unfolding written_at
  written-kept offset =
      choose Q (in_timers offset) (λ _. timer-written-kept (register_of offset) (byte_of offset))
      (λ _. choose Q (in_clock offset)
      (λ _. clock-parts p _
      (clock-written-good (byte_of offset) v (mod-lt offset (omega arith)) byte b.clock p.known p.clock
      (register_of offset)))
      (λ _. choose Q (in_channels offset)
      (λ _. channel-written-kept (register_of (place_of offset)) (byte_of offset) (channel_of offset))
      (λ _. p)))

-- ---- the calls

pub read_keeps : (address : ℕ) → Keeps (Read address)
read_keeps address rate b f g z = parts-good (read_kept rate (address + base) (good-parts g))

pub write_keeps : (byte address : ℕ) → Keeps (Write byte address)
write_keeps byte address rate b f g z =
    at-rate g (parts-good (written-kept byte f.0 b (own-parts g) (address + base)))

pub call_keeps : (call : Call) → Keeps call
call_keeps (HostTime nanoseconds seconds) =
    host_time_keeps (record { seconds = seconds; nanoseconds = nanoseconds })
call_keeps (Read address) = read_keeps address
call_keeps (Write byte address) = write_keeps byte address
call_keeps (Advance c) = advance_keeps c.0
call_keeps Deadline = deadline_keeps
call_keeps Skip = skip_keeps
call_keeps (Source number level) = source_keeps number level
call_keeps (ControllerRead address) = controller_read_keeps address
call_keeps (ControllerWrite byte address) = controller_write_keeps byte address
call_keeps Output = output_keeps

-- ---- the answer of a direct call

module _ (call : Call) (b : Board) (c : CallFits call) (f : BoardFits b) where
  -- the board is the one given, or a good one of its rate
  answered : (P : Board → Type 0) → P b → ((y : Board) → Good (rate_of b.clock) y → P y) → P (answer_of call b).board
  answered P p q =
      either (sound b) (λ s. q _ (answer-good call (call_keeps call) (rate_of b.clock) b c (good b f s)))
      (λ s. rw (← answer-refused call b NotSound (rw s)) p)

  pub call-sound : sound b ≡ true → sound (answer_of call b).board ≡ true
  call-sound = answer-kept call (call_keeps call) b c f

  pub answer-fits : BoardFits (answer_of call b).board
  answer-fits = answered BoardFits f (λ _ g. g.fits)

  pub answer-rate : rate_of (answer_of call b).board.clock ≡ rate_of b.clock
  answer-rate = answered (λ (y : Board). rate_of y.clock ≡ rate_of b.clock) refl (λ _ g. g.own)
