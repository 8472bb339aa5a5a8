-- A read by the latches as they are before it. Byte 0 of the clock's low seconds is read from the word that it
-- latches. At every other offset the latch that serves is the one before the read: byte 0 of a count's low word fills
-- the latch of its high word, which serves other offsets. At a channel's register other than its count no latch has a
-- part. Assumes nothing.
use Prim.Native.Nat.{ℕ}
use native.Mathlib.Omega.{arith}
use mathlib.Core.Path.{◌≡◌, refl, sym, ap, ◌∙◌}
use mathlib.Core.Bool.{true, false, not, ◌&&◌, false≢true, beq}
use lib.Dec.{eqb}
use borrow.Author.Tests.{eqb-true, eqb-false, ne_eqb, not-true}
use Rattle.wide.specs.Words.{low_word, high_word}
use Rattle.wide.proofs.Choices.{choose, and_parts}
use Rattle.channel.specs.declared.HardwareTimer.{HardwareTimer}
use Rattle.channel.specs.Registers.{count_low_at, count_high_at, word_of}
use Rattle.clock.specs.declared.Clock.{Clock}
use Rattle.clock.specs.Clock.{rate_of, time_seconds, check_alarm}
use Rattle.std.specs.Prelude.{None, Some}
use Rattle.board.specs.declared.Latches.{Latches}
use Rattle.board.specs.declared.Board.{Board}
use Rattle.board.specs.Fields.{channel_at}
use Rattle.board.specs.Board.{held_of}
use Rattle.board.specs.Registers.{
  seconds_low_at,
  Inside,
  timer_block,
  clock_block,
  channel_blocks,
  in_channels,
  register_of,
  byte_of,
  place_of,
  byte_of_word,
}
use Rattle.board.specs.RegisterWords.{timer_word}
use Rattle.regmap.proofs.Ranges.{above, bounds, after-seconds}
use Rattle.registers.specs.declared.reads.LatchedReading.{LatchedReading}
use Rattle.registers.specs.CodeReads.{
  channel_index,
  at_count_low,
  at_count_high,
  with_seconds,
  count_filled,
  filled,
  count_serving,
  serving,
  freed_at,
  word_at,
  live_reading,
  latch_reading,
  reading_by,
  reading_of,
  offset_reading,
  plain_at,
}

-- ---- a count's low word and its high word are different places

-- no latch serves byte 0 of a count's low word
low_unserved : (o : ℕ) (ls : Latches) → at_count_low o ≡ true → serving o ls ≡ None
unfolding at_count_low at_count_high count_serving serving
low_unserved o ls e =
    let p = and_parts (in_channels o) (eqb (place_of o) count_low_at) e in
    let t = after-seconds o (omega (arith, (bounds channel_blocks o p.0).0)) in
    rw (t.0, t.1, p.0, eqb-true (place_of o) count_low_at p.1)

module _ (o counter : ℕ) (ls : Latches) where
  -- the latch that serves is the one before
  filled-serves : serving o (count_filled o counter ls) ≡ serving o ls
  unfolding count_filled
  filled-serves =
      choose (λ (x : Latches). serving o x ≡ serving o ls) (at_count_low o)
      (λ e. low_unserved o _ e ∙ sym (low_unserved o ls e)) (λ _. refl)

  -- where one serves, none is filled
  filled-held : (word : ℕ) → serving o ls ≡ Some word → count_filled o counter ls ≡ ls
  unfolding count_filled
  filled-held word s =
      choose (λ (x : Latches). x ≡ ls) (at_count_low o)
      (λ e. absurd (false≢true (ap held_of (sym (low_unserved o ls e) ∙ s)))) (λ _. refl)

-- ---- the reading

module _ (h : HardwareTimer) (shared : ℕ) (k : Clock) (ls : Latches) (o : ℕ) where
  -- byte 0 of the clock's low seconds
  pub by-seconds : o ≡ seconds_low_at →
      reading_of h shared k ls o
      ≡ record {
        latches =
            with_seconds (Some (low_word (time_seconds (rate_of k) k)))
            (Some (high_word (time_seconds (rate_of k) k))) ls;
        plain =
            record {
              byte = byte_of_word 0 (low_word (time_seconds (rate_of k) k));
              pending = k.alarm.pending;
              armed = k.alarm.armed;
              rose = false;
            };
      }
  unfolding reading_of reading_by filled serving freed_at
  by-seconds e = rw e

  module _ (n : eqb o seconds_low_at ≡ false) where
    -- a latch serves
    pub by-latch : (word : ℕ) → serving o ls ≡ Some word → reading_of h shared k ls o ≡ latch_reading word k ls o
    unfolding reading_of reading_by filled
    by-latch word s = rw (n, filled-held o h.counter ls word s, s)

    -- no latch serves
    pub by_register : serving o ls ≡ None →
        reading_of h shared k ls o
        ≡ live_reading h shared (check_alarm (rate_of k) k) k.alarm.pending (count_filled o h.counter ls) o
    unfolding reading_of reading_by filled
    by_register s = rw (n, filled-serves o h.counter ls, s)

-- ---- a channel's register that no latch has to do with

module _ (o : ℕ) (p : plain_at o ≡ true) where
  plain_in : in_channels o ≡ true
  unfolding plain_at
  plain_in = (and_parts (in_channels o) _ p).0

  pub plain-range : Inside channel_blocks o
  plain-range = bounds channel_blocks o plain_in

  -- neither word of a count
  plain-not : (eqb (register_of (place_of o)) count_low_at ≡ false)
      × (eqb (register_of (place_of o)) count_high_at ≡ false)
  unfolding plain_at
  plain-not =
      let low = eqb (register_of (place_of o)) count_low_at in
      let high = eqb (register_of (place_of o)) count_high_at in
      let t = and_parts (not low) (not high) (and_parts (in_channels o) (not low && not high) p).1 in
      (not-true low t.0, not-true high t.1)

  plain-unserved : (ls : Latches) → serving o ls ≡ None
  unfolding serving count_serving at_count_high
  plain-unserved ls =
      let t = after-seconds o (omega (arith, plain-range.0)) in
      rw (t.0, t.1, plain_in, plain-not.1)

  plain-unfilled : (counter : ℕ) (ls : Latches) → count_filled o counter ls ≡ ls
  unfolding count_filled at_count_low
  plain-unfilled counter ls =
      let n = eqb-false (register_of (place_of o)) count_low_at plain-not.0 in
      rw (plain_in, ne_eqb (place_of o) count_low_at (λ h. n (omega (arith, h))))

  -- the register is read live, of the channel alone, and the latches stay
  pub plain-reading : (b : Board) →
      offset_reading o b
      ≡ record {
        latches = b.latches;
        plain =
            record {
              byte = byte_of_word (byte_of o) (word_of (register_of (place_of o)) (channel_at (channel_index o) b));
              pending = (check_alarm (rate_of b.clock) b.clock).alarm.pending;
              armed = (check_alarm (rate_of b.clock) b.clock).alarm.armed;
              rose = not (beq (check_alarm (rate_of b.clock) b.clock).alarm.pending b.clock.alarm.pending);
            };
      }
  unfolding word_at
  plain-reading b =
      let first = plain-range.0 in
      let h = channel_at (channel_index o) b in
      by_register h (timer_word (register_of o) b.timer_enable b.timers) b.clock b.latches o
      (ne_eqb o seconds_low_at (λ e. omega (arith, first, e))) (plain-unserved b.latches)
      ∙ rw (
        plain-unfilled h.counter b.latches,
        above timer_block o (omega (arith, first)),
        above clock_block o (omega (arith, first)),
        plain_in,
      )

  pub plain-latches : (b : Board) → (offset_reading o b).latches ≡ b.latches
  plain-latches b = ap (λ (r : LatchedReading). r.latches) (plain-reading b)
