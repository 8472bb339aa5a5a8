-- A read by its parts is the read of the rules. Assumes nothing.
use Prim.Native.Nat.{ℕ, ◌+◌, ◌<◌}
use native.Mathlib.Omega.{arith}
use mathlib.Core.Path.{◌≡◌, refl, sym, ap, ◌∙◌}
use mathlib.Core.Bool.{Bool, true, false, cond, false≢true}
use mathlib.Core.List.{[], ◌∷◌}
use lib.Dec.{eqb}
use lib.ListN.{get_or}
use lib.Seq.{set-get_or}
use borrow.Author.Tests.{eqb-true, eq-eqb, ne_eqb}
use Rattle.wide.proofs.Choices.{choose, either}
use Rattle.channel.specs.declared.HardwareTimer.{HardwareTimer}
use Rattle.channel.specs.Channel.{fresh_timer}
use Rattle.channel.specs.Registers.{count_low_at, count_high_at}
use Rattle.clock.specs.declared.Clock.{Clock}
use Rattle.clock.specs.Fields.{with_alarm}
use Rattle.clock.specs.Clock.{rate_of, alarm_reached, check_alarm}
use Rattle.board.specs.Fields.{Latch}
use Rattle.std.specs.Prelude.{None}
use Rattle.board.specs.declared.Latches.{Latches}
use Rattle.board.specs.declared.Board.{Board}
use Rattle.board.specs.declared.calls.Call.TheVariants.{Read as ReadCall}
use Rattle.board.specs.Fields.{with_clock, with_latches, count_latch}
use Rattle.board.specs.Board.{held_of, held_value}
use Rattle.board.specs.Registers.{
  base,
  seconds_low_at,
  seconds_high_at,
  channels_at,
  last_of,
  four_bytes,
  in_register,
  channel_blocks,
  in_channels,
  register_of,
  byte_of,
  channel_of,
  place_of,
}
use Rattle.board.specs.RegisterWords.{timer_word, live_word}
use Rattle.regmap.proofs.Ranges.{inside, below, bounds}
use Rattle.registers.specs.declared.reads.LatchedReading.{LatchedReading}
use Rattle.board.specs.RegisterReads.{
  Read,
  read_byte,
  checked,
  read_live,
  freed,
  count_held,
  read_count_high,
  read_channel,
  seconds_latched,
  read_low,
  read_high,
  read_at,
}
use Rattle.board.specs.Calls.{effect_of}
use Rattle.registers.specs.CodeReads.{
  channel_index,
  at_count_low,
  at_count_high,
  with_count,
  with_seconds,
  count_filled,
  filled,
  count_serving,
  serving,
  count_freed,
  latch_freed,
  freed_at,
  word_at,
  live_reading,
  latch_reading,
  reading_by,
  reading_of,
  offset_reading,
  after_reading,
}

-- ---- ranges

-- the bytes of a count's high word
high_place : (p : ℕ) → eqb (register_of p) count_high_at ≡ in_register count_high_at p
high_place p =
    either (in_register count_high_at p)
    (λ e. let w = bounds (four_bytes count_high_at) p e in
    eq-eqb (register_of p) count_high_at (omega (arith, w.0, w.1)) ∙ sym e)
    (λ e. ne_eqb (register_of p) count_high_at
    (λ h. false≢true (sym e ∙ inside (four_bytes count_high_at) p (omega (arith, h)) (omega (arith, h)))) ∙ sym e)

-- the alarm check changes the alarm's two flags alone
check_flags : (k : Clock) →
    with_alarm
    (record {
      enable = k.alarm.enable;
      seconds = k.alarm.seconds;
      pending = (check_alarm (rate_of k) k).alarm.pending;
      armed = (check_alarm (rate_of k) k).alarm.armed;
    })
    k
    ≡ check_alarm (rate_of k) k
unfolding check_alarm
check_flags k =
    choose
    (λ (r : Clock).
    with_alarm
    (record {
      enable = k.alarm.enable;
      seconds = k.alarm.seconds;
      pending = r.alarm.pending;
      armed = r.alarm.armed;
    })
    k
    ≡ r)
    (alarm_reached (rate_of k) k) (λ _. refl) (λ _. refl)

-- ---- a read at an offset

-- what a read gives, by its reading
abbrev given : Board → LatchedReading → Read
given b r = record { board = after_reading r b; byte = r.plain.byte }

cond_given : (b : Board) (v : Bool) (x y : LatchedReading) {p q : Read} → p ≡ given b x → q ≡ given b y →
    cond v p q ≡ given b (cond v x y)
cond_given b true x y e f = e
cond_given b false x y e f = f

module _ (o : ℕ) (b : Board) where
  abbrev timer : HardwareTimer
  timer = get_or b.timers (channel_index o) fresh_timer

  abbrev shared : ℕ
  shared = timer_word (register_of o) b.timer_enable b.timers

  -- the reading by latches that are filled
  abbrev by : Latches → LatchedReading
  by ls = reading_by timer shared b.clock ls o

  abbrev live : Latches → LatchedReading
  live ls = live_reading timer shared (check_alarm (rate_of b.clock) b.clock) b.clock.alarm.pending ls o

  abbrev full : Latches
  full = filled o timer.counter b.clock b.latches

  word-parts : (k : Clock) (ls : Latches) → live_word o (with_clock k (with_latches ls b)) ≡ word_at timer k shared o
  unfolding live_word word_at channel_index
  word-parts k ls = either (in_channels o) (λ e. rw e) (λ e. rw e)

  live-parts : (ls : Latches) →
      read_live o (with_latches ls b) ≡ given b (live ls)
  unfolding read_live
  live-parts ls =
      let k = check_alarm (rate_of b.clock) b.clock in
      ap (λ (w : ℕ). read_byte o w (checked (with_latches ls b))) (word-parts k ls)
      ∙ ap (λ (h : Clock). read_byte o (word_at timer k shared o) (with_clock h (with_latches ls b)))
      (sym (check_flags b.clock))

  -- no latch serves
  read_none : (ls : Latches) → serving o ls ≡ None → read_live o (with_latches ls b) ≡ given b (by ls)
  unfolding reading_by
  read_none ls e = rw e (live-parts ls)

  -- the latch l serves; `after` are the latches after that
  read_by : (ls after : Latches) (l : Latch) → serving o ls ≡ l → after ≡ freed_at o ls →
      cond (held_of l) (read_byte o (held_value l) (with_latches after b)) (read_live o (with_latches ls b))
      ≡ given b (by ls)
  unfolding reading_by
  read_by ls after l e f =
      rw (e, f)
      (cond_given b (held_of l) (latch_reading (held_value l) b.clock ls o) (live ls) refl (live-parts ls))

  -- ---- the clock's seconds

  low-freed : (ls : Latches) → in_register seconds_low_at o ≡ true →
      with_seconds (freed o ls.low) ls.high ls ≡ freed_at o ls
  unfolding freed_at latch_freed
  low-freed ls e = either (eqb (byte_of o) 3) (λ t. rw (t, e)) (λ t. rw t)

  low_parts : (ls : Latches) → in_register seconds_low_at o ≡ true → read_low o (with_latches ls b) ≡ given b (by ls)
  unfolding read_low serving
  low_parts ls e =
      read_by ls (with_seconds (freed o ls.low) ls.high ls) ls.low (rw e) (low-freed ls e)

  -- byte 0 of the low word
  low-filled : in_channels o ≡ false → seconds_latched o b ≡ with_latches full b
  unfolding seconds_latched filled count_filled at_count_low
  low-filled n = either (eqb o seconds_low_at) (λ t. rw t) (λ t. rw (t, n))

  high-freed : (ls : Latches) → in_register seconds_low_at o ≡ false → in_register seconds_high_at o ≡ true →
      with_seconds ls.low (freed o ls.high) ls ≡ freed_at o ls
  unfolding freed_at latch_freed
  high-freed ls d e = either (eqb (byte_of o) 3) (λ t. rw (t, d, e)) (λ t. rw t)

  high_parts : in_register seconds_low_at o ≡ false → in_register seconds_high_at o ≡ true →
      read_high o b ≡ given b (by b.latches)
  unfolding read_high serving
  high_parts d e =
      let ls = b.latches in
      read_by ls (with_seconds ls.low (freed o ls.high) ls) ls.high (rw (d, e)) (high-freed ls d e)

  -- ---- elsewhere

  module _ (d : in_register seconds_low_at o ≡ false) where
    not_low : eqb o seconds_low_at ≡ false
    not_low =
        ne_eqb o seconds_low_at
        (λ h. false≢true (sym d ∙ inside (four_bytes seconds_low_at) o (omega (arith, h)) (omega (arith, h))))

    -- nothing is filled
    none_filled : at_count_low o ≡ false → full ≡ b.latches
    unfolding filled count_filled
    none_filled n = rw (not_low, n)

    module _ (e : in_register seconds_high_at o ≡ false) where
      none-serves : (ls : Latches) → at_count_high o ≡ false → serving o ls ≡ None
      unfolding serving count_serving
      none-serves ls n = rw (d, e, n)

      -- a channel's registers
      module _ (c : in_channels o ≡ true) where
        index : channel_index o ≡ channel_of o
        unfolding channel_index
        index = rw c

        high-at : at_count_high o ≡ in_register count_high_at (place_of o)
        unfolding at_count_high
        high-at = rw c (high_place (place_of o))

        count-filled : eqb (place_of o) count_low_at ≡ true → with_latches full b ≡ count_held (channel_of o) b
        unfolding filled count_filled at_count_low
        count-filled p = rw (not_low, c, p, index)

        count-freed : in_register count_high_at (place_of o) ≡ true →
            with_count (channel_of o) (freed o (count_latch (channel_of o) b)) b.latches ≡ freed_at o b.latches
        unfolding freed_at latch_freed count_freed
        count-freed q =
            either (eqb (byte_of o) 3) (λ t. rw (t, d, e, high-at, q, index))
            (λ t. rw t
            (ap (λ (counts : _). record { counts = counts; low = b.latches.low; high = b.latches.high })
            (set-get_or b.latches.counts (channel_of o) (record { high = None }))))

        count-parts : in_register count_high_at (place_of o) ≡ true → read_count_high o b ≡ given b (by b.latches)
        unfolding read_count_high serving count_serving
        count-parts q =
            read_by b.latches (with_count (channel_of o) (freed o (count_latch (channel_of o) b)) b.latches)
            (count_latch (channel_of o) b) (rw (d, e, high-at, q, index)) (count-freed q)

        not-count : eqb (place_of o) count_low_at ≡ false → at_count_low o ≡ false
        unfolding at_count_low
        not-count p = rw (c, p)

        channel-parts : read_channel o b ≡ given b (by full)
        unfolding read_channel
        channel-parts =
            choose (λ (r : Read). r ≡ given b (by full)) (eqb (place_of o) count_low_at)
            (λ p. let l = eqb-true (place_of o) count_low_at p in
            ap (read_live o) (sym (count-filled p))
            ∙ read_none full
            (none-serves full (high-at ∙ below (four_bytes count_high_at) (place_of o) (omega (arith, l)))))
            (λ p. rw (none_filled (not-count p))
            (choose (λ (r : Read). r ≡ given b (by b.latches)) (in_register count_high_at (place_of o)) count-parts
            (λ q. read_none b.latches (none-serves b.latches (high-at ∙ q)))))

  -- ---- every offset

  outside_low : in_channels o ≡ false → at_count_low o ≡ false
  unfolding at_count_low
  outside_low n = rw n

  outside_high : in_channels o ≡ false → at_count_high o ≡ false
  unfolding at_count_high
  outside_high n = rw n

  before-channels : (register : ℕ) → last_of register < channels_at → in_register register o ≡ true →
      in_channels o ≡ false
  before-channels register p e = below channel_blocks o (omega (arith, p, (bounds (four_bytes register) o e).1))

  read-at-parts : read_at o b ≡ given b (offset_reading o b)
  unfolding read_at reading_of
  read-at-parts =
      choose P (in_register seconds_low_at o)
      (λ d. ap (read_low o) (low-filled (before-channels seconds_low_at (omega arith) d)) ∙ low_parts full d)
      (λ d. choose P (in_register seconds_high_at o)
      (λ e. high_parts d e ∙ sym (kept d (outside_low (before-channels seconds_high_at (omega arith) e))))
      (λ e. choose P (in_channels o) (λ c. channel-parts d e c)
      (λ n. read_none b.latches (none-serves d e b.latches (outside_high n)) ∙ sym (kept d (outside_low n)))))
    where
      P : Read → Type 0
      P r = r ≡ given b (by full)

      kept : in_register seconds_low_at o ≡ false → at_count_low o ≡ false → given b (by full) ≡ given b (by b.latches)
      kept d n = ap (λ (ls : Latches). given b (by ls)) (none_filled d n)

-- the call
pub read_parts : (address : ℕ) (b : Board) →
    ((effect_of (ReadCall address) b).board ≡ after_reading (offset_reading (address + base) b) b)
    × ((effect_of (ReadCall address) b).members ≡ (offset_reading (address + base) b).plain.byte ∷ [])
read_parts address b =
    let e = read-at-parts (address + base) b in
    (ap (λ (r : Read). r.board) e, ap (λ (r : Read). r.byte ∷ []) e)
