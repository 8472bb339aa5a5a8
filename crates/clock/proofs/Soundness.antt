-- A good clock, which has the given rate, is sound at it and of which each field is within its width, and that every
-- operation keeps it good, at any rate that is a multiple of 1,000. Sound is document 01's term. Assumes nothing.
use Prim.Native.Nat.{ℕ, ◌+◌, ◌-◌, ◌*◌, ◌/◌, ◌%◌, ◌^◌, ◌≤◌, ◌<◌, min}
use mathlib.Core.Path.{◌≡◌, refl, sym, ◌∙◌}
use mathlib.Core.Bool.{Bool, true, false, not, ◌&&◌, ◌||◌, false≢true}
use native.Mathlib.Nat.{mod-lt}
use native.Mathlib.Omega.{arith}
use lib.Arith.{digits_div}
use lib.Dec.{leb, ltb, eqb}
use borrow.Author.Tests.{ltb-true, leb-false, lt-ltb, eqb-true, eqb-false, eq-eqb, not-true}
use Rattle.wide.proofs.BigEndian.{with_byte_fits}
use Rattle.wide.proofs.Choices.{choose, either, and_parts, and_join}
use Rattle.wide.specs.Bits.{bit}
use Rattle.wide.specs.Number.{largest}
use Rattle.clock.specs.declared.Offset.{Offset}
use Rattle.clock.specs.declared.Alarm.{Alarm}
use Rattle.clock.specs.declared.Shadow.{Shadow}
use Rattle.clock.specs.declared.HostTime.{HostTime}
use Rattle.clock.specs.declared.Clock.{Clock}
use Rattle.clock.specs.Clock.{
  rate_of,
  nanos_per_second,
  poll_limit,
  set_enabled,
  from_host,
  own_time,
  in_nanoseconds,
  host_nanoseconds,
  own_nanoseconds,
  time_of,
  time_seconds,
  fired,
  alarm_reached,
  check_alarm,
  moved_time,
  polls,
  end_advance,
  advance_clock,
}
use Rattle.clock.specs.Fields.{
  with_control,
  with_time,
  with_offset,
  with_alarm,
  with_shadow,
  with_poll,
  with_alarm_shadow,
  with_host,
  fresh_clock_at,
}
use Rattle.clock.specs.Registers.{
  merge_byte,
  signed_difference,
  own_time_set,
  time_kept,
  change_control,
  write_control,
  marked,
  shadow_byte,
  complete,
  unmarked,
  offset_for,
  commit_seconds,
  write_seconds,
  armed_at,
  commit_alarm,
  write_alarm,
  with_enable,
  write_alarm_enable,
  cleared,
  acknowledge,
}
use Rattle.clock.specs.Sound.{
  ClockFits,
  sound_rate,
  sound_offset,
  sound_alarm,
  sound_shadow,
  sound_host,
  sound_fields,
  alarm_ahead,
  sound_clock,
  Timed,
}
use Rattle.clock.proofs.Durations.{nanos_below}
use Rattle.clock.proofs.Cases.{moved-cases, kept-cases}
use Rattle.clock.proofs.Tests.{own_enabled, own_host, polls_host, not-reached}
use Rattle.clock.proofs.Marks.{marked_fits}
use Rattle.clock.proofs.Ranges.{signed_small}
use Rattle.clock.proofs.Rate.{Rate, limit_positive}

-- ---- the facts

pub record OffsetSound (o : Offset) : Type 0 where
  pub word : o.seconds < 2 ^ 64
  pub small : o.nanoseconds < nanos_per_second
  pub signed : o.negative ≡ true → o.seconds ≡ 0 → o.nanoseconds ≡ 0 → ⊥

pub record AlarmSound (a : Alarm) : Type 0 where
  pub word : a.seconds < 2 ^ 64
  pub enable : a.enable < 2
  pub once : a.pending ≡ true → a.armed ≡ false

pub record ShadowSound (s : Shadow) : Type 0 where
  pub word : s.value < 2 ^ 64
  pub mask : s.mask < 255

pub record HostSound (t : HostTime) : Type 0 where
  pub word : t.seconds < 2 ^ 64
  pub small : t.nanoseconds < nanos_per_second

-- the rate, all clauses but the last, and that words are words
pub record Parts (rate : ℕ) (k : Clock) : Type 0 where
  pub own : rate_of k ≡ rate
  pub control : k.control < 8
  pub seconds : k.seconds < 2 ^ 64
  pub subsecond : k.subsecond < rate
  pub offset : OffsetSound k.offset
  pub alarm : AlarmSound k.alarm
  pub shadow : ShadowSound k.shadow
  pub poll : k.poll < poll_limit rate
  pub alarm_shadow : ShadowSound k.alarm_shadow
  pub host : HostSound k.host

pub record GoodClock (rate : ℕ) (k : Clock) : Type 0 where
  pub parts : Parts rate k
  pub ahead : k.alarm.armed ≡ true → own_time k.control ≡ true → k.seconds < k.alarm.seconds

-- ---- the facts and the rule say the same

-- no negative zero
zero_sign : Offset → Bool
zero_sign o = o.negative && (eqb o.seconds 0 && eqb o.nanoseconds 0)

offset_facts : (o : Offset) → o.seconds < 2 ^ 64 → sound_offset o ≡ true → OffsetSound o
unfolding sound_offset zero_sign
offset_facts o w e =
    let s = and_parts (ltb o.nanoseconds nanos_per_second) (not (zero_sign o)) e in
    record {
      word = w;
      small = ltb-true o.nanoseconds nanos_per_second s.0;
      signed = λ n x y. false≢true (rw (n, eq-eqb o.seconds 0 x, eq-eqb o.nanoseconds 0 y) at s.1);
    }

offset_sound : (o : Offset) → OffsetSound o → sound_offset o ≡ true
unfolding sound_offset zero_sign
offset_sound o h =
    and_join (ltb o.nanoseconds nanos_per_second) (not (zero_sign o))
    (lt-ltb o.nanoseconds nanos_per_second h.small)
    (either o.negative
    (λ n. either (eqb o.seconds 0)
    (λ x. either (eqb o.nanoseconds 0)
    (λ y. absurd (h.signed n (eqb-true o.seconds 0 x) (eqb-true o.nanoseconds 0 y)))
    (λ y. rw (n, x, y)))
    (λ x. rw (n, x)))
    (λ n. rw n))

alarm_facts : (a : Alarm) → a.seconds < 2 ^ 64 → sound_alarm a ≡ true → AlarmSound a
unfolding sound_alarm
alarm_facts a w e =
    let s = and_parts (ltb a.enable 2) (not (a.pending && a.armed)) e in
    record { word = w; enable = ltb-true a.enable 2 s.0; once = λ h. not-true a.armed (rw h at s.1) }

alarm_sound : (a : Alarm) → AlarmSound a → sound_alarm a ≡ true
unfolding sound_alarm
alarm_sound a h =
    and_join (ltb a.enable 2) (not (a.pending && a.armed)) (lt-ltb a.enable 2 h.enable)
    (either a.pending (λ e. rw (e, h.once e)) (λ e. rw e))

-- eight clauses, taken apart and joined
module _ (a b c d e f g h : Bool) where
  eight : (a && (b && (c && (d && (e && (f && (g && h))))))) ≡ true →
      (a ≡ true) × ((b ≡ true) × ((c ≡ true) × ((d ≡ true) × ((e ≡ true) × ((f ≡ true) × ((g ≡ true) × (h ≡ true)))))))
  eight t =
      let t₁ = and_parts a (b && (c && (d && (e && (f && (g && h)))))) t in
      let t₂ = and_parts b (c && (d && (e && (f && (g && h))))) t₁.1 in
      let t₃ = and_parts c (d && (e && (f && (g && h)))) t₂.1 in
      let t₄ = and_parts d (e && (f && (g && h))) t₃.1 in
      let t₅ = and_parts e (f && (g && h)) t₄.1 in
      let t₆ = and_parts f (g && h) t₅.1 in
      (t₁.0, (t₂.0, (t₃.0, (t₄.0, (t₅.0, (t₆.0, and_parts g h t₆.1))))))

  eight-join : a ≡ true → b ≡ true → c ≡ true → d ≡ true → e ≡ true → f ≡ true → g ≡ true → h ≡ true →
      (a && (b && (c && (d && (e && (f && (g && h))))))) ≡ true
  eight-join p q r s t u v w = rw (p, q, r, s, t, u, v, w)

-- a clause with a condition
implied : (a b c : Bool) → (not (a && b) || c) ≡ true → a ≡ true → b ≡ true → c ≡ true
implied a b c e p q = rw (p, q) at e

implies : (a b c : Bool) → (a ≡ true → b ≡ true → c ≡ true) → (not (a && b) || c) ≡ true
implies true true c h = h refl refl
implies true false c h = refl
implies false b c h = refl

module _ (rate : ℕ) (k : Clock) where
  parts-facts : ClockFits k → rate_of k ≡ rate → sound_fields rate k ≡ true → Parts rate k
  unfolding sound_fields
  parts-facts f own t =
      let (a, (b, (c, (d, (e, (m, (n, h))))))) =
      eight (ltb k.control 8) (ltb k.subsecond rate) (sound_offset k.offset) (sound_alarm k.alarm)
      (sound_shadow k.shadow) (ltb k.poll (poll_limit rate)) (sound_shadow k.alarm_shadow)
      (sound_host k.host) t in
      record {
        own = own;
        control = ltb-true k.control 8 a;
        seconds = f.seconds;
        subsecond = ltb-true k.subsecond rate b;
        offset = offset_facts k.offset f.offset c;
        alarm = alarm_facts k.alarm f.alarm d;
        shadow = record { word = f.shadow; mask = ltb-true k.shadow.mask 255 e };
        poll = ltb-true k.poll (poll_limit rate) m;
        alarm_shadow = record { word = f.alarm_shadow; mask = ltb-true k.alarm_shadow.mask 255 n };
        host = record { word = f.host; small = ltb-true k.host.nanoseconds nanos_per_second h };
      }

  parts-sound : Parts rate k → sound_fields rate k ≡ true
  unfolding sound_fields
  parts-sound p =
      eight-join (ltb k.control 8) (ltb k.subsecond rate) (sound_offset k.offset) (sound_alarm k.alarm)
      (sound_shadow k.shadow) (ltb k.poll (poll_limit rate)) (sound_shadow k.alarm_shadow)
      (sound_host k.host)
      (lt-ltb k.control 8 p.control) (lt-ltb k.subsecond rate p.subsecond)
      (offset_sound k.offset p.offset) (alarm_sound k.alarm p.alarm)
      (lt-ltb k.shadow.mask 255 p.shadow.mask) (lt-ltb k.poll (poll_limit rate) p.poll)
      (lt-ltb k.alarm_shadow.mask 255 p.alarm_shadow.mask)
      (lt-ltb k.host.nanoseconds nanos_per_second p.host.small)

  pub clock-good : ClockFits k → rate_of k ≡ rate → sound_clock rate k ≡ true → GoodClock rate k
  unfolding sound_clock alarm_ahead
  clock-good f own e =
      let s = and_parts (sound_fields rate k) (alarm_ahead k) e in
      let l = implied k.alarm.armed (own_time k.control) (ltb k.seconds k.alarm.seconds) s.1 in
      record { parts = parts-facts f own s.0; ahead = λ x y. ltb-true k.seconds k.alarm.seconds (l x y) }

  pub clock-sound : GoodClock rate k → sound_clock rate k ≡ true
  unfolding sound_clock alarm_ahead
  clock-sound s =
      and_join (sound_fields rate k) (alarm_ahead k) (parts-sound s.parts)
      (implies k.alarm.armed (own_time k.control) (ltb k.seconds k.alarm.seconds)
      (λ x y. lt-ltb k.seconds k.alarm.seconds (s.ahead x y)))

  -- what reading the time asks
  pub clock-timed : sound_rate rate ≡ true → GoodClock rate k → Timed rate k
  clock-timed e s = record {
    own = s.parts.own;
    known = e;
    subsecond = s.parts.subsecond;
    offset = s.parts.offset.small;
    host = s.parts.host.small;
  }

  -- and what the types say
  pub clock_fits : GoodClock rate k → ClockFits k
  clock_fits s =
      record {
        seconds = s.parts.seconds;
        offset = s.parts.offset.word;
        alarm = s.parts.alarm.word;
        shadow = s.parts.shadow.word;
        alarm_shadow = s.parts.alarm_shadow.word;
        host = s.parts.host.word;
      }

-- ---- one part changed

module _ {rate : ℕ} {k : Clock} where
  -- the parts in their order
  made : rate_of k ≡ rate → k.control < 8 → k.seconds < 2 ^ 64 → k.subsecond < rate → OffsetSound k.offset →
      AlarmSound k.alarm → ShadowSound k.shadow → k.poll < poll_limit rate → ShadowSound k.alarm_shadow →
      HostSound k.host → Parts rate k
  made r c s u o a x n y t =
      record {
        own = r;
        control = c;
        seconds = s;
        subsecond = u;
        offset = o;
        alarm = a;
        shadow = x;
        poll = n;
        alarm_shadow = y;
        host = t;
      }

module _ {rate : ℕ} {k : Clock} (p : Parts rate k) where
  control-parts : (n : ℕ) → n < 8 → Parts rate (with_control n k)
  control-parts n h =
      made p.own h p.seconds p.subsecond p.offset p.alarm p.shadow p.poll p.alarm_shadow
      p.host

  time-parts : (s u : ℕ) → s < 2 ^ 64 → u < rate → Parts rate (with_time s u k)
  time-parts s u h l =
      made p.own p.control h l p.offset p.alarm p.shadow p.poll p.alarm_shadow p.host

  offset-parts : (o : Offset) → OffsetSound o → Parts rate (with_offset o k)
  offset-parts o h =
      made p.own p.control p.seconds p.subsecond h p.alarm p.shadow p.poll p.alarm_shadow
      p.host

  alarm-parts : (a : Alarm) → AlarmSound a → Parts rate (with_alarm a k)
  alarm-parts a h =
      made p.own p.control p.seconds p.subsecond p.offset h p.shadow p.poll p.alarm_shadow
      p.host

  shadow-parts : (s : Shadow) → ShadowSound s → Parts rate (with_shadow s k)
  shadow-parts s h =
      made p.own p.control p.seconds p.subsecond p.offset p.alarm h p.poll p.alarm_shadow
      p.host

  poll-parts : (n : ℕ) → n < poll_limit rate → Parts rate (with_poll n k)
  poll-parts n h =
      made p.own p.control p.seconds p.subsecond p.offset p.alarm p.shadow h p.alarm_shadow
      p.host

  alarm-shadow-parts : (s : Shadow) → ShadowSound s → Parts rate (with_alarm_shadow s k)
  alarm-shadow-parts s h =
      made p.own p.control p.seconds p.subsecond p.offset p.alarm p.shadow p.poll h p.host

  host-parts : (t : HostTime) → HostSound t → Parts rate (with_host t k)
  host-parts t h =
      made p.own p.control p.seconds p.subsecond p.offset p.alarm p.shadow p.poll
      p.alarm_shadow h

-- ---- the alarm check makes a clock good whose other clauses hold

-- the seconds of the own time are the clock's
own_seconds : (rate s u : ℕ) → u < rate → s < 2 ^ 64 →
    min (in_nanoseconds s (u * nanos_per_second / rate) / nanos_per_second) largest ≡ s
own_seconds rate s u h w = rw (digits_div s (nanos_below rate u h)) (omega arith)

pub own_time_seconds : (rate : ℕ) (k : Clock) → k.subsecond < rate → k.seconds < 2 ^ 64 →
    from_host k.control ≡ false → time_seconds rate k ≡ k.seconds
unfolding time_seconds time_of own_nanoseconds
own_time_seconds rate k h w e = rw e (own_seconds rate k.seconds k.subsecond h w)

module _ (rate : ℕ) (k : Clock) (p : Parts rate k) where
  stays-ahead : alarm_reached rate k ≡ false → k.alarm.armed ≡ true → own_time k.control ≡ true →
      k.seconds < k.alarm.seconds
  stays-ahead e a o =
      let h : k.alarm.pending ≡ false =
      either k.alarm.pending (λ h. absurd (false≢true (sym (p.alarm.once h) ∙ a))) (λ h. h) in
      rw (own_time_seconds rate k p.subsecond p.seconds (own_host k.control o)) at
      (not-reached rate k e (own_enabled k.control o) a h)

  fired-sound : AlarmSound (fired k.alarm)
  fired-sound = record { word = p.alarm.word; enable = p.alarm.enable; once = λ _. refl }

  pub check-good : GoodClock rate (check_alarm rate k)
  unfolding check_alarm
  check-good =
      choose (GoodClock rate) (alarm_reached rate k)
      (λ _. record { parts = alarm-parts p (fired k.alarm) fired-sound; ahead = λ a. absurd (false≢true a) })
      (λ e. record { parts = p; ahead = stays-ahead e })

-- ---- an advance

module _ (rate : ℕ) (r : Rate rate) (c : ℕ) (k : Clock) where
  moved-parts : Parts rate k → Parts rate (moved_time rate c k)
  moved-parts p =
      moved-cases (Parts rate) rate k c (λ _. time-parts p largest 0 (omega arith) r.positive)
      (λ h. time-parts p (k.seconds + (k.subsecond + c) / rate) ((k.subsecond + c) % rate) (word h)
      (mod-lt (k.subsecond + c) r.positive))
      (λ _. p)
    where
      word : (k.subsecond + c) / rate ≤ largest - k.seconds → k.seconds + (k.subsecond + c) / rate < 2 ^ 64
      word h = let w = p.seconds in omega arith

  end-good : Parts rate k → GoodClock rate (end_advance rate c k)
  unfolding end_advance
  end-good p =
      choose (GoodClock rate) (polls c k)
      (λ e. choose (GoodClock rate) (leb (poll_limit rate) (k.poll + c))
      (λ _. checked ((k.poll + c) % poll_limit rate) (mod-lt (k.poll + c) (limit_positive rate r)))
      (λ l. record {
        parts = poll-parts p (k.poll + c) (leb-false (poll_limit rate) (k.poll + c) l);
        ahead = λ _ o. absurd (false≢true (sym (own_host k.control o) ∙ polls_host c k e));
      }))
      (λ _. checked 0 (limit_positive rate r))
    where
      checked : (n : ℕ) → n < poll_limit rate → GoodClock rate (check_alarm rate (with_poll n k))
      checked n h = check-good rate (with_poll n k) (poll-parts p n h)

pub advance_good : (rate : ℕ) → Rate rate → (c : ℕ) (k : Clock) → GoodClock rate k →
    GoodClock rate (advance_clock rate c k)
unfolding advance_clock
advance_good rate r c k s = end-good rate r c (moved_time rate c k) (moved-parts rate r c k s.parts)

-- ---- host time

pub host_good : (rate : ℕ) (t : HostTime) (k : Clock) → HostSound t → GoodClock rate k → GoodClock rate (with_host t k)
host_good rate t k h s = record { parts = host-parts s.parts t h; ahead = s.ahead }

-- ---- control

-- the difference of two times below 2^64 seconds is so too, and no negative zero
signed_sound : (a b : ℕ) → a < 2 ^ 64 * nanos_per_second → b < 2 ^ 64 * nanos_per_second →
    OffsetSound (signed_difference a b)
unfolding signed_difference
signed_sound a b l m = record {
  word = choose (λ (n : ℕ). n / nanos_per_second < 2 ^ 64) (ltb a b) (λ _. omega arith) (λ _. omega arith);
  small = signed_small a b;
  signed = λ n x y. apart (ltb-true a b n) (rw n at x) (rw n at y);
}
  where
    apart : a < b → (b - a) / nanos_per_second ≡ 0 → (b - a) % nanos_per_second ≡ 0 → ⊥
    apart h x y = omega arith

time_below : (s n : ℕ) → s < 2 ^ 64 → n < nanos_per_second → in_nanoseconds s n < 2 ^ 64 * nanos_per_second
time_below s n p q = omega arith

module _ (rate : ℕ) (r : Rate rate) (k : Clock) (p : Parts rate k) where
  -- an offset from host time
  signed_parts : (a : ℕ) → a < 2 ^ 64 * nanos_per_second →
      Parts rate (with_offset (signed_difference a (host_nanoseconds k.host)) k)
  signed_parts a l =
      offset-parts p (signed_difference a (host_nanoseconds k.host))
      (signed_sound a (host_nanoseconds k.host) l
      (time_below k.host.seconds k.host.nanoseconds p.host.word p.host.small))

  own_below : from_host k.control ≡ false → time_of rate k < 2 ^ 64 * nanos_per_second
  unfolding time_of own_nanoseconds
  own_below e =
      rw e
      (time_below k.seconds (k.subsecond * nanos_per_second / rate) p.seconds
      (nanos_below rate k.subsecond p.subsecond))

  set-parts : (s u : ℕ) → s < 2 ^ 64 → u < rate → Parts rate (own_time_set s u k)
  set-parts s u h l =
      shadow-parts (time-parts p s u h l) (record { value = s; mask = k.shadow.mask })
      (record { word = h; mask = p.shadow.mask })

  change-good : (new : ℕ) → new < 8 → GoodClock rate (change_control rate new k)
  unfolding change_control
  change-good new h =
      check-good rate (with_control new (time_kept rate new k))
      (control-parts
      (kept-cases (Parts rate) rate k r.positive set-parts (λ e. signed_parts (time_of rate k) (own_below e)) p new)
      new h)

pub control_good : (rate : ℕ) → Rate rate → (i v : ℕ) (k : Clock) → GoodClock rate k →
    GoodClock rate (write_control rate i v k)
unfolding write_control
control_good rate r i v k s =
    change-good rate r k s.parts (merge_byte i v k.control % 8)
    (mod-lt (merge_byte i v k.control) (omega arith))

-- ---- seconds and alarm

module _ (i v : ℕ) (h : i < 8) (b : v < 256) (s : Shadow) (t : ShadowSound s) where
  byte_word : (shadow_byte i v s).value < 2 ^ 64
  unfolding shadow_byte
  byte_word = with_byte_fits 8 (7 - i) v s.value (omega arith) b t.word

  -- a byte that does not complete the shadow
  byte-sound : complete (shadow_byte i v s) ≡ false → ShadowSound (shadow_byte i v s)
  unfolding shadow_byte
  byte-sound e = record {
    word = byte_word;
    mask = below (marked i s.mask) (marked_fits i s.mask h mask) (eqb-false (marked i s.mask) 255 e);
  }
    where
      mask : s.mask < 256
      mask = let m = t.mask in omega arith

      below : (n : ℕ) → n < 256 → (n ≡ 255 → ⊥) → n < 255
      below n l d = omega arith

  -- one that does
  unmarked-sound : ShadowSound (unmarked (shadow_byte i v s))
  unmarked-sound = record { word = byte_word; mask = omega arith }

module _ (rate : ℕ) (r : Rate rate) (i v : ℕ) (h : i < 8) (b : v < 256) (k : Clock) (s : GoodClock rate k) where
  p : Parts rate k
  p = s.parts

  pub seconds-good : GoodClock rate (write_seconds rate i v k)
  unfolding write_seconds commit_seconds offset_for p
  seconds-good =
      choose (GoodClock rate) (set_enabled k.control)
      (λ _. choose (GoodClock rate) (complete n)
      (λ _. check-good rate (with_shadow (unmarked n) (with_time n.value 0 (offset_for n.value k)))
      (shadow-parts (time-parts kept n.value 0 word r.positive) (unmarked n)
      (unmarked-sound i v h b k.shadow p.shadow)))
      (λ e. record { parts = shadow-parts p n (byte-sound i v h b k.shadow p.shadow e); ahead = s.ahead }))
      (λ _. s)
    where
      n : Shadow
      n = shadow_byte i v k.shadow

      word : n.value < 2 ^ 64
      word = byte_word i v h b k.shadow p.shadow

      kept : Parts rate (offset_for n.value k)
      kept =
          choose (Parts rate) (from_host k.control)
          (λ _. signed_parts rate r k p (n.value * nanos_per_second) (let w = word in omega arith)) (λ _. p)

  pub alarm-bytes-good : GoodClock rate (write_alarm rate i v k)
  unfolding write_alarm commit_alarm p
  alarm-bytes-good =
      choose (GoodClock rate) (complete n)
      (λ _. check-good rate (with_alarm_shadow (unmarked n) (with_alarm (armed_at n.value k.alarm) k))
      (alarm-shadow-parts (alarm-parts p (armed_at n.value k.alarm) armed) (unmarked n)
      (unmarked-sound i v h b k.alarm_shadow p.alarm_shadow)))
      (λ e. record {
        parts = alarm-shadow-parts p n (byte-sound i v h b k.alarm_shadow p.alarm_shadow e);
        ahead = s.ahead;
      })
    where
      n : Shadow
      n = shadow_byte i v k.alarm_shadow

      armed : AlarmSound (armed_at n.value k.alarm)
      armed = record {
        word = byte_word i v h b k.alarm_shadow p.alarm_shadow;
        enable = p.alarm.enable;
        once = λ e. absurd (false≢true e);
      }

-- ---- the alarm's interrupt

module _ (rate i v : ℕ) (k : Clock) (s : GoodClock rate k) where
  a : AlarmSound k.alarm
  a = s.parts.alarm

  enabled-sound : AlarmSound (with_enable (merge_byte i v k.alarm.enable % 2) k.alarm)
  enabled-sound = record {
    word = a.word;
    enable = mod-lt (merge_byte i v k.alarm.enable) (omega arith);
    once = a.once;
  }

  pub enable-good : GoodClock rate (write_alarm_enable i v k)
  unfolding write_alarm_enable
  enable-good = record { parts = alarm-parts s.parts _ enabled-sound; ahead = s.ahead }

  cleared-sound : AlarmSound (cleared k.alarm)
  cleared-sound = record { word = a.word; enable = a.enable; once = λ e. absurd (false≢true e) }

  pub acknowledge-good : GoodClock rate (acknowledge i v k)
  unfolding acknowledge
  acknowledge-good =
      choose (GoodClock rate) (eqb i 3 && bit 0 v)
      (λ _. record { parts = alarm-parts s.parts (cleared k.alarm) cleared-sound; ahead = s.ahead })
      (λ _. s)

-- ---- the fresh clock

pub fresh_clock_good : (rate : ℕ) → Rate rate → GoodClock rate (fresh_clock_at rate)
fresh_clock_good rate r = record {
  parts = record {
    own = refl;
    control = omega arith;
    seconds = omega arith;
    subsecond = r.positive;
    offset = record { word = omega arith; small = omega arith; signed = λ e _ _. false≢true e };
    alarm = record { word = omega arith; enable = omega arith; once = λ _. refl };
    shadow = record { word = omega arith; mask = omega arith };
    poll = limit_positive rate r;
    alarm_shadow = record { word = omega arith; mask = omega arith };
    host = record { word = omega arith; small = omega arith };
  };
  ahead = λ e. absurd (false≢true e);
}
