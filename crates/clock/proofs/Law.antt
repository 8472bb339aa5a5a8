-- The clock's law: after c cycles what is due at t is what was due at c + t, at any rate above 0. Assumes nothing.
use Prim.Native.Nat.{ℕ, ◌+◌, ◌-◌, ◌*◌, ◌/◌, ◌%◌, ◌^◌, ◌≤◌, ◌<◌}
use mathlib.Core.Path.{◌≡◌, refl, sym, ◌∙◌}
use mathlib.Core.Logic.{◌↔◌}
use mathlib.Core.Bool.{Bool, true, false, cond, not, ◌&&◌, ◌||◌, false≢true}
use mathlib.Core.Option.{none, some}
use native.Mathlib.Nat.{
  mod-lt,
  div-eq_of_lt,
  add-zero,
  zero-add,
  add_assoc,
  le-div_iff_mul-le,
}
use native.Mathlib.Omega.{arith}
use lib.Dec.{leb, ltb}
use borrow.Author.Tests.{ltb-false, le-leb, lt-leb}
use Rattle.wide.proofs.Choices.{choose, either, leb_same, and_parts, and_join}
use Rattle.wide.proofs.Quotients.{periods_add}
use Rattle.wide.specs.Bits.{bit}
use Rattle.wide.specs.Deadline.{due}
use Rattle.wide.specs.Number.{largest}
use Rattle.clock.specs.declared.HostTime.{HostTime}
use Rattle.clock.specs.declared.Clock.{Clock}
use Rattle.clock.specs.Clock.{
  from_host,
  own_time,
  time_seconds,
  fired,
  alarm_reached,
  check_alarm,
  moved_time,
  polls,
  end_advance,
  advance_clock,
}
use Rattle.clock.specs.Deadline.{clock_line, to_alarm, alarm_cycles, clock_deadline}
use Rattle.clock.specs.Fields.{with_time, with_alarm, with_poll, with_host}
use Rattle.clock.proofs.Cases.{moved-cases}
use Rattle.clock.proofs.Tests.{
  and-false,
  or-false,
  own_enabled,
  own_host,
  host_own,
  off,
  polls_host,
  reached-enabled,
  reached,
  not-reached,
}
use Rattle.clock.proofs.Soundness.{GoodClock, own_time_seconds}

-- ---- numbers

-- the deadline of an alarm ahead is reached when the clock's seconds have come to it
alarm_due : (rate : ℕ) (k : Clock) (t : ℕ) → k.seconds < k.alarm.seconds → k.subsecond < rate →
    leb (alarm_cycles rate k) t ≡ leb k.alarm.seconds (k.seconds + (k.subsecond + t) / rate)
alarm_due rate k t h l =
    rw (lt-leb k.alarm.seconds k.seconds h)
    (leb_same (to_alarm rate k) t k.alarm.seconds (k.seconds + (k.subsecond + t) / rate)
    (λ b. there (by.1 (up b))) (λ b. back (by.0 (down b))))
  where
    left : ℕ
    left = k.alarm.seconds - k.seconds

    by : (left ≤ (k.subsecond + t) / rate) ↔ (left * rate ≤ k.subsecond + t)
    by = le-div_iff_mul-le (omega arith)

    up : to_alarm rate k ≤ t → left * rate ≤ k.subsecond + t
    up b = omega arith

    down : k.alarm.seconds ≤ k.seconds + (k.subsecond + t) / rate → left ≤ (k.subsecond + t) / rate
    down b = omega arith

    there : left ≤ (k.subsecond + t) / rate → k.alarm.seconds ≤ k.seconds + (k.subsecond + t) / rate
    there b = omega arith

    back : left * rate ≤ k.subsecond + t → to_alarm rate k ≤ t
    back b = omega arith

-- ---- what is due, by the tests that it asks

-- o: enabled and not realtime; e: alarm enable; a: armed; h: pending; d: the deadline
abbrev due_by : Bool → Bool → Bool → Bool → ℕ → ℕ → Bool
due_by o e a h d t = (h && e) || due (cond (o && (e && (a && not h))) (some d) none) t

module _ (o e a h : Bool) (d t : ℕ) where
  disabled : e ≡ false → due_by o e a h d t ≡ false
  disabled p = simp (p, and-false)

  raised : e ≡ true → h ≡ true → due_by o e a h d t ≡ true
  raised p q = rw (p, q)

  disarmed : h ≡ false → a ≡ false → due_by o e a h d t ≡ false
  disarmed p q = simp (p, q, and-false)

  unmoved : o ≡ false → due_by o e a h d t ≡ (h && e)
  unmoved p = simp (p, or-false)

  waiting : o ≡ true → e ≡ true → a ≡ true → h ≡ false → due_by o e a h d t ≡ leb d t
  waiting p q r s = rw (p, q, r, s)

abbrev alarm_on : Clock → Bool
alarm_on k = bit 0 k.alarm.enable

-- a clock that does not run from host time holds the line high after t cycles of advances and host times
unfoldable pub clock_due : ℕ → Clock → ℕ → Bool
clock_due rate k t = clock_line k || due (clock_deadline rate k) t

module _ (rate : ℕ) (k : Clock) (t : ℕ) where
  abbrev cycles : ℕ
  cycles = alarm_cycles rate k

  due_is : clock_due rate k t ≡ due_by (own_time k.control) (alarm_on k) k.alarm.armed k.alarm.pending cycles t
  unfolding clock_due clock_deadline
  due_is = refl

  due-disabled : alarm_on k ≡ false → clock_due rate k t ≡ false
  due-disabled p =
      due_is ∙ disabled (own_time k.control) (alarm_on k) k.alarm.armed k.alarm.pending cycles t p

  due-pending : alarm_on k ≡ true → k.alarm.pending ≡ true → clock_due rate k t ≡ true
  due-pending p q =
      due_is ∙ raised (own_time k.control) (alarm_on k) k.alarm.armed k.alarm.pending cycles t p q

  due-disarmed : k.alarm.pending ≡ false → k.alarm.armed ≡ false → clock_due rate k t ≡ false
  due-disarmed p q =
      due_is ∙ disarmed (own_time k.control) (alarm_on k) k.alarm.armed k.alarm.pending cycles t p q

  due_unmoved : own_time k.control ≡ false → clock_due rate k t ≡ clock_line k
  due_unmoved p =
      due_is ∙ unmoved (own_time k.control) (alarm_on k) k.alarm.armed k.alarm.pending cycles t p

  -- a clock that runs from host time has no deadline of its own
  pub due-host : from_host k.control ≡ true → clock_due rate k t ≡ clock_line k
  due-host h = due_unmoved (host_own k.control h)

  due-waiting : own_time k.control ≡ true → alarm_on k ≡ true → k.alarm.armed ≡ true → k.alarm.pending ≡ false →
      k.seconds < k.alarm.seconds → k.subsecond < rate →
      clock_due rate k t ≡ leb k.alarm.seconds (k.seconds + (k.subsecond + t) / rate)
  due-waiting p q r s w u =
      due_is
      ∙ waiting (own_time k.control) (alarm_on k) k.alarm.armed k.alarm.pending cycles t p q r s
      ∙ alarm_due rate k t w u

-- ---- c cycles on a clock that they move: its time becomes s and u, and reaches each alarm when it would have

record Passed (rate c : ℕ) (k : Clock) (s u : ℕ) : Type 0 where
  sub : u < rate
  word : s < 2 ^ 64
  reach : (a t : ℕ) → a < 2 ^ 64 → leb a (s + (u + t) / rate) ≡ leb a (k.seconds + (k.subsecond + (c + t)) / rate)

module _ (rate c : ℕ) (k : Clock) (u : k.subsecond < rate) (s : k.seconds < 2 ^ 64) where
  pos : 0 < rate
  pos = omega arith

  passed_on : (k.subsecond + c) / rate ≤ largest - k.seconds →
      Passed rate c k (k.seconds + (k.subsecond + c) / rate) ((k.subsecond + c) % rate)
  passed_on h = record {
    sub = mod-lt (k.subsecond + c) pos;
    word = omega arith;
    reach = λ a t _. rw (periods_add rate k.subsecond c t pos, add_assoc);
  }

  -- saturated: any alarm is reached on both sides
  passed_top : largest - k.seconds < (k.subsecond + c) / rate → Passed rate c k largest 0
  passed_top h = record {
    sub = pos;
    word = omega arith;
    reach = λ a t b.
        le-leb a (largest + (0 + t) / rate) (omega arith)
        ∙ sym (le-leb a (k.seconds + (k.subsecond + (c + t)) / rate) (top a t b));
  }
    where
      top : (a t : ℕ) → a < 2 ^ 64 → a ≤ k.seconds + (k.subsecond + (c + t)) / rate
      top a t b = omega (arith, periods_add rate k.subsecond c t pos)

  passed_none : c ≡ 0 → Passed rate c k k.seconds k.subsecond
  passed_none h = record { sub = u; word = s; reach = λ a t _. rw (h, zero-add) }

  on_move : (P : Clock → Type 0) → own_time k.control ≡ true →
      ((s u : ℕ) → Passed rate c k s u → P (with_time s u k)) → P (moved_time rate c k)
  on_move P o f =
      moved-cases P rate k c (λ h. f largest 0 (passed_top h))
      (λ h. f (k.seconds + (k.subsecond + c) / rate) ((k.subsecond + c) % rate) (passed_on h))
      (λ q. f k.seconds k.subsecond (passed_none (none_passed (own_time k.control) o q)))
    where
      none_passed : (b : Bool) → b ≡ true → (b && ltb 0 c) ≡ false → c ≡ 0
      none_passed b p q = let z = ltb-false 0 c (rw p at q) in omega arith

module _ (rate c : ℕ) (k : Clock) (g : GoodClock rate k) where
  -- the clock is not enabled: only poll changes
  at_rest : (P : Clock → Type 0) → from_host k.control ≡ false → own_time k.control ≡ false → P (with_poll 0 k) →
      P (advance_clock rate c k)
  unfolding advance_clock moved_time end_advance check_alarm
  at_rest P f o p =
      choose (λ j. P (end_advance rate c j)) (own_time k.control && ltb 0 c)
      (λ q. absurd (false≢true (sym o ∙ (and_parts (own_time k.control) (ltb 0 c) q).0)))
      (λ _. choose P (polls c k)
      (λ q. absurd (false≢true (sym f ∙ polls_host c k q)))
      (λ _. choose P (alarm_reached rate (with_poll 0 k))
      (λ q. absurd (false≢true (sym (off k.control f o) ∙ reached-enabled rate (with_poll 0 k) q)))
      (λ _. p)))

  -- cycles move the clock: the time passes, and the alarm fires if it is reached
  in_time : (P : Clock → Type 0) → own_time k.control ≡ true →
      ((s u : ℕ) → Passed rate c k s u → k.alarm.armed ≡ true → k.alarm.pending ≡ false → k.alarm.seconds ≤ s →
      P (with_alarm (fired k.alarm) (with_poll 0 (with_time s u k)))) →
      ((s u : ℕ) → Passed rate c k s u → (k.alarm.armed ≡ true → k.alarm.pending ≡ false → s < k.alarm.seconds) →
      P (with_poll 0 (with_time s u k))) →
      P (advance_clock rate c k)
  unfolding advance_clock end_advance check_alarm
  in_time P o fires goes =
      on_move rate c k g.parts.subsecond g.parts.seconds (λ j. P (end_advance rate c j)) o (λ s u p. ends s u p)
    where
      ends : (s u : ℕ) → Passed rate c k s u → P (end_advance rate c (with_time s u k))
      ends s u p =
          choose P (polls c (with_time s u k))
          (λ q. absurd (false≢true (sym (own_host k.control o) ∙ polls_host c k q)))
          (λ _. choose P (alarm_reached rate j)
          (λ q. let (a, (h, w)) = reached rate j q in fires s u p a h (rw now at w))
          (λ q. goes s u p (λ a h. rw now at (not-reached rate j q (own_enabled k.control o) a h))))
        where
          j : Clock
          j = with_poll 0 (with_time s u k)

          now : time_seconds rate j ≡ s
          now = own_time_seconds rate j p.sub p.word (own_host k.control o)

  module _ (own : from_host k.control ≡ false) where
    -- what is due at t after c cycles is what was due at c + t
    pub advance_due : (t : ℕ) → clock_due rate (advance_clock rate c k) t ≡ clock_due rate k (c + t)
    advance_due t =
        either (own_time k.control) (λ o. in_time P o (fires o) (goes o))
        (λ o. at_rest P own o (due_unmoved rate (with_poll 0 k) t o ∙ sym (due_unmoved rate k (c + t) o)))
      where
        P : Clock → Type 0
        P j = clock_due rate j t ≡ clock_due rate k (c + t)

        fires : own_time k.control ≡ true → (s u : ℕ) → Passed rate c k s u → k.alarm.armed ≡ true →
            k.alarm.pending ≡ false → k.alarm.seconds ≤ s →
            P (with_alarm (fired k.alarm) (with_poll 0 (with_time s u k)))
        fires o s u p a h w =
            either (alarm_on k)
            (λ e. due-pending rate j t e refl
            ∙ sym (due-waiting rate k (c + t) o e a h (g.ahead a o) g.parts.subsecond
            ∙ sym (p.reach k.alarm.seconds t g.parts.alarm.word)
            ∙ le-leb k.alarm.seconds (s + (u + t) / rate) (omega arith)))
            (λ e. due-disabled rate j t e ∙ sym (due-disabled rate k (c + t) e))
          where
            j : Clock
            j = with_alarm (fired k.alarm) (with_poll 0 (with_time s u k))

        goes : own_time k.control ≡ true → (s u : ℕ) → Passed rate c k s u →
            (k.alarm.armed ≡ true → k.alarm.pending ≡ false → s < k.alarm.seconds) →
            P (with_poll 0 (with_time s u k))
        goes o s u p w =
            either (alarm_on k)
            (λ e. either k.alarm.pending (λ h. due-pending rate j t e h ∙ sym (due-pending rate k (c + t) e h))
            (λ h. either k.alarm.armed
            (λ a. due-waiting rate j t o e a h (w a h) p.sub
            ∙ p.reach k.alarm.seconds t g.parts.alarm.word
            ∙ sym (due-waiting rate k (c + t) o e a h (g.ahead a o) g.parts.subsecond))
            (λ a. due-disarmed rate j t h a ∙ sym (due-disarmed rate k (c + t) h a))))
            (λ e. due-disabled rate j t e ∙ sym (due-disabled rate k (c + t) e))
          where
            j : Clock
            j = with_poll 0 (with_time s u k)

    -- an advance does not make the clock run from host time
    pub advance_own : from_host (advance_clock rate c k).control ≡ false
    advance_own =
        either (own_time k.control) (λ o. in_time P o (λ s u p a h w. own) (λ s u p w. own))
        (λ o. at_rest P own o own)
      where
        P : Clock → Type 0
        P j = from_host j.control ≡ false

-- ---- host time

-- what is due does not change with host time
pub host_due : (rate : ℕ) (h : HostTime) (k : Clock) (t : ℕ) → clock_due rate (with_host h k) t ≡ clock_due rate k t
unfolding clock_due clock_deadline
host_due rate h k t = refl

-- ---- the line

-- the line is what is due at 0
pub line-due : (rate : ℕ) (k : Clock) → GoodClock rate k → clock_line k ≡ clock_due rate k 0
line-due rate k g =
    either (own_time k.control)
    (λ o. either (alarm_on k)
    (λ e. either k.alarm.pending
    (λ h. and_join k.alarm.pending (alarm_on k) h e ∙ sym (due-pending rate k 0 e h))
    (λ h. line_low k.alarm.pending (alarm_on k) h
    ∙ sym (either k.alarm.armed
    (λ a. let w = g.ahead a o in
    due-waiting rate k 0 o e a h w g.parts.subsecond
    ∙ rw (add-zero, div-eq_of_lt g.parts.subsecond, add-zero) (lt-leb k.alarm.seconds k.seconds w))
    (λ a. due-disarmed rate k 0 h a))))
    (λ e. line-disabled k.alarm.pending (alarm_on k) e ∙ sym (due-disabled rate k 0 e)))
    (λ o. sym (due_unmoved rate k 0 o))
  where
    line_low : (h e : Bool) → h ≡ false → (h && e) ≡ false
    line_low h e p = rw p

    line-disabled : (h e : Bool) → e ≡ false → (h && e) ≡ false
    line-disabled h e p = rw p (and-false h)
