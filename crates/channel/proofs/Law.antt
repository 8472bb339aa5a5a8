-- The channel's law for the deadline: what is due after c cycles at t is what was due at c + t, for every mode,
-- prescaler and phase; what an advance leaves of pending and interrupt enable; the bounds of a deadline; and where a
-- channel, or its part of the line, stays as it was. Assumes nothing.
use Rattle.std.proofs.Common.{◌≡◌, ℕ, zero, suc, ◌+◌, ◌-◌, ◌*◌, ◌/◌, ◌%◌, ◌^◌, ◌<◌, ◌≤◌}
use Rattle.std.proofs.Common.{min, Bool, true, false, ◌&&◌}
use Rattle.std.proofs.Common.{◌||◌, eqb, ltb, leb, ◌≢◌, sym, refl, ap, ◌∙◌, subst, add-zero, mul-le-mul, zero-add}
use Rattle.std.proofs.Common.{arith, ltb-true, le-ltb, lt-ltb, eqb-true, le-leb, leb-false, leb-true}
use native.Mathlib.Nat.{div-eq_of_lt}
use mathlib.Core.Bool.{and-false, or-false, false≢true}
use mathlib.Core.Option.{Option, none, some}
use borrow.Author.Tests.{lt-leb, eqb-false}
use Rattle.wide.specs.Number.{largest}
use Rattle.wide.specs.Deadline.{due}
use Rattle.wide.proofs.Choices.{choose, either, leb_same}
use Rattle.wide.proofs.Deadlines.{due_later, Positive, due_zero, due_is}
use Rattle.wide.proofs.Quotients.{periods_add}
use Rattle.channel.specs.declared.HardwareTimer.{HardwareTimer}
use Rattle.channel.specs.Channel.{TimerFits, mode_of, irq_enabled_of, divisor, line_of, with_counter, sound_timer}
use Rattle.channel.specs.Prescaler.{runs, ticks_of, phase_after, advanced}
use Rattle.channel.specs.Modes.{
  next_compare,
  one_shot,
  reloaded,
  matched,
  periodic,
  distance,
  free_running,
  ticked_in,
  ticked,
}
use Rattle.channel.specs.Deadline.{ticks_to_go, in_cycles, waiting, deadline_of}
use Rattle.channel.specs.Registers.{byte_written}
use Rattle.channel.proofs.Keeping.{Kept, written_cases}
use Rattle.channel.proofs.Distances.{distance-positive, distance_most, distance-after}
use Rattle.channel.proofs.Prescaling.{due-in_cycles}
use Rattle.channel.proofs.Sound.{
  GoodTimer,
  timer_good,
  start,
  start_fits,
  advance-kept,
  advance-phase,
  advanced_good,
}

-- ---- ticks to go

-- N, were the mode m
abbrev to_go : ℕ → HardwareTimer → Option ℕ
to_go m h = ticks_to_go m h.counter h.compare h.armed

-- N is at least 1
to_go_positive : (m : ℕ) (h : HardwareTimer) → TimerFits h → Positive (to_go m h)
unfolding ticks_to_go
to_go_positive zero h f =
    choose (λ n. 1 ≤ n) (ltb h.counter h.compare)
    (λ e. let l = ltb-true h.counter h.compare e in omega arith) (λ e. omega arith)
to_go_positive (suc zero) h f = to_go_positive zero h f
to_go_positive (suc (suc zero)) h f =
    choose Positive h.armed (λ e. distance-positive h.counter h.compare f.counter f.compare) (λ e. tt)
to_go_positive (suc (suc (suc m))) h f = tt

-- k ticks on a channel of mode m: pending is set, and N was reached; or all goes on, with N less k
data Ticked (m k : ℕ) (h r : HardwareTimer) : Type 0 where
  met : r.pending ≡ true → due (to_go m h) k ≡ true → Ticked m k h r
  went : r.pending ≡ h.pending → r.control ≡ h.control → ((s : ℕ) → due (to_go m r) s ≡ due (to_go m h) (k + s)) →
      Ticked m k h r

module _ (k : ℕ) (h : HardwareTimer) (p : 0 < k) (f : TimerFits h) where
  one_shot_ticked : Ticked 0 k h (one_shot k h)
  unfolding one_shot ticks_to_go
  one_shot_ticked =
      choose P (leb e n)
      (λ a. let l = leb-true e n a in met refl (rw (le-ltb n e l) (le-leb 1 k p)))
      (λ a. let l = leb-false e n a in
      choose P (leb (e - n) k) (λ b. met refl (rw (lt-ltb n e l) b))
      (λ b. let g = leb-false (e - n) k b in
      went refl refl
      (λ s. rw (lt-ltb n e l, lt-ltb (n + k) e (omega arith))
      (leb_same (e - (n + k)) s (e - n) (k + s) (λ c. omega arith) (λ c. omega arith)))))
    where
      n : ℕ
      n = h.counter

      e : ℕ
      e = h.compare

      P : HardwareTimer → Type 0
      P = Ticked 0 k h

  periodic_ticked : Ticked 1 k h (periodic k h)
  unfolding periodic matched reloaded ticks_to_go
  periodic_ticked =
      choose P (leb e n)
      (λ a. let l = leb-true e n a in
      choose P (eqb h.reload 0) (λ _. met refl (reached l))
      (λ _. choose P (ltb largest (next_compare (with_counter n h))) (λ _. met refl (reached l))
      (λ _. met refl (reached l))))
      (λ a. let l = leb-false e n a in
      went refl refl
      (λ s. rw (lt-ltb h.counter e (omega arith), lt-ltb n e l)
      (leb_same (e - n) s (e - h.counter) (k + s) (λ c. omega arith) (λ c. omega arith))))
    where
      n : ℕ
      n = min (h.counter + k) largest

      e : ℕ
      e = h.compare

      P : HardwareTimer → Type 0
      P = Ticked 1 k h

      reached : e ≤ n → due (to_go 1 h) k ≡ true
      reached l =
          choose (λ d. leb d k ≡ true) (ltb h.counter e) (λ _. le-leb (e - h.counter) k (omega arith))
          (λ _. le-leb 1 k p)

  free_running_ticked : Ticked 2 k h (free_running k h)
  unfolding free_running ticks_to_go
  free_running_ticked =
      choose (λ (r : HardwareTimer). Ticked 2 k h (with_counter ((h.counter + k) % 2 ^ 64) r)) (h.armed && leb d k)
      (λ e. met refl (either h.armed (λ a. rw a (rw a at e)) (λ a. absurd (false≢true (rw a at e)))))
      (λ e. went refl refl
      (λ s. either h.armed
      (λ a. let l : k < d = leb-false d k (rw a at e) in
      rw (a, distance-after h.counter h.compare f.counter f.compare k l)
      (leb_same (d - k) s d (k + s) (λ b. omega arith) (λ b. omega arith)))
      (λ a. rw a)))
    where
      d : ℕ
      d = distance h.counter h.compare

  mode_ticked : (m : ℕ) → Ticked m k h (ticked_in m k h)
  unfolding ticked_in ticks_to_go
  mode_ticked zero = one_shot_ticked
  mode_ticked (suc zero) = periodic_ticked
  mode_ticked (suc (suc zero)) = free_running_ticked
  mode_ticked (suc (suc (suc m))) = went refl refl (λ s. refl)

-- k ticks, 0 too
is_ticked : (k : ℕ) (h : HardwareTimer) → TimerFits h → Ticked (mode_of h.control) k h (ticked k h)
unfolding ticked
is_ticked k h f =
    choose (Ticked m k h) (eqb k 0)
    (λ e. let z = eqb-true k 0 e in went refl refl (λ s. rw (z, zero-add)))
    (λ e. let z : k ≢ 0 = eqb-false k 0 e in mode_ticked k h (omega arith) f m)
  where
    m : ℕ
    m = mode_of h.control

-- ---- what is due

-- the channel is in the line t cycles from here: it is now, or its deadline is reached
unfoldable pub channel_due : Bool → HardwareTimer → ℕ → Bool
channel_due selected h t = line_of h || due (deadline_of selected h) t

module _ (selected : Bool) (h : HardwareTimer) (t : ℕ) where
  -- without interrupt enable nothing is due
  due-quiet : irq_enabled_of h.control ≡ false → channel_due selected h t ≡ false
  unfolding channel_due line_of deadline_of
  due-quiet e = simp (e, and-false)

  due-asserted : irq_enabled_of h.control ≡ true → h.pending ≡ true → channel_due selected h t ≡ true
  unfolding channel_due line_of
  due-asserted e p = rw (p, e)

  -- running, with interrupt enable, not pending: by the ticks to go
  due-waiting : irq_enabled_of h.control ≡ true → h.pending ≡ false → runs selected h ≡ true → TimerFits h →
      h.phase < divisor h → channel_due selected h t ≡ due (to_go (mode_of h.control) h) ((h.phase + t) / divisor h)
  unfolding channel_due line_of deadline_of
  due-waiting e p r f q =
      simp (e, p, r)
      (due-in_cycles (divisor h) h.phase (to_go (mode_of h.control) h) t q
      (to_go_positive (mode_of h.control) h f))

  -- not running: only what is in the line
  due-resting : runs selected h ≡ false → channel_due selected h t ≡ line_of h
  unfolding channel_due deadline_of
  due-resting r = simp (r, or-false)

-- ---- the law

module _ (selected : Bool) (c : ℕ) (h : HardwareTimer) (f : TimerFits h) where
  -- the channel that runs, after the advance
  abbrev ran : HardwareTimer
  ran = ticked (ticks_of c h) (start selected c h f)

  abbrev kept : Kept (start selected c h f) ran
  kept = advance-kept selected c h f

  -- an advance never clears pending
  pub advanced-pending : h.pending ≡ true → (advanced selected c h).pending ≡ true
  unfolding advanced
  advanced-pending e =
      choose (λ (r : HardwareTimer). r.pending ≡ true) (runs selected h) (λ _. kept.pending e) (λ _. e)

  -- nor does it change interrupt enable
  pub advanced-irq : irq_enabled_of (advanced selected c h).control ≡ irq_enabled_of h.control
  unfolding advanced
  advanced-irq =
      choose (λ (r : HardwareTimer). irq_enabled_of r.control ≡ irq_enabled_of h.control) (runs selected h)
      (λ _. kept.irq) (λ _. refl)

  -- what is due after c cycles at t is what was due at c + t
  pub advance_due : h.phase < divisor h → (t : ℕ) →
      channel_due selected (advanced selected c h) t ≡ channel_due selected h (c + t)
  unfolding advanced
  advance_due q t =
      choose (λ r. channel_due selected r t ≡ channel_due selected h (c + t)) (runs selected h) running
      (λ r. due-resting selected h t r ∙ sym (due-resting selected h (c + t) r))
    where
      m : ℕ
      m = mode_of h.control

      later : (h.phase + (c + t)) / divisor h ≡ ticks_of c h + (phase_after c h + t) / divisor h
      later = periods_add (divisor h) h.phase c t (omega arith)

      waiting : irq_enabled_of h.control ≡ true → h.pending ≡ false → runs selected h ≡ true →
          Ticked m (ticks_of c h) (start selected c h f) ran →
          channel_due selected ran t ≡ due (to_go m h) ((h.phase + (c + t)) / divisor h)
      waiting e p r (met a b) =
          due-asserted selected ran t (kept.irq ∙ e) a
          ∙ sym (rw later (due_later (to_go m h) (ticks_of c h) ((phase_after c h + t) / divisor h) b))
      waiting e p r (went a b g) =
          due-waiting selected ran t (kept.irq ∙ e) (a ∙ p) (rw b r) kept.fits (advance-phase selected c h f)
          ∙ rw (kept.mode, kept.phase, kept.prescaler, later) (g ((phase_after c h + t) / divisor h))

      running : runs selected h ≡ true → channel_due selected ran t ≡ channel_due selected h (c + t)
      running r =
          either (irq_enabled_of h.control)
          (λ e. either h.pending
          (λ p. due-asserted selected ran t (kept.irq ∙ e) (kept.pending p)
          ∙ sym (due-asserted selected h (c + t) e p))
          (λ p. waiting e p r
          (is_ticked (ticks_of c h) (start selected c h f) (start_fits selected c h f))
          ∙ sym (due-waiting selected h (c + t) e p r f q)))
          (λ e. due-quiet selected ran t (kept.irq ∙ e) ∙ sym (due-quiet selected h (c + t) e))

-- the line is what is due at once
pub line-due : (selected : Bool) (h : HardwareTimer) → TimerFits h → h.phase < divisor h →
    line_of h ≡ channel_due selected h 0
unfolding line_of
line-due selected h f q =
    either (runs selected h)
    (λ r. either (irq_enabled_of h.control)
    (λ e. either h.pending
    (λ p. let l : line_of h ≡ true = rw (p, e) in l ∙ sym (due-asserted selected h 0 e p))
    (λ p. let l : line_of h ≡ false = rw p in
    l
    ∙ sym (due-waiting selected h 0 e p r f q
    ∙ rw (add-zero, div-eq_of_lt q)
    (due_zero (to_go (mode_of h.control) h) (to_go_positive (mode_of h.control) h f)))))
    (λ e. let l : line_of h ≡ false = rw (e, and-false) in l ∙ sym (due-quiet selected h 0 e)))
    (λ r. sym (due-resting selected h 0 r))

-- ---- the law in the words of a deadline, for a sound channel that is not in the line

module _ (selected : Bool) (c : ℕ) (h : HardwareTimer) (f : TimerFits h) (s : sound_timer h ≡ true)
    (low : line_of h ≡ false) where
  abbrev after : HardwareTimer
  after = advanced selected c h

  good : GoodTimer h
  good = timer_good h f s

  -- without its part of the line, what is due is the deadline
  due-after : (t : ℕ) → channel_due selected after t ≡ due (deadline_of selected h) (c + t)
  unfolding channel_due
  due-after t =
      advance_due selected c h f good.phase t ∙ ap (λ v. v || due (deadline_of selected h) (c + t)) low

  -- it comes into the line when its deadline has passed, and not before
  pub line-rises : line_of after ≡ due (deadline_of selected h) c
  line-rises =
      let g = advanced_good selected c h good in line-due selected after g.fits g.phase
      ∙ due-after 0
      ∙ rw add-zero

  -- before that its deadline is less by c
  pub deadline-falls : (d : ℕ) → deadline_of selected h ≡ some d → c < d → deadline_of selected after ≡ some (d - c)
  unfolding channel_due
  deadline-falls d e l =
      due_is (deadline_of selected after) (d - c)
      (λ t. sym (ap (λ v. v || due (deadline_of selected after) t) (line-rises ∙ ap (λ o. due o c) e ∙ lt-leb d c l))
      ∙ due-after t
      ∙ ap (λ o. due o (c + t)) e
      ∙ leb_same d (c + t) (d - c) t (λ p. omega arith) (λ p. omega arith))

-- ---- the bounds of a deadline

-- at least 1 and at most n, where there is one
abbrev pub Within : ℕ → Option ℕ → Type 0
Within n none = Unit {0}
Within n (some d) = (1 ≤ d) × (d ≤ n)

-- N is at most 2^64
to_go_within : (m : ℕ) (h : HardwareTimer) → TimerFits h → Within (2 ^ 64) (to_go m h)
unfolding ticks_to_go
to_go_within zero h f = (
  to_go_positive zero h f,
  choose (λ n. n ≤ 2 ^ 64) (ltb h.counter h.compare) (λ _. omega (arith, f.compare)) (λ _. omega arith),
)
to_go_within (suc zero) h f = to_go_within zero h f
to_go_within (suc (suc zero)) h f =
    choose (Within (2 ^ 64)) h.armed
    (λ _. (
      distance-positive h.counter h.compare f.counter f.compare,
      distance_most h.counter h.compare f.counter f.compare,
    ))
    (λ _. tt)
to_go_within (suc (suc (suc m))) h f = tt

-- v is the divisor and p the phase
in_cycles-within : (v p : ℕ) (a : Option ℕ) → p < v → v ≤ 2 ^ 32 → Within (2 ^ 64) a → Within (2 ^ 96) (in_cycles v p a)
in_cycles-within v p none l k w = tt
in_cycles-within v p (some n) l k w =
    let q : n - 1 ≤ 2 ^ 64 - 1 = omega (arith, w.1) in
    let m : (n - 1) * v ≤ (2 ^ 64 - 1) * 2 ^ 32 = mul-le-mul q k in
    (omega arith, omega arith)

-- a channel's deadline, where it has one, is at least 1 and at most 2^96
pub within_bounds : (selected : Bool) (h : HardwareTimer) → TimerFits h → h.phase < divisor h →
    Within (2 ^ 96) (deadline_of selected h)
unfolding deadline_of
within_bounds selected h f q =
    choose (Within (2 ^ 96)) (waiting selected h)
    (λ _. in_cycles-within (divisor h) h.phase (to_go (mode_of h.control) h) q (omega (arith, f.prescaler))
    (to_go_within (mode_of h.control) h f))
    (λ _. tt)

pub deadline_bounds : (selected : Bool) (h : HardwareTimer) → TimerFits h → sound_timer h ≡ true →
    (d : ℕ) → deadline_of selected h ≡ some d → (1 ≤ d) × (d ≤ 2 ^ 96)
deadline_bounds selected h f s d e =
    subst (Within (2 ^ 96)) e (within_bounds selected h f (timer_good h f s).phase)

-- ---- what stays as it was

-- 'A channel that does not run is untouched by an advance, phase included.'
pub advanced_still : (selected : Bool) (c : ℕ) (h : HardwareTimer) → runs selected h ≡ false →
    advanced selected c h ≡ h
unfolding advanced
advanced_still selected c h e = rw e

-- a byte written to a register other than control keeps what the channel gives to the line
pub written_line : (register i v : ℕ) (h : HardwareTimer) → (register ≡ 0 → ⊥) →
    line_of (byte_written register i v h) ≡ line_of h
unfolding line_of
written_line register i v h other =
    written_cases (λ r. line_of r ≡ line_of h) register i v h (λ e. absurd (other e)) (λ _ _. refl)
    (λ _ _. refl) (λ _ _. refl) (λ _ _. refl) refl
