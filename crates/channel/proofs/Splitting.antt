-- An advance in parts: the counts of its parts add up to its own, and the next compare point follows from the count.
-- Assumes nothing.
use Rattle.std.proofs.Common.{◌≡◌, ℕ, zero, suc, ◌+◌, ◌-◌, ◌*◌, ◌/◌, ◌%◌, ◌^◌, ◌<◌, ◌≤◌, min, Bool, true, false, cond}
use Rattle.std.proofs.Common.{◌&&◌, eqb, ltb, leb, ◌≢◌, List, [], ◌∷◌, sym, refl, ap, ◌∙◌, add-zero, add_assoc}
use Rattle.std.proofs.Common.{mul-le-mul, zero-add, div-le_self, div-mul-le_self, arith, ltb-true, eq-eqb, ne_eqb}
use Rattle.std.proofs.Common.{eqb-true, le-leb, leb-false, leb-true}
use native.Mathlib.Nat.{mul-add-div_right, div-eq_of_lt-le, div-eq_of_lt}
use mathlib.Core.Bool.{false≢true}
use borrow.Author.Tests.{lt-leb, eqb-false}
use Rattle.wide.specs.Number.{largest}
use Rattle.wide.proofs.Choices.{choose, either, leb_same, and_parts}
use Rattle.wide.proofs.Quotients.{periods_add}
use Rattle.channel.specs.declared.HardwareTimer.{HardwareTimer}
use Rattle.channel.specs.Channel.{
  TimerFits,
  mode_of,
  enabled_of,
  disabled,
  divisor,
  sound_timer,
  with_counter,
  with_phase,
}
use Rattle.channel.specs.Modes.{
  points_to,
  next_compare,
  one_shot,
  reloaded,
  matched,
  periodic,
  distance,
  free_running,
  ticked_in,
  ticked,
}
use Rattle.channel.specs.Prescaler.{ticks_of, phase_after, runs, advanced}
use Rattle.channel.specs.Matches.{points_met, matches_in, matches_of}
use Rattle.channel.specs.Splits.{total, advanced_by, matches_by, FewerPeriods}
use Rattle.channel.proofs.Keeping.{Kept}
use Rattle.channel.proofs.Distances.{distance-after}
use Rattle.channel.proofs.Counting.{
  one_shot_past,
  one_shot_reached,
  one_shot_ahead,
  periodic_matches,
  matched_past,
  matched_ahead,
  free_met,
  free_unmet,
  unmet-by,
  matches-same,
  no_ticks,
  ran_matches,
  still-matches,
}
use Rattle.channel.proofs.Law.{advanced_still}
use Rattle.channel.proofs.Sound.{
  timer_good,
  timer_sound,
  start_fits,
  advance-kept,
  advanced_good,
}

-- ---- the points k, k + r, k + 2 r, .. up to n, and up to m

-- how many are met where the counter is n: only the first with reload 0
unfoldable pub up_to : ℕ → ℕ → ℕ → ℕ
up_to n k r = cond (leb k n) (cond (eqb r 0) 1 (points_to n k r)) 0

-- none, the first alone, or all
up_to_none : (n k r : ℕ) → n < k → up_to n k r ≡ 0
unfolding up_to
up_to_none n k r l = rw (lt-leb k n l)

up_to_one : (n k r : ℕ) → k ≤ n → r ≡ 0 → up_to n k r ≡ 1
unfolding up_to
up_to_one n k r l z = rw (le-leb k n l, eq-eqb r 0 z)

up_to_all : (n k r : ℕ) → k ≤ n → r ≢ 0 → up_to n k r ≡ points_to n k r
unfolding up_to
up_to_all n k r l z = rw (le-leb k n l, ne_eqb r 0 z)

module _ (n m k r : ℕ) (past : k ≤ n) (more : n ≤ m) (z : r ≢ 0) where
  abbrev next : ℕ
  next = k + points_to n k r * r

  -- m is before the first point past n
  up-to-same : m < next → up_to n k r ≡ up_to m k r
  up-to-same l =
      let d : (m - k) / r ≡ (n - k) / r =
      div-eq_of_lt-le r (omega (arith, div-mul-le_self (n - k) r)) (omega arith) in
      up_to_all n k r past z ∙ ap (λ (x : ℕ). x + 1) (sym d) ∙ sym (up_to_all m k r (omega arith) z)

  -- the points up to n, and those from the next one to m
  up-to-parts : up_to n k r + up_to m next r ≡ up_to m k r
  up-to-parts =
      either (leb next m)
      (λ e. let l = leb-true next m e in
      let q : m - k ≡ points_to n k r * r + (m - next) = omega arith in
      let d : (m - k) / r ≡ points_to n k r + (m - next) / r =
      ap (λ (x : ℕ). x / r) q ∙ mul-add-div_right (omega arith) (points_to n k r) (m - next) in
      rw (up_to_all n k r past z, up_to_all m next r l z, up_to_all m k r (omega arith) z) (omega arith))
      (λ e. let l = leb-false next m e in
      rw (up_to_none m next r l) (add-zero (up_to n k r) ∙ up-to-same l))

-- ---- the count by the fields that it depends on

-- what t ticks, 1 or more, meet in each mode: n is the counter, k compare, r reload
unfoldable pub counted : ℕ → ℕ → ℕ → ℕ → ℕ → Bool → ℕ
counted zero t n k r armed = cond (leb k (n + t)) 1 0
counted (suc zero) t n k r armed = up_to (min (n + t) largest) k r
counted (suc (suc zero)) t n k r armed = cond (armed && leb (distance n k) t) 1 0
counted (suc (suc (suc mode))) t n k r armed = 0

abbrev pub count : ℕ → ℕ → HardwareTimer → ℕ
count m t h = counted m t h.counter h.compare h.reload h.armed

module _ (t : ℕ) (h : HardwareTimer) where
  one-shot-count : matches_in 0 (one_shot t) h ≡ count 0 t h
  unfolding counted
  one-shot-count =
      choose (λ (x : ℕ). matches_in 0 (one_shot t) h ≡ x) (leb h.compare (h.counter + t))
      (λ e. let l = leb-true h.compare (h.counter + t) e in
      either (leb h.compare h.counter) (λ a. one_shot_past t h (leb-true h.compare h.counter a))
      (λ a. let b = leb-false h.compare h.counter a in one_shot_reached t h b (omega arith)))
      (λ e. let l = leb-false h.compare (h.counter + t) e in
      one_shot_ahead t h (omega arith) (omega arith))

  periodic-count : matches_in 1 (periodic t) h ≡ count 1 t h
  unfolding counted up_to points_met
  periodic-count =
      periodic_matches t h
      ∙ choose (λ (x : ℕ). matches_in 1 matched moved ≡ x) (leb h.compare n)
      (λ e. matched_past moved (leb-true h.compare n e))
      (λ e. matched_ahead moved (leb-false h.compare n e))
    where
      n : ℕ
      n = min (h.counter + t) largest

      moved : HardwareTimer
      moved = with_counter n h

  free-count : matches_in 2 (free_running t) h ≡ count 2 t h
  unfolding counted
  free-count =
      choose (λ (x : ℕ). matches_in 2 (free_running t) h ≡ x) (h.armed && leb (distance h.counter h.compare) t)
      (free_met t h) (free_unmet t h)

mode_count : (m t : ℕ) (h : HardwareTimer) → matches_in m (ticked_in m t) h ≡ count m t h
unfolding counted ticked_in
mode_count zero t h = one-shot-count t h
mode_count (suc zero) t h = periodic-count t h
mode_count (suc (suc zero)) t h = free-count t h
mode_count (suc (suc (suc m))) t h = unmet-by (suc (suc (suc m))) (ticked_in (suc (suc (suc m))) t) h refl

-- t ticks, 0 too
abbrev pub met : ℕ → HardwareTimer → ℕ
met t h = cond (eqb t 0) 0 (count (mode_of h.control) t h)

ticked_count : (t : ℕ) (h : HardwareTimer) → matches_in (mode_of h.control) (ticked t) h ≡ met t h
unfolding ticked
ticked_count t h =
    choose (λ (x : ℕ). matches_in (mode_of h.control) (ticked t) h ≡ x) (eqb t 0)
    (λ e. no_ticks t h (eqb-true t 0 e))
    (λ e. matches-same mode (ticked t) h (ticked_in mode t) (rw e) (rw e) ∙ mode_count mode t h)
  where
    mode : ℕ
    mode = mode_of h.control

-- ---- ticks in two parts

-- t ticks, by a count of what ticks meet: they switch the channel off, and more ticks at once would meet no more; or it
-- runs on, and the counts add up
data Parted (counts : ℕ → HardwareTimer → ℕ) (t : ℕ) (h r : HardwareTimer) : Type 0 where
  off : enabled_of r.control ≡ false → ((s : ℕ) → counts t h ≡ counts (t + s) h) → Parted counts t h r
  on : r.control ≡ h.control → ((s : ℕ) → counts t h + counts s r ≡ counts (t + s) h) → Parted counts t h r

-- a control with enable clear
disabled_off : (n : ℕ) → enabled_of (disabled n) ≡ false
unfolding enabled_of disabled
disabled_off n = ne_eqb ((n / 8 * 8 + n % 4) / 4 % 2) 1 (omega arith)

module _ (t : ℕ) (h : HardwareTimer) (f : TimerFits h) where
  one-shot-parted : Parted (count 0) t h (one_shot t h)
  unfolding one_shot counted
  one-shot-parted =
      choose P (leb k n) (λ a. let l = leb-true k n a in off (disabled_off h.control) (λ s. over s (omega arith)))
      (λ a. let g = leb-false k n a in
      choose P (leb (k - n) t)
      (λ b. let l = leb-true (k - n) t b in off (disabled_off h.control) (λ s. over s (omega arith)))
      (λ b. let l = leb-false (k - n) t b in
      on refl (λ s. rw (lt-leb k (n + t) (omega arith), add_assoc n t s) (zero-add (cond (leb k (n + (t + s))) 1 0)))))
    where
      n : ℕ
      n = h.counter

      k : ℕ
      k = h.compare

      P : HardwareTimer → Type 0
      P = Parted (count 0) t h

      over : (s : ℕ) → k ≤ n + t → count 0 t h ≡ count 0 (t + s) h
      over s l = rw (le-leb k (n + t) l, le-leb k (n + (t + s)) (omega arith))

  periodic-parted : Parted (count 1) t h (periodic t h)
  unfolding periodic matched reloaded counted
  periodic-parted =
      choose P (leb k n)
      (λ a. let l = leb-true k n a in
      choose P (eqb r 0)
      (λ b. off (disabled_off h.control)
      (λ s. up_to_one n k r l (eqb-true r 0 b) ∙ sym (up_to_one (after s) k r (omega arith) (eqb-true r 0 b))))
      (λ b. let z : r ≢ 0 = eqb-false r 0 b in
      choose P (ltb largest (next_compare moved))
      (λ c. let g = ltb-true largest (next_compare moved) c in
      off (disabled_off h.control) (λ s. up-to-same n (after s) k r l (omega arith) z (omega arith)))
      (λ c. on refl (λ s. rw (later s) (up-to-parts n (after s) k r l (omega arith) z)))))
      (λ a. on refl
      (λ s. rw (later s, up_to_none n k r (leb-false k n a)) (zero-add (up_to (after s) k r))))
    where
      n : ℕ
      n = min (h.counter + t) largest

      k : ℕ
      k = h.compare

      r : ℕ
      r = h.reload

      moved : HardwareTimer
      moved = with_counter n h

      after : ℕ → ℕ
      after s = min (h.counter + (t + s)) largest

      later : (s : ℕ) → min (n + s) largest ≡ after s
      later s = omega arith

      P : HardwareTimer → Type 0
      P = Parted (count 1) t h

  free-running-parted : Parted (count 2) t h (free_running t h)
  unfolding free_running counted
  free-running-parted =
      choose (λ (r : HardwareTimer). Parted (count 2) t h (with_counter ((h.counter + t) % 2 ^ 64) r))
      (h.armed && leb d t)
      (λ e. let (a, b) = and_parts h.armed (leb d t) e in
      let l = leb-true d t b in
      on refl (λ s. rw (a, b, le-leb d (t + s) (omega arith))))
      (λ e. on refl
      (λ s. either h.armed
      (λ a. let l : t < d = leb-false d t (rw a at e) in
      rw (a, distance-after h.counter h.compare f.counter f.compare t l, lt-leb d t l)
      (zero-add (cond (leb (d - t) s) 1 0)
      ∙ ap (λ (v : Bool). cond v 1 0) (leb_same (d - t) s d (t + s) (λ b. omega arith) (λ b. omega arith))))
      (λ a. rw a)))
    where
      d : ℕ
      d = distance h.counter h.compare

  mode-parted : (m : ℕ) → Parted (count m) t h (ticked_in m t h)
  unfolding ticked_in counted
  mode-parted zero = one-shot-parted
  mode-parted (suc zero) = periodic-parted
  mode-parted (suc (suc zero)) = free-running-parted
  mode-parted (suc (suc (suc m))) = on refl (λ s. refl)

module _ (t : ℕ) (h : HardwareTimer) where
  abbrev mode : ℕ
  mode = mode_of h.control

  from-mode : t ≢ 0 → (r : HardwareTimer) → Parted (count mode) t h r → Parted met t h r
  from-mode n r (off e g) = off e (λ s. rw (ne_eqb t 0 n, ne_eqb (t + s) 0 (omega arith)) (g s))
  from-mode n r (on e g) =
      on e
      (λ s. either (eqb s 0) (λ z. rw (eqb-true s 0 z, add-zero t) (add-zero (met t h)))
      (λ z. rw (ne_eqb t 0 n, ne_eqb (t + s) 0 (omega arith), z, e) (g s)))

  -- t ticks, 0 too
  is-parted : TimerFits h → Parted met t h (ticked t h)
  unfolding ticked
  is-parted f =
      choose (Parted met t h) (eqb t 0)
      (λ e. on refl (λ s. rw (eqb-true t 0 e, zero-add s) (zero-add (met s h))))
      (λ e. from-mode (eqb-false t 0 e) (ticked_in mode t h) (mode-parted t h f mode))

-- ---- cycles in parts

-- the count of a channel that runs, by the ticks that its cycles give. Without a tick it is 0. Else in mode 0 it is 1
-- if the ticks bring the counter to compare, or it is there or past it; in mode 1 it is the number of the points
-- compare, compare + reload, .. up to the new counter, with reload 0 the first alone; in mode 2 it is 1 if the channel
-- is armed and the ticks reach the distance; in mode 3 it is 0
pub running_count : (selected : Bool) (c : ℕ) (h : HardwareTimer) → runs selected h ≡ true →
    matches_of selected c h ≡ met (ticks_of c h) h
running_count selected c h r =
    ran_matches selected c h r ∙ ticked_count (ticks_of c h) (with_phase (phase_after c h) h)

-- 'A count can reach 2^64', and is no more
abbrev Most : ℕ → Type 0
Most n = n ≤ 2 ^ 64

up_to_most : (n k r : ℕ) → n ≤ largest → up_to n k r ≤ 2 ^ 64
unfolding up_to
up_to_most n k r l =
    choose Most (leb k n)
    (λ _. choose Most (eqb r 0) (λ _. omega arith) (λ _. omega (arith, div-le_self (n - k) r)))
    (λ _. omega arith)

counted_most : (m t n k r : ℕ) (armed : Bool) → counted m t n k r armed ≤ 2 ^ 64
unfolding counted
counted_most zero t n k r armed = choose Most (leb k (n + t)) (λ _. omega arith) (λ _. omega arith)
counted_most (suc zero) t n k r armed = up_to_most (min (n + t) largest) k r (omega arith)
counted_most (suc (suc zero)) t n k r armed =
    choose Most (armed && leb (distance n k) t) (λ _. omega arith) (λ _. omega arith)
counted_most (suc (suc (suc m))) t n k r armed = omega arith

pub matches_most : (selected : Bool) (c : ℕ) (h : HardwareTimer) → matches_of selected c h ≤ 2 ^ 64
matches_most selected c h =
    either (runs selected h)
    (λ e. rw (running_count selected c h e)
    (choose Most (eqb (ticks_of c h) 0) (λ _. omega arith)
    (λ _. counted_most (mode_of h.control) (ticks_of c h) h.counter h.compare h.reload h.armed)))
    (λ e. rw (still-matches selected c h e) (omega arith))

module _ (selected : Bool) (c d : ℕ) (h : HardwareTimer) (f : TimerFits h) where
  -- the counts of two advances, one after the other, are the count of one
  pub matches-add : matches_of selected c h + matches_of selected d (advanced selected c h)
      ≡ matches_of selected (c + d) h
  unfolding advanced
  matches-add =
      choose (λ (x : HardwareTimer). matches_of selected c h + matches_of selected d x ≡ matches_of selected (c + d) h)
      (runs selected h)
      (λ r. rw (running_count selected c h r, running_count selected (c + d) h r, later)
      (running r (is-parted (ticks_of c h) begun (start_fits selected c h f))))
      (λ r. rw (still-matches selected c h r, still-matches selected d h r, still-matches selected (c + d) h r))
    where
      begun : HardwareTimer
      begun = with_phase (phase_after c h) h

      ran : HardwareTimer
      ran = ticked (ticks_of c h) begun

      kept : Kept begun ran
      kept = advance-kept selected c h f

      later : ticks_of (c + d) h ≡ ticks_of c h + ticks_of d begun
      later = periods_add (divisor h) h.phase c d (omega arith)

      running : runs selected h ≡ true → Parted met (ticks_of c h) begun ran →
          met (ticks_of c h) h + matches_of selected d ran ≡ met (ticks_of c h + ticks_of d begun) h
      running r (off e g) =
          rw (still-matches selected d ran (rw e)) (add-zero (met (ticks_of c h) h) ∙ g (ticks_of d begun))
      running r (on e g) =
          rw (running_count selected d ran (rw e r), kept.phase, kept.prescaler) (g (ticks_of d begun))

-- no cycles meet no point
no_cycles : (selected : Bool) (h : HardwareTimer) → h.phase < divisor h → matches_of selected 0 h ≡ 0
no_cycles selected h p =
    either (runs selected h)
    (λ r. running_count selected 0 h r ∙ rw (add-zero h.phase, div-eq_of_lt p))
    (still-matches selected 0 h)

-- 'how many compare points it met' in parts: of every sound channel, for every list of parts, none too
pub matches_split : (selected : Bool) (cs : List ℕ) (h : HardwareTimer) → TimerFits h → sound_timer h ≡ true →
    matches_by selected cs h ≡ matches_of selected (total cs) h
unfolding matches_by
matches_split selected [] h f s = sym (no_cycles selected h (timer_good h f s).phase)
matches_split selected (c ∷ cs) h f s =
    let g = advanced_good selected c h (timer_good h f s) in
    ap (λ (n : ℕ). matches_of selected c h + n)
    (matches_split selected cs (advanced selected c h) g.fits (timer_sound (advanced selected c h) g))
    ∙ matches-add selected c (total cs) h f

-- ---- the next compare point of a periodic channel

-- n points are met by a channel of this control, compare and reload: it runs on, and compare is n periods further; or a
-- match switches it off, and compare stays
data NextOf (n control compare reload : ℕ) (r : HardwareTimer) : Type 0 where
  on : r.control ≡ control → r.reload ≡ reload → r.compare ≡ compare + n * reload → NextOf n control compare reload r
  off : enabled_of r.control ≡ false → r.compare ≡ compare → 0 < n → NextOf n control compare reload r

abbrev Next : ℕ → HardwareTimer → HardwareTimer → Type 0
Next n h r = NextOf n h.control h.compare h.reload r

module _ (h : HardwareTimer) where
  unmoved : h.compare ≡ h.compare + 0 * h.reload
  unmoved = omega arith

  periodic-next : (t : ℕ) → Next (count 1 t h) h (periodic t h)
  unfolding periodic matched reloaded counted
  periodic-next t =
      choose P (leb k n)
      (λ a. let l = leb-true k n a in
      choose P (eqb r 0)
      (λ b. off (disabled_off h.control) refl (omega (arith, up_to_one n k r l (eqb-true r 0 b))))
      (λ b. let e = up_to_all n k r l (eqb-false r 0 b) in
      choose P (ltb largest (next_compare (with_counter n h))) (λ _. off (disabled_off h.control) refl (omega arith))
      (λ _. on refl refl (ap (λ (x : ℕ). k + x * r) (sym e)))))
      (λ a. on refl refl (rw (up_to_none n k r (leb-false k n a)) unmoved))
    where
      n : ℕ
      n = min (h.counter + t) largest

      k : ℕ
      k = h.compare

      r : ℕ
      r = h.reload

      P : HardwareTimer → Type 0
      P = Next (up_to n k r) h

  ticked-next : (t : ℕ) → mode_of h.control ≡ 1 → Next (met t h) h (ticked t h)
  unfolding ticked ticked_in
  ticked-next t m =
      either (eqb t 0) (λ e. rw e (on refl refl unmoved)) (λ e. rw (e, m) (periodic-next t))

module _ (selected : Bool) (c : ℕ) (h : HardwareTimer) (m : mode_of h.control ≡ 1) where
  abbrev after : HardwareTimer
  after = advanced selected c h

  advanced-next : Next (matches_of selected c h) h after
  unfolding advanced
  advanced-next =
      choose (Next (matches_of selected c h) h) (runs selected h)
      (λ r. rw (running_count selected c h r) (ticked-next (with_phase (phase_after c h) h) (ticks_of c h) m))
      (λ r. rw (still-matches selected c h r) (on refl refl (unmoved h)))

  -- still enabled, it has its next compare point one period further for each point that it met
  pub next-compare : enabled_of after.control ≡ true →
      after.compare ≡ h.compare + matches_of selected c h * h.reload
  next-compare e = by advanced-next
    where
      by : Next (matches_of selected c h) h after → after.compare ≡ h.compare + matches_of selected c h * h.reload
      by (on _ _ q) = q
      by (off d _ _) = absurd (false≢true (sym d ∙ e))

  -- switched off, it has its old one, and has met a point: with reload above 0 the equation is false
  pub switched-off : enabled_of h.control ≡ true → enabled_of after.control ≡ false →
      (after.compare ≡ h.compare) × (0 < matches_of selected c h)
  switched-off a e = by advanced-next
    where
      by : Next (matches_of selected c h) h after → (after.compare ≡ h.compare) × (0 < matches_of selected c h)
      by (on d _ _) = absurd (false≢true (sym e ∙ ap enabled_of d ∙ a))
      by (off _ q l) = (q, l)

-- ---- the same of a list of parts

-- a channel that is not enabled stays as it is, and meets no point
module _ (selected : Bool) (h : HardwareTimer) (e : enabled_of h.control ≡ false) where
  resting : runs selected h ≡ false
  resting = rw e

  resting-by : (cs : List ℕ) → (advanced_by selected cs h ≡ h) × (matches_by selected cs h ≡ 0)
  unfolding advanced_by matches_by
  resting-by [] = (refl, refl)
  resting-by (c ∷ cs) =
      rw (advanced_still selected c h resting, still-matches selected c h resting, zero-add (matches_by selected cs h))
      (resting-by cs)

-- the n periods of the first part, from compare k to y, and the m of the others
periods_join : (k n m r y v : ℕ) → y ≡ k + n * r → v ≡ r → y + m * v ≡ k + (n + m) * r
periods_join k n m r y v p q = rw (p, q) (omega arith)

-- the first part and the others
module _ (selected : Bool) (c : ℕ) (cs : List ℕ) (h : HardwareTimer) where
  abbrev first : HardwareTimer
  first = advanced selected c h

  abbrev last : HardwareTimer
  last = advanced_by selected cs first

  abbrev met-first : ℕ
  met-first = matches_of selected c h

  abbrev others : ℕ
  others = matches_by selected cs first

  abbrev joined : first.compare ≡ h.compare + met-first * h.reload → first.reload ≡ h.reload →
      first.compare + others * first.reload ≡ h.compare + (met-first + others) * h.reload
  joined = periods_join h.compare met-first others h.reload first.compare first.reload

  next-step : enabled_of last.control ≡ true → Next met-first h first →
      (first.control ≡ h.control → last.compare ≡ first.compare + others * first.reload) →
      last.compare ≡ h.compare + (met-first + others) * h.reload
  next-step e (on a b q) rest = rest a ∙ joined q b
  next-step e (off d _ _) rest =
      absurd
      (false≢true
      (sym d ∙ ap (λ (x : HardwareTimer). enabled_of x.control) (sym (resting-by selected first d cs).0) ∙ e))

  off-step : Next met-first h first →
      (first.control ≡ h.control → FewerPeriods others first.compare first.reload last.compare) →
      FewerPeriods (met-first + others) h.compare h.reload last.compare
  off-step (on a b q) rest =
      let r = rest a in
      record {
        periods = met-first + r.periods;
        fewer = omega (arith, r.fewer);
        compare =
            r.compare
            ∙ periods_join h.compare met-first r.periods h.reload first.compare first.reload q b;
      }
  off-step (off d q l) rest =
      record {
        periods = 0;
        fewer = omega (arith, l);
        compare = ap (λ (x : HardwareTimer). x.compare) (resting-by selected first d cs).0 ∙ q ∙ unmoved h;
      }

-- still enabled after all parts
pub next_compare_split : (selected : Bool) (cs : List ℕ) (h : HardwareTimer) → mode_of h.control ≡ 1 →
    enabled_of (advanced_by selected cs h).control ≡ true →
    (advanced_by selected cs h).compare ≡ h.compare + matches_by selected cs h * h.reload
unfolding advanced_by matches_by
next_compare_split selected [] h m e = unmoved h
next_compare_split selected (c ∷ cs) h m e =
    next-step selected c cs h e (advanced-next selected c h m)
    (λ a. next_compare_split selected cs (advanced selected c h) (rw a m) e)

-- switched off by one of the parts, it has its old compare point plus some periods, fewer than the points met: the
-- parts before that one moved it, and that one leaves it
pub switched_off_split : (selected : Bool) (cs : List ℕ) (h : HardwareTimer) → mode_of h.control ≡ 1 →
    enabled_of h.control ≡ true → enabled_of (advanced_by selected cs h).control ≡ false →
    FewerPeriods (matches_by selected cs h) h.compare h.reload (advanced_by selected cs h).compare
unfolding advanced_by matches_by
switched_off_split selected [] h m a e = absurd (false≢true (sym e ∙ a))
switched_off_split selected (c ∷ cs) h m a e =
    off-step selected c cs h (advanced-next selected c h m)
    (λ d. switched_off_split selected cs (advanced selected c h) (rw d m) (rw d a) e)

-- with reload above 0 it is below the point that the count would give: there the equation of `next_compare_split` is
-- false
pub fewer_below : (n old reload new : ℕ) → 0 < reload → FewerPeriods n old reload new → new < old + n * reload
fewer_below n old reload new p f =
    let q : suc f.periods * reload ≤ n * reload = mul-le-mul f.fewer (omega arith) in
    rw f.compare (omega arith)
