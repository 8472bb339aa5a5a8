-- The compare points that an advance meets, by the rules of a channel's modes. Assumes nothing.
use Rattle.std.proofs.Common.{◌≡◌, ℕ, ◌+◌, ◌-◌, ◌<◌, ◌≤◌, min, Bool, true, false, cond, ◌&&◌, eqb, ltb, leb, ◌≢◌}
use Rattle.std.proofs.Common.{refl, ap, ◌∙◌, eq-eqb, ne_eqb, le-leb}
use borrow.Author.Tests.{lt-leb}
use Rattle.wide.specs.Number.{largest}
use Rattle.wide.proofs.Choices.{choose}
use Rattle.channel.specs.declared.HardwareTimer.{HardwareTimer}
use Rattle.channel.specs.Channel.{mode_of, with_counter, with_phase, with_flags}
use Rattle.channel.specs.Modes.{
  next_compare,
  one_shot,
  reloaded,
  matched,
  periodic,
  distance,
  free_running,
  ticked_in,
  ticked,
}
use Rattle.channel.specs.Prescaler.{ticks_of, phase_after, runs, advanced}
use Rattle.channel.specs.Matches.{points_met, matches_in, matches_of}

-- the channel with pending clear
abbrev clear : HardwareTimer → HardwareTimer
clear h = with_flags false h.armed h

module _ (mode : ℕ) (rule : HardwareTimer → HardwareTimer) (h : HardwareTimer) where
  -- on a match
  pub met_by : (rule (clear h)).pending ≡ true → matches_in mode rule h ≡ points_met mode (rule h).counter h
  unfolding matches_in
  met_by e = ap (λ (v : Bool). cond v (points_met mode (rule h).counter h) 0) e

  -- without one
  pub unmet-by : (rule (clear h)).pending ≡ false → matches_in mode rule h ≡ 0
  unfolding matches_in
  unmet-by e = ap (λ (v : Bool). cond v (points_met mode (rule h).counter h) 0) e

  -- a rule that gives the same meets the same points
  pub matches-same : (other : HardwareTimer → HardwareTimer) → rule h ≡ other h → rule (clear h) ≡ other (clear h) →
      matches_in mode rule h ≡ matches_in mode other h
  unfolding matches_in
  matches-same other e p =
      ap (λ (r : HardwareTimer). cond r.pending (points_met mode (rule h).counter h) 0) p
      ∙ ap (λ (r : HardwareTimer). cond (other (clear h)).pending (points_met mode r.counter h) 0) e

-- ---- by the mode

module _ (t : ℕ) (h : HardwareTimer) where
  -- mode 0: at compare or past it, reached, and not reached
  pub one_shot_past : h.compare ≤ h.counter → matches_in 0 (one_shot t) h ≡ 1
  unfolding points_met one_shot
  one_shot_past l = met_by 0 (one_shot t) h (rw (le-leb h.compare h.counter l))

  module _ (ahead : h.counter < h.compare) where
    pub one_shot_reached : h.compare - h.counter ≤ t → matches_in 0 (one_shot t) h ≡ 1
    unfolding points_met one_shot
    one_shot_reached l =
        met_by 0 (one_shot t) h (rw (lt-leb h.compare h.counter ahead, le-leb (h.compare - h.counter) t l))

    pub one_shot_ahead : t < h.compare - h.counter → matches_in 0 (one_shot t) h ≡ 0
    unfolding one_shot
    one_shot_ahead l =
        unmet-by 0 (one_shot t) h (rw (lt-leb h.compare h.counter ahead, lt-leb (h.compare - h.counter) t l))

  -- mode 1
  pub periodic_matches : matches_in 1 (periodic t) h
      ≡ matches_in 1 matched (with_counter (min (h.counter + t) largest) h)
  unfolding matches_in periodic points_met
  periodic_matches = refl

  -- mode 2
  abbrev reached : Bool
  reached = h.armed && leb (distance h.counter h.compare) t

  pub free_met : reached ≡ true → matches_in 2 (free_running t) h ≡ 1
  unfolding points_met free_running
  free_met e =
      met_by 2 (free_running t) h (ap (λ (v : Bool). (cond v (with_flags true false h) (clear h)).pending) e)

  pub free_unmet : reached ≡ false → matches_in 2 (free_running t) h ≡ 0
  unfolding free_running
  free_unmet e =
      unmet-by 2 (free_running t) h (ap (λ (v : Bool). (cond v (with_flags true false h) (clear h)).pending) e)

-- a periodic channel that is at its compare point or past it sets pending, and leaves its counter
module _ (h : HardwareTimer) where
  reloaded-keeps : ((reloaded h).pending ≡ true) × ((reloaded h).counter ≡ h.counter)
  unfolding reloaded
  reloaded-keeps =
      choose P (eqb h.reload 0) (λ _. (refl, refl))
      (λ _. choose P (ltb largest (next_compare h)) (λ _. (refl, refl)) (λ _. (refl, refl)))
    where
      P : HardwareTimer → Type 0
      P r = (r.pending ≡ true) × (r.counter ≡ h.counter)

module _ (h : HardwareTimer) where
  pub matched_past : h.compare ≤ h.counter → matches_in 1 matched h ≡ points_met 1 h.counter h
  unfolding matched
  matched_past l =
      let e = le-leb h.compare h.counter l in
      met_by 1 matched h (rw e (reloaded-keeps (clear h)).0)
      ∙ ap (λ (n : ℕ). points_met 1 n h) (rw e (reloaded-keeps h).1)

  pub matched_ahead : h.counter < h.compare → matches_in 1 matched h ≡ 0
  unfolding matched
  matched_ahead l = unmet-by 1 matched h (rw (lt-leb h.compare h.counter l))

-- ---- ticks and cycles

module _ (t : ℕ) (h : HardwareTimer) where
  abbrev mode : ℕ
  mode = mode_of h.control

  pub no_ticks : t ≡ 0 → matches_in mode (ticked t) h ≡ 0
  unfolding ticked
  no_ticks e = unmet-by mode (ticked t) h (rw (eq-eqb t 0 e))

  -- the rule of the mode; k is the mode
  by_mode : (k : ℕ) → t ≢ 0 → mode ≡ k → (rule : HardwareTimer → HardwareTimer) →
      ((x : HardwareTimer) → ticked_in k t x ≡ rule x) → matches_in mode (ticked t) h ≡ matches_in k rule h
  unfolding ticked
  by_mode k n e rule same =
      matches-same mode (ticked t) h rule (rw (ne_eqb t 0 n, e) (same h)) (rw (ne_eqb t 0 n, e) (same (clear h)))
      ∙ ap (λ (m : ℕ). matches_in m rule h) e

  pub one-shot-mode : t ≢ 0 → mode ≡ 0 → matches_in mode (ticked t) h ≡ matches_in 0 (one_shot t) h
  unfolding ticked_in
  one-shot-mode n e = by_mode 0 n e (one_shot t) (λ x. refl)

  pub periodic-mode : t ≢ 0 → mode ≡ 1 → matches_in mode (ticked t) h ≡ matches_in 1 (periodic t) h
  unfolding ticked_in
  periodic-mode n e = by_mode 1 n e (periodic t) (λ x. refl)

  pub free-mode : t ≢ 0 → mode ≡ 2 → matches_in mode (ticked t) h ≡ matches_in 2 (free_running t) h
  unfolding ticked_in
  free-mode n e = by_mode 2 n e (free_running t) (λ x. refl)

  pub idle-mode : t ≢ 0 → mode ≡ 3 → matches_in mode (ticked t) h ≡ 0
  unfolding ticked_in
  idle-mode n e = by_mode 3 n e (λ x. x) (λ x. refl) ∙ unmet-by 3 (λ x. x) h refl

module _ (selected : Bool) (c : ℕ) (h : HardwareTimer) where
  pub ran_matches : runs selected h ≡ true →
      matches_of selected c h ≡ matches_in (mode_of h.control) (ticked (ticks_of c h)) (with_phase (phase_after c h) h)
  unfolding matches_in points_met advanced
  ran_matches r =
      matches-same (mode_of h.control) (advanced selected c) h
      (λ (x : HardwareTimer). ticked (ticks_of c h) (with_phase (phase_after c h) x)) (rw r) (rw r)

  pub still-matches : runs selected h ≡ false → matches_of selected c h ≡ 0
  unfolding advanced
  still-matches r = unmet-by (mode_of h.control) (advanced selected c) h (rw r)

-- ---- the laws of one function's branches, for its proof

pub ruleset one_shot_laws = (one_shot_past, one_shot_reached, one_shot_ahead)

pub ruleset matched_laws = (matched_past, matched_ahead)

pub ruleset free_laws = (free_met, free_unmet)

pub ruleset run_laws = (ran_matches, still-matches)
