-- What a contract quotes of the deadline. Each theorem is about a sound machine board. In the first two parts its line
-- is low and its clock does not run from host time: its deadline is d, or it gives none. In the third its clock has a
-- deadline of its own. The last has the bounds of every deadline. Assumes nothing.
use Prim.Native.Nat.{ℕ, suc, ◌+◌, ◌-◌, ◌*◌, ◌^◌, ◌≤◌, ◌<◌}
use native.Mathlib.Nat.{mul-le-mul}
use native.Mathlib.Omega.{arith}
use mathlib.Core.Path.{◌≡◌, sym, ap, subst, ◌∙◌}
use mathlib.Core.Bool.{true, false, not, ◌&&◌, ◌||◌, or-false, or-true, false≢true}
use mathlib.Core.Option.{Option, none, some}
use mathlib.Core.List.{List, [], ◌∷◌}
use lib.Dec.{leb}
use borrow.Author.Tests.{le-leb, lt-leb}
use Rattle.wide.specs.Bits.{bit}
use Rattle.wide.specs.Deadline.{due, sooner}
use Rattle.wide.proofs.Choices.{either, and_parts, leb_same}
use Rattle.wide.proofs.Deadlines.{due-sooner, due_is}
use Rattle.channel.specs.declared.HardwareTimer.{HardwareTimer}
use Rattle.channel.specs.Deadline.{deadline_of}
use Rattle.channel.proofs.Sound.{GoodTimer}
use Rattle.channel.proofs.Law.{Within, within_bounds}
use Rattle.clock.specs.Clock.{rate_of, from_host, own_time}
use Rattle.clock.specs.Deadline.{awaited, to_alarm, clock_deadline}
use Rattle.clock.proofs.Rate.{rate-fits}
use Rattle.board.specs.declared.Board.{Board}
use Rattle.board.specs.declared.calls.Call.{Call}
use Rattle.board.specs.Loops.{All, fold_from}
use Rattle.board.specs.Board.{BoardFits, line, exact_deadline, sound}
use Rattle.board.specs.Channels.{soonest_of}
use Rattle.board.specs.Calls.{is_present, or_zero, advanced_board}
use Rattle.board.specs.Demand.{PassesTime, after_all, cycles_passed, source3}
use Rattle.board.proofs.Soundness.{sound_facts, clock_facts}
use Rattle.board.proofs.Good.{good, good-parts}
use Rattle.board.proofs.Steps.{board_due, line-due, advance_step}
use Rattle.board.proofs.Demand3.{line_after, source-after}

module _ (b : Board) (f : BoardFits b) (s : sound b ≡ true) (low : line b ≡ false)
    (o : from_host b.clock.control ≡ false)
    (d : ℕ) (given : exact_deadline b ≡ some d) where
  module _ (calls : List Call) (w : All PassesTime calls) where
    abbrev passed : ℕ
    passed = cycles_passed calls b

    -- the line after a list of calls, by the cycles that passed
    line-is : line (after_all calls b) ≡ leb d passed
    line-is = line_after b f s low o calls w ∙ ap (λ (x : Option ℕ). due x passed) given

    pending-is : source3 (after_all calls b) ≡ (source3 b || leb d passed)
    pending-is = source-after b f s low o calls w ∙ ap (λ (x : Option ℕ). source3 b || due x passed) given

    -- as long as the cycles add up to less than D, split in any way, the line is low
    pub low-below-deadline : cycles_passed calls b < d → line (after_all calls b) ≡ false
    low-below-deadline l = line-is ∙ lt-leb d passed l

    -- and source 3's pending bit is as it was
    pub kept-below-deadline : cycles_passed calls b < d → source3 (after_all calls b) ≡ source3 b
    kept-below-deadline l = pending-is ∙ ap (λ v. source3 b || v) (lt-leb d passed l) ∙ or-false (source3 b)

    -- as soon as they add up to D or more it is high
    pub high-from-deadline : d ≤ cycles_passed calls b → line (after_all calls b) ≡ true
    high-from-deadline l = line-is ∙ le-leb d passed l

    -- and source 3's pending bit is set
    pub pending-from-deadline : d ≤ cycles_passed calls b → source3 (after_all calls b) ≡ true
    pending-from-deadline l = pending-is ∙ ap (λ v. source3 b || v) (le-leb d passed l) ∙ or-true (source3 b)

  -- what is due after one advance
  due-after : (c t : ℕ) → board_due (advanced_board c b) t ≡ leb d (c + t)
  unfolding board_due
  due-after c t =
      (advance_step c b (good b f s)).due o t ∙ rw (low, given)

  -- one advance shows the interrupt exactly where it reaches the deadline
  pub advance-reaches : (c : ℕ) → line (advanced_board c b) ≡ leb d c
  advance-reaches c =
      line-due (advanced_board c b) (advance_step c b (good b f s)).good
      ∙ due-after c 0
      ∙ leb_same d (c + 0) d c (λ p. omega arith) (λ p. omega arith)

  -- below the deadline, the deadline that is left is less by the advance
  pub deadline-falls : (c : ℕ) → c < d → exact_deadline (advanced_board c b) ≡ some (d - c)
  unfolding board_due
  deadline-falls c l =
      due_is (exact_deadline (advanced_board c b)) (d - c)
      (λ t. sym (ap (λ v. v || due (exact_deadline (advanced_board c b)) t) (advance-reaches c ∙ lt-leb d c l))
      ∙ due-after c t
      ∙ leb_same d (c + t) (d - c) t (λ p. omega arith) (λ p. omega arith))

-- where it gives no deadline
module _ (b : Board) (f : BoardFits b) (s : sound b ≡ true) (low : line b ≡ false)
    (o : from_host b.clock.control ≡ false) (none_given : exact_deadline b ≡ none)
    (calls : List Call) (w : All PassesTime calls) where
  -- no number of cycles raises the line
  pub low-without-deadline : line (after_all calls b) ≡ false
  low-without-deadline = line_after b f s low o calls w
      ∙ ap (λ (x : Option ℕ). due x (cycles_passed calls b)) none_given

  -- or changes source 3's pending bit
  pub kept-without-deadline : source3 (after_all calls b) ≡ source3 b
  kept-without-deadline =
      source-after b f s low o calls w
      ∙ ap (λ (x : Option ℕ). source3 b || due x (cycles_passed calls b)) none_given
      ∙ or-false (source3 b)

-- where the clock has a deadline of its own, by the board's rate
module _ (b : Board) (f : BoardFits b) (s : sound b ≡ true) where
  ahead : awaited b.clock ≡ true → b.clock.seconds < b.clock.alarm.seconds
  ahead a =
      let k = b.clock in
      let waits = k.alarm.armed && not k.alarm.pending in
      let p = and_parts (own_time k.control) (bit 0 k.alarm.enable && waits) a in
      let q = and_parts (bit 0 k.alarm.enable) waits p.1 in
      let r = and_parts k.alarm.armed (not k.alarm.pending) q.1 in
      (clock_facts b f.clock s).ahead r.0 p.0

  awaited-is : awaited b.clock ≡ true →
      clock_deadline (rate_of b.clock) b.clock ≡ some (to_alarm (rate_of b.clock) b.clock)
  unfolding clock_deadline
  awaited-is a = rw (a, lt-leb b.clock.alarm.seconds b.clock.seconds (ahead a))

  resting-is : awaited b.clock ≡ false → clock_deadline (rate_of b.clock) b.clock ≡ none
  unfolding clock_deadline
  resting-is a = rw a

  module _ (n : ℕ) (own : clock_deadline (rate_of b.clock) b.clock ≡ some n) where
    -- it is the cycles to the alarm
    pub clock-deadline : n ≡ to_alarm (rate_of b.clock) b.clock
    clock-deadline =
        either (awaited b.clock) (λ a. ap or_zero (sym own ∙ awaited-is a))
        (λ a. absurd (false≢true (ap is_present (sym (resting-is a) ∙ own))))

    -- and the board has a deadline, which is that or less
    pub deadline-within : due (exact_deadline b) n ≡ true
    unfolding exact_deadline
    deadline-within =
        let channels = soonest_of b.timer_enable b.timers in
        due-sooner channels (clock_deadline (rate_of b.clock) b.clock) n
        ∙ ap (λ (x : Option ℕ). due channels n || due x n) own
        ∙ ap (λ v. due channels n || v) (le-leb n n (omega arith))
        ∙ or-true (due channels n)

-- ---- the bounds of a deadline

-- the sooner of two is within what both are
sooner-within : (n : ℕ) (x y : Option ℕ) → Within n x → Within n y → Within n (sooner x y)
sooner-within n none y p q = q
sooner-within n (some d) none p q = p
sooner-within n (some d) (some e) p q = (omega (arith, p.0, q.0), omega (arith, p.1))

soonest_within : (enable k : ℕ) (ts : List HardwareTimer) → All GoodTimer ts →
    Within (2 ^ 96) (fold_from (λ i h. deadline_of (bit i enable) h) sooner none k ts)
unfolding fold_from
soonest_within enable k [] g = tt
soonest_within enable k (h ∷ ts) g =
    sooner-within (2 ^ 96) (deadline_of (bit k enable) h)
    (fold_from (λ i t. deadline_of (bit i enable) t) sooner none (suc k) ts)
    (within_bounds (bit k enable) h g.0.fits g.0.phase)
    (soonest_within enable (suc k) ts g.1)

-- left is the seconds to an alarm
alarm_within : (left rate subsecond : ℕ) → 0 < left → left ≤ 2 ^ 64 → subsecond < rate → rate ≤ 2 ^ 32 →
    Within (2 ^ 96) (some (left * rate - subsecond))
alarm_within left rate subsecond p l q r =
    let least : 1 * rate ≤ left * rate = mul-le-mul p (omega arith) in
    let most : left * rate ≤ 2 ^ 64 * 2 ^ 32 = mul-le-mul l r in
    (omega arith, omega arith)

module _ (b : Board) (f : BoardFits b) (s : sound b ≡ true) where
  clock-within : Within (2 ^ 96) (clock_deadline (rate_of b.clock) b.clock)
  clock-within =
      let k = b.clock in
      either (awaited k)
      (λ a. let l = ahead b f s a in
      rw (awaited-is b f s a)
      (alarm_within (k.alarm.seconds - k.seconds) (rate_of k) k.subsecond (omega arith)
      (omega (arith, f.clock.alarm)) (clock_facts b f.clock s).parts.subsecond
      (rate-fits (rate_of k) (sound_facts b s).rate)))
      (λ a. rw (resting-is b f s a) tt)

  -- a deadline is at least 1 and at most 2^96, whether the line is low or high and whatever the clock runs from
  pub deadline_bounds : (d : ℕ) → exact_deadline b ≡ some d → (1 ≤ d) × (d ≤ 2 ^ 96)
  unfolding exact_deadline
  deadline_bounds d given =
      subst (Within (2 ^ 96)) given
      (sooner-within (2 ^ 96) (soonest_of b.timer_enable b.timers)
      (clock_deadline (rate_of b.clock) b.clock)
      (soonest_within b.timer_enable 0 b.timers (good-parts (good b f s)).timers) clock-within)
