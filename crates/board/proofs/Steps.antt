-- One call on a good board: it stays good, what is due moves by the cycles that the call adds, and source 3 is
-- latched by a rise of the line. Assumes nothing.
use Prim.Native.Nat.{ℕ, ◌+◌, ◌^◌, ◌<◌}
use native.Mathlib.Nat.{zero-add, add-zero}
use native.Mathlib.Omega.{arith}
use mathlib.Core.Path.{◌≡◌, refl, sym, ap, ap₂, ◌∙◌}
use mathlib.Core.Bool.{Bool, true, false, not, ◌&&◌, ◌||◌, and-not_self, or-true, false≢true}
use lib.Dec.{leb, eqb}
use borrow.Author.Tests.{leb-false}
use Rattle.wide.specs.Bits.{bit}
use Rattle.wide.specs.Deadline.{due}
use Rattle.wide.proofs.Choices.{either}
use Rattle.wide.proofs.Deadlines.{due-sooner}
use Rattle.clock.specs.declared.HostTime.{HostTime as HostTimeOf}
use Rattle.clock.specs.Clock.{rate_of, nanos_per_second, from_host}
use Rattle.clock.specs.Fields.{with_host}
use Rattle.clock.specs.Deadline.{clock_line, clock_deadline}
use Rattle.clock.proofs.Law.{
  clock_due,
  advance_due as clock-advance-due,
  advance_own,
  host_due,
  due-host,
  line-due as clock-line-due,
}
use Rattle.controller.proofs.Laws.{pending_set}
use Rattle.board.specs.declared.Board.{Board}
use Rattle.board.specs.declared.calls.Call.{Call}
use Rattle.board.specs.declared.calls.Call.TheVariants.{
  HostTime,
  Read,
  Write,
  Advance,
  Deadline,
  Skip,
  Source,
  ControllerRead,
  ControllerWrite,
  Output,
}
use Rattle.board.specs.Channels.{any_line, soonest_of}
use Rattle.board.specs.Fields.{with_clock}
use Rattle.board.specs.Board.{line, exact_deadline, wired, sound}
use Rattle.board.specs.Calls.{
  advance_by,
  host_time_to,
  host_time_refusal,
  moved_board,
  advanced_board,
  board_after,
  answer_of,
}
use Rattle.board.specs.Demand.{PassesTime, after, adds, source3}
use Rattle.board.proofs.FourChannels.{
  or_swap,
  channels_due,
  channels-advance-due,
  channels-line-due,
  channels-kept,
}
use Rattle.board.proofs.Soundness.{sound_facts, wired_line}
use Rattle.board.specs.Kept.{Good}
use Rattle.board.proofs.Good.{good-sound, own-parts}
use Rattle.board.proofs.Kept.{advanced_good, hosted-good}

-- ---- what is due

-- the line is high t cycles from here: it is now, or the deadline is reached
unfoldable pub board_due : Board → ℕ → Bool
board_due b t = line b || due (exact_deadline b) t

due_parts : (b : Board) (t : ℕ) →
    board_due b t ≡ (channels_due b.timer_enable 0 b.timers t || clock_due (rate_of b.clock) b.clock t)
unfolding board_due line exact_deadline channels_due clock_due
due_parts b t =
    rw due-sooner
    (or_swap (any_line b.timers) (clock_line b.clock) (due (soonest_of b.timer_enable b.timers) t)
    (due (clock_deadline (rate_of b.clock) b.clock) t))

-- the line is what is due at once
pub line-due : {rate : ℕ} (b : Board) → Good rate b → line b ≡ board_due b 0
unfolding line
line-due b g =
    let p = own-parts g in
    ap₂ ◌||◌ (channels-line-due b.timer_enable 0 b.timers p.timers)
    (clock-line-due (rate_of b.clock) b.clock p.clock)
    ∙ sym (due_parts b 0)

-- ---- source 3 is set to the line

module _ (b : Board) where
  wired-due : (t : ℕ) → board_due (wired b) t ≡ board_due b t
  unfolding board_due line exact_deadline wired
  wired-due t = refl

  -- where it was at the line x, it is latched by a rise of the line
  wired-source : (x : Bool) → bit 3 b.controller.levels ≡ x →
      source3 (wired b) ≡ ((line (wired b) && not x) || source3 b)
  unfolding wired
  wired-source x e =
      pending_set b.controller 3 (line b) (omega arith)
      ∙ ap (λ v. (line b && not v) || source3 b) e
      ∙ ap (λ v. (v && not x) || source3 b) (sym (wired_line b))

-- ---- steps

-- y is x after c cycles: it is good, and where the clock does not run from host time, what is due and latched is said
pub record Step (rate c : ℕ) (x y : Board) : Type 0 where
  pub good : Good rate y
  pub own : from_host x.clock.control ≡ false → from_host y.clock.control ≡ false
  pub due : from_host x.clock.control ≡ false → (t : ℕ) → board_due y t ≡ board_due x (c + t)
  pub source : source3 y ≡ ((line y && not (line x)) || source3 x)

module _ (c : ℕ) (b : Board) {rate : ℕ} (g : Good rate b) where
  -- before source 3 is set
  abbrev moved : Board
  moved = moved_board c b

  pub advance_step : Step rate c b (advanced_board c b)
  unfolding advanced_board moved_board wired
  advance_step =
      let p = own-parts g in
      let r = rate_of b.clock in
      let y = advanced_good g c in
      record {
        good = y;
        own = advance_own r c b.clock p.clock;
        due = λ o t.
            wired-due moved t
            ∙ due_parts moved t
            ∙ ap₂ ◌||◌ (channels-advance-due b.timer_enable c 0 b.timers p.timers t)
            (ap (λ (n : ℕ). clock_due n moved.clock t) (y.own ∙ sym g.own)
            ∙ clock-advance-due r c b.clock p.clock o t)
            ∙ sym (due_parts b (c + t));
        source = wired-source moved (line b) (sound_facts b g.sound).level;
      }

  -- what is due of a low line is high after the advance, whatever the clock runs from: from host time it has no
  -- deadline of its own, so that the channels are due
  pub advance_rises : line b ≡ false → due (exact_deadline b) c ≡ true → line (advanced_board c b) ≡ true
  unfolding advanced_board moved_board line board_due
  advance_rises low d =
      either (from_host b.clock.control)
      (λ h. wired_line moved
      ∙ ap (λ v. v || clock_line moved.clock)
      (channels-line-due e 0 moved.timers (channels-kept e c 0 b.timers (own-parts g).timers)
      ∙ channels-advance-due e c 0 b.timers (own-parts g).timers 0
      ∙ from_channels h))
      (λ o. line-due (wired moved) advance_step.good ∙ advance_step.due o 0 ∙ rw (low, add-zero) d)
    where
      e : ℕ
      e = b.timer_enable

      -- a low line, high by the first of two parts
      first : (x y z : Bool) → (z || y) ≡ false → (x || y) ≡ true → x ≡ true
      first true y z l t = refl
      first false true true l t = absurd (false≢true (sym l))
      first false true false l t = absurd (false≢true (sym l))
      first false false z l t = absurd (false≢true t)

      from_channels : from_host b.clock.control ≡ true → channels_due e 0 b.timers (c + 0) ≡ true
      from_channels h =
          rw add-zero
          (first (channels_due e 0 b.timers c) (clock_line b.clock) (any_line b.timers) low
          (ap (λ v. channels_due e 0 b.timers c || v) (sym (due-host (rate_of b.clock) b.clock c h))
          ∙ sym (due_parts b c) ∙ ap (λ v. line b || v) d ∙ or-true (line b)))

pub same_step : {rate : ℕ} (b : Board) → Good rate b → Step rate 0 b b
same_step b g =
    record {
      good = g;
      own = λ o. o;
      due = λ o t. ap (board_due b) (sym (zero-add t));
      source = sym (ap (λ v. v || source3 b) (and-not_self (line b)));
    }

module _ (h : HostTimeOf) (b : Board) {rate : ℕ} (w : h.seconds < 2 ^ 64) (n : h.nanoseconds < nanos_per_second)
    (g : Good rate b) where
  abbrev hosted : Board
  hosted = with_clock (with_host h b.clock) b

  hosted-due : (t : ℕ) → board_due hosted t ≡ board_due b t
  hosted-due t =
      due_parts hosted t
      ∙ ap (λ v. channels_due b.timer_enable 0 b.timers t || v) (host_due (rate_of b.clock) h b.clock t)
      ∙ sym (due_parts b t)

  pub host-step : Step rate 0 b (board_after (host_time_to h) b)
  unfolding wired
  host-step =
      record {
        good = hosted-good g h (record { word = w; small = n });
        own = λ o. o;
        due = λ o t. wired-due hosted t ∙ hosted-due t ∙ ap (board_due b) (sym (zero-add t));
        source = wired-source hosted (line b) (sound_facts b g.sound).level;
      }

-- ---- a call, refused or not

pub advance_accepted : (c : ℕ) (b : Board) → sound b ≡ true →
    (after (advance_by c) b ≡ advanced_board c b) × (adds (advance_by c) b ≡ c)
unfolding after adds answer_of advanced_board
advance_accepted c b e = (rw (e, after), rw (e, adds))

pub host_accepted : (h : HostTimeOf) (b : Board) → sound b ≡ true → leb nanos_per_second h.nanoseconds ≡ false →
    after (host_time_to h) b ≡ board_after (host_time_to h) b
unfolding after answer_of host_time_refusal
host_accepted h b e n = rw (n, e, after)

pub host_refused : (h : HostTimeOf) (b : Board) → sound b ≡ true → leb nanos_per_second h.nanoseconds ≡ true →
    after (host_time_to h) b ≡ b
unfolding after answer_of host_time_refusal
host_refused h b e n = rw (n, e, after)

pub host_adds : (h : HostTimeOf) (b : Board) → adds (host_time_to h) b ≡ 0
unfolding adds
host_adds h b = either (eqb (answer_of (host_time_to h) b).refusal 0) (λ e. rw e) (λ e. rw e)

-- an advance, and a host time whose seconds are a word
module _ {rate : ℕ} (b : Board) (g : Good rate b) where
  pub advance-call-step : (c : ℕ) → Step rate (adds (advance_by c) b) b (after (advance_by c) b)
  advance-call-step c = let e = advance_accepted c b (good-sound g) in rw (e.0, e.1) (advance_step c b g)

  pub host-call-step : (h : HostTimeOf) → h.seconds < 2 ^ 64 →
      Step rate (adds (host_time_to h) b) b (after (host_time_to h) b)
  host-call-step h w =
      rw (host_adds h b)
      (either (leb nanos_per_second h.nanoseconds) (λ e. rw (host_refused h b (good-sound g) e) (same_step b g))
      (λ e. rw (host_accepted h b (good-sound g) e)
      (host-step h b w (leb-false nanos_per_second h.nanoseconds e) g)))

-- a call of the promise's lists is one of two
pub passing_cases : (P : Call → Type 0) → ((h : HostTimeOf) → P (host_time_to h)) → ((c : ℕ) → P (advance_by c)) →
    (call : Call) → PassesTime call → P call
passing_cases P host advance (HostTime nanoseconds seconds) p =
    host (record { seconds = seconds; nanoseconds = nanoseconds })
passing_cases P host advance (Read address) p = absurd p
passing_cases P host advance (Write byte address) p = absurd p
passing_cases P host advance (Advance c) p = advance c.0
passing_cases P host advance Deadline p = absurd p
passing_cases P host advance Skip p = absurd p
passing_cases P host advance (Source number level) p = absurd p
passing_cases P host advance (ControllerRead address) p = absurd p
passing_cases P host advance (ControllerWrite byte address) p = absurd p
passing_cases P host advance Output p = absurd p
