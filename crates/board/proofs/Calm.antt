-- Where the clock does not run from host time the host's seconds have no part in what an advance does: a board with
-- them set to 0, a calm one, goes through a list of the promise's calls as the board itself does. So the steps of such
-- a list are those of calm boards, and host times of any seconds are among its calls. Assumes nothing.
use Prim.Native.Nat.{ℕ, ◌/◌, ◌%◌, ◌+◌, ◌-◌}
use native.Mathlib.Omega.{arith}
use mathlib.Core.Path.{◌≡◌, refl, ap, ◌∙◌, subst}
use mathlib.Core.Bool.{Bool, true, false, cond, ◌&&◌}
use lib.Dec.{leb, ltb}
use borrow.Author.Tests.{leb-false}
use Rattle.wide.specs.Number.{largest}
use Rattle.wide.proofs.Choices.{choose, either}
use Rattle.clock.specs.declared.HostTime.{HostTime as HostTimeOf}
use Rattle.clock.specs.declared.Clock.{Clock}
use Rattle.clock.specs.Clock.{
  rate_of,
  nanos_per_second,
  from_host,
  own_time,
  own_nanoseconds,
  time_of,
  time_seconds,
  fired,
  alarm_reached,
  check_alarm,
  moved_time,
  end_advance,
  advance_clock,
}
use Rattle.clock.specs.Sound.{sound_fields, alarm_ahead, sound_clock}
use Rattle.clock.specs.Fields.{with_time, with_alarm, with_poll, with_host}
use Rattle.clock.specs.Deadline.{clock_deadline}
use Rattle.board.specs.declared.Board.{Board}
use Rattle.board.specs.declared.calls.Call.{Call}
use Rattle.board.specs.Fields.{with_clock}
use Rattle.board.specs.Board.{BoardFits, line, exact_deadline, wired, sound_parts, sound}
use Rattle.board.specs.Calls.{advance_by, host_time_to, moved_board, advanced_board}
use Rattle.board.specs.Demand.{PassesTime, after, adds}
use Rattle.board.specs.Kept.{Good}
use Rattle.board.proofs.Good.{good, good-sound}
use Rattle.board.proofs.Steps.{
  board_due,
  Step,
  advance_step,
  same_step,
  host-step,
  advance_accepted,
  host_accepted,
  host_refused,
  host_adds,
  passing_cases,
}

-- ---- a calm clock

abbrev calm_host : HostTimeOf → HostTimeOf
calm_host h = record { seconds = 0; nanoseconds = h.nanoseconds }

abbrev calm_clock : Clock → Clock
calm_clock k = with_host (calm_host k.host) k

calm_choice : (t : Bool) (x y : Clock) → cond t (calm_clock x) (calm_clock y) ≡ calm_clock (cond t x y)
calm_choice true x y = refl
calm_choice false x y = refl

module _ (rate c : ℕ) (k : Clock) where
  moved-calm : moved_time rate c (calm_clock k) ≡ calm_clock (moved_time rate c k)
  unfolding moved_time
  moved-calm =
      let e = (k.subsecond + c) / rate in
      let x = with_time largest 0 k in
      let y = with_time (k.seconds + e) ((k.subsecond + c) % rate) k in
      let u = ltb (largest - k.seconds) e in
      let t = own_time k.control && ltb 0 c in
      ap (λ (j : Clock). cond t j (calm_clock k)) (calm_choice u x y) ∙ calm_choice t (cond u x y) k

  moved-own : from_host k.control ≡ false → from_host (moved_time rate c k).control ≡ false
  unfolding moved_time
  moved-own o =
      let P : Clock → Type 0 = λ j. from_host j.control ≡ false in
      choose P (own_time k.control && ltb 0 c)
      (λ _. choose P (ltb (largest - k.seconds) ((k.subsecond + c) / rate)) (λ _. o) (λ _. o))
      (λ _. o)

module _ (rate : ℕ) (k : Clock) (o : from_host k.control ≡ false) where
  reached-calm : alarm_reached rate (calm_clock k) ≡ alarm_reached rate k
  unfolding alarm_reached time_seconds time_of own_nanoseconds
  reached-calm = rw o refl

  check-calm : check_alarm rate (calm_clock k) ≡ calm_clock (check_alarm rate k)
  unfolding check_alarm
  check-calm =
      let x = with_alarm (fired k.alarm) k in
      ap (λ (t : Bool). cond t (calm_clock x) (calm_clock k)) reached-calm ∙ calm_choice (alarm_reached rate k) x k

end_calm : (rate c : ℕ) (k : Clock) → from_host k.control ≡ false →
    end_advance rate c (calm_clock k) ≡ calm_clock (end_advance rate c k)
unfolding end_advance
end_calm rate c k o = rw o (check-calm rate (with_poll 0 k) o)

advance_calm : (rate c : ℕ) (k : Clock) → from_host k.control ≡ false →
    advance_clock rate c (calm_clock k) ≡ calm_clock (advance_clock rate c k)
unfolding advance_clock
advance_calm rate c k o =
    ap (end_advance rate c) (moved-calm rate c k) ∙ end_calm rate c (moved_time rate c k) (moved-own rate c k o)

-- ---- a calm board

abbrev pub calm : Board → Board
calm b = with_clock (calm_clock b.clock) b

module _ (b : Board) where
  pub calm-line : line (calm b) ≡ line b
  unfolding line
  calm-line = refl

  pub calm-due : (t : ℕ) → board_due (calm b) t ≡ board_due b t
  unfolding board_due line exact_deadline clock_deadline
  calm-due t = refl

  calm-sound : sound (calm b) ≡ sound b
  unfolding sound sound_parts sound_clock sound_fields alarm_ahead line
  calm-sound = refl

  -- a good board is good when it is calm
  pub calm-good : BoardFits b → sound b ≡ true → Good (rate_of b.clock) (calm b)
  calm-good f s =
      good (calm b)
      (record {
        four = f.four;
        timers = f.timers;
        clock =
            record {
              seconds = f.clock.seconds;
              offset = f.clock.offset;
              alarm = f.clock.alarm;
              shadow = f.clock.shadow;
              alarm_shadow = f.clock.alarm_shadow;
              host = omega arith;
            };
        latches = f.latches;
        controller = f.controller;
      })
      (calm-sound ∙ s)

  advanced-calm : (c : ℕ) → from_host b.clock.control ≡ false → advanced_board c (calm b) ≡ calm (advanced_board c b)
  unfolding advanced_board moved_board wired line
  advanced-calm c o =
      ap (λ (k : Clock). wired (with_clock k (moved_board c b))) (advance_calm (rate_of b.clock) c b.clock o)

  -- ---- a call, refused or not, as a step of calm boards

  module _ {rate : ℕ} (g : Good rate (calm b)) (o : from_host b.clock.control ≡ false) where
    abbrev Calmed : Call → Type 0
    Calmed a = Step rate (adds a b) (calm b) (calm (after a b))

    s : sound b ≡ true
    s = rw calm-sound at (good-sound g)

    advances : (c : ℕ) → Calmed (advance_by c)
    advances c =
        let e = advance_accepted c b s in
        rw (e.0, e.1) (subst (Step rate c (calm b)) (advanced-calm c o) (advance_step c (calm b) g))

    hosts : (h : HostTimeOf) → Calmed (host_time_to h)
    unfolding wired line
    hosts h =
        rw (host_adds h b)
        (either (leb nanos_per_second h.nanoseconds) (λ e. rw (host_refused h b s e) (same_step (calm b) g))
        (λ e. rw (host_accepted h b s e)
        (host-step (calm_host h) (calm b) (omega arith) (leb-false nanos_per_second h.nanoseconds e) g)))

    pub calm-step : (call : Call) → PassesTime call → Step rate (adds call b) (calm b) (calm (after call b))
    calm-step call p = passing_cases Calmed hosts advances call p
