-- The call at the front of a run, where its step is known: what its arm may use of the run under way. Assumes nothing.
use mathlib.Core.Path.{◌≡◌, ap, subst}
use mathlib.Core.Bool.{true}
use mathlib.Core.List.{List}
use Rattle.std.specs.Prelude.{Ok}
use Prim.Native.Nat.{ℕ, ◌+◌, ◌-◌, ◌≤◌, ◌<◌}
use lib.ListN.{length, take, drop}
use Rattle.board.specs.declared.Board.{Board}
use Rattle.board.specs.Board.{sound}
use Rattle.clock.specs.Clock.{rate_of}
use Rattle.clock.specs.Sound.{Timed}
use Rattle.board.proofs.Good.{good-sound}
use Rattle.registers.proofs.Timing.{sound_times}
use Rattle.board.specs.declared.calls.Call.{Call}
use Rattle.format.specs.Format.{value_bytes}
use Rattle.format.specs.Codec.{call_at, call_length, record_length, refusal_at}
use Rattle.format.proofs.Frames.{part_rest}
use Rattle.steps.specs.declared.Step.{Step}
use Rattle.steps.specs.declared.Changes.{Changes}
use Rattle.steps.specs.CodeSteps.{StepIs, Changed, other_call}
use Rattle.list.specs.declared.Counts.{Counts}
use Rattle.list.specs.Run.{Outcome}
use Rattle.list.proofs.Runs.{Running, state_of, written-inside}
use Rattle.steps.proofs.Calls.{Other, OtherDoes, other_does, other_size}

-- what is left of the list, as the code takes it
abbrev pub rest : List ℕ → ℕ → List ℕ
rest list used = take (length list - used) (drop used list)

-- a run under way, with a call at the front and its step
pub record At (list answers₀ : List ℕ) (s₀ : Outcome) (answers : List ℕ) (b : Board) (d : Counts) (step : Step)
    : Type 0 where
  pub running : Running list answers₀ s₀ answers (state_of b d)
  pub more : d.used < length list
  pub is : StepIs b (rest list d.used) (length answers - d.written) (Ok step)

pub at_step : {list answers₀ : List ℕ} {s₀ : Outcome} {answers : List ℕ} {b : Board} {d : Counts} →
    Running list answers₀ s₀ answers (state_of b d) → d.used < length list → (step : Step) →
    StepIs b (rest list d.used) (length answers - d.written) (Ok step) → At list answers₀ s₀ answers b d step
at_step r m step i = record { running = r; more = m; is = i }

module _ {list answers₀ : List ℕ} {s₀ : Outcome} {answers : List ℕ} {b : Board} {d : Counts} {step : Step}
    (u : At list answers₀ s₀ answers b d step) where
  pub rest_is : rest list d.used ≡ drop d.used list
  rest_is = part_rest list d.used

  pub board_sound : sound b ≡ true
  board_sound = good-sound u.running.good

  pub timed : Timed (rate_of b.clock) b.clock
  timed = sound_times _ u.running.good.fits.clock board_sound

  -- the step, as an arm has it
  pub accepts : (s : Step) → step ≡ s → StepIs b (rest list d.used) (length answers - d.written) (Ok s)
  accepts s e = subst (λ (x : Step). StepIs b (rest list d.used) (length answers - d.written) (Ok x)) e u.is

  module _ (z : refusal_at b (rest list d.used) (length answers - d.written) ≡ 0) where
    -- its answer is inside the buffer
    pub answer-inside : d.written + record_length (call_at (rest list d.used)) ≤ length answers
    answer-inside = written-inside _ _ _ _ _ _ u.running u.more _ rest_is z

  -- one of the calls without an arm of their own
  pub other_at : Other step →
      OtherDoes b board_sound d.written answers (rest list d.used) (length answers - d.written) step
  other_at k = other_does b board_sound d.written answers (rest list d.used) (length answers - d.written) step k u.is

  -- its numbers: of the call, of its record, and of the bytes behind the header
  pub other_is : Other step → (c : Changes) → Changed step b c →
      (call_length (call_at (rest list d.used)) ≡ call_length (other_call step))
      × ((record_length (call_at (rest list d.used)) ≡ record_length (other_call step))
      × (3 + length (value_bytes c.answer) ≡ record_length (other_call step)))
  other_is k c h =
      let o = (other_at k).1 in
      let n = other_size b board_sound d.written answers (other_call step) _ _ (o.1.1 c h).1 in
      (ap (λ (x : Call). call_length x) o.0, (ap (λ (x : Call). record_length x) o.0, n))
