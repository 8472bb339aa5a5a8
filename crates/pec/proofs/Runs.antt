-- Runs one after another: what a run gives is the rule's, and the loop over runs keeps it.
use mathlib.Core.Path.{◌≡◌, refl, ap, ◌∙◌, subst}
use mathlib.Core.List.{List}
use Prim.Native.Nat.{ℕ, suc, ◌+◌, ◌≤◌, ◌<◌}
use native.Mathlib.Omega.{arith}
use lib.ListN.{length}
use Rattle.std.specs.Prelude.{Ok, Err}
use Rattle.board.specs.declared.Board.{Board}
use Rattle.board.specs.declared.calls.Answered.{Answered}
use Rattle.board.specs.declared.refusal.Refusal.{Refusal}
use Rattle.board.specs.Refusals.{refusal_number}
use Rattle.board.specs.Answers.{answered, no_members}
use Rattle.board.proofs.Answers.{some_refusal}
use Rattle.list.specs.Run.{Outcome, run_of, over, nothing_done}
use Rattle.board.specs.Calls.{fresh_of}
use Rattle.pec.specs.Repeats.{Held, started_on, ran, repeats, repeats_at}

-- an outcome and a buffer together
abbrev pub held : Outcome → List ℕ → Held
held r a = record { outcome = r; buffer = a }

-- their parts
pub halves : (h : Held) (r : Outcome) (a : List ℕ) → held r a ≡ h → (r ≡ h.outcome) × (a ≡ h.buffer)
halves h r a e = (ap (λ x. x.outcome) e, ap (λ x. x.buffer) e)

-- what a run over the board that is left gives, by its contract
pub ran_of :
    (l : List ℕ) (h : Held) (b : Board) (r : Outcome) (x : List ℕ) →
    b ≡ h.outcome.board →
    (r ≡ (run_of b l (length h.buffer)).outcome) → x ≡ over (run_of b l (length h.buffer)).answers h.buffer →
    held r x ≡ ran l h
unfolding ran
ran_of l h b r x e f g = rw (f, g, e) refl

-- before a list is run for the time k + 1: the outcome and the buffer are those of k runs
pub record Repeating (l : List ℕ) (times : ℕ) (r₀ : Outcome) (a₀ : List ℕ) (r : Outcome) (a : List ℕ) (k : ℕ)
    : Type 0 where
  pub most : k ≤ times
  pub same : length a ≡ length a₀
  pub so_far : held r a ≡ repeats k l (held r₀ a₀)

pub begun : (l : List ℕ) (times : ℕ) (r₀ : Outcome) (a₀ : List ℕ) → Repeating l times r₀ a₀ r₀ a₀ 0
unfolding repeats
begun l times r₀ a₀ = record { most = omega arith; same = refl; so_far = refl }

pub more :
    (l : List ℕ) (times : ℕ) (r₀ : Outcome) (a₀ : List ℕ) (r : Outcome) (a : List ℕ) (k : ℕ) →
    Repeating l times r₀ a₀ r a k → k < times →
    (r' : Outcome) (a' : List ℕ) → length a' ≡ length a → held r' a' ≡ ran l (held r a) →
    Repeating l times r₀ a₀ r' a' (k + 1)
unfolding repeats
more l times r₀ a₀ r a k i n r' a' s e =
    let next : k + 1 ≡ suc k = omega arith in
    record { most = omega (arith, n); same = s ∙ i.same; so_far = rw next (e ∙ ap (ran l) i.so_far) }

-- after the last time
pub ended :
    (l : List ℕ) (times : ℕ) (r₀ : Outcome) (a₀ : List ℕ) (r : Outcome) (a : List ℕ) (k : ℕ) →
    Repeating l times r₀ a₀ r a k → times ≤ k → (h : Held) → held r₀ a₀ ≡ h →
    (r ≡ (repeats times l h).outcome) × (a ≡ (repeats times l h).buffer)
ended l times r₀ a₀ r a k i n h e =
    let k-is : k ≡ times = omega (arith, i.most, n) in
    let all : held r a ≡ repeats times l h =
    (i.so_far ∙ ap (λ j. repeats j l (held r₀ a₀)) k-is) ∙ ap (repeats times l) e in
    halves _ _ _ all

-- the results one by one
pub results :
    (h : Held) (r : Outcome) (a : List ℕ) → (r ≡ h.outcome) × (a ≡ h.buffer) →
    (r.refusal ≡ h.outcome.refusal)
    × ((a ≡ h.buffer)
    × ((r.calls ≡ h.outcome.calls) × ((r.used ≡ h.outcome.used) × (r.written ≡ h.outcome.written))))
results h r a (e, f) = (
  ap (λ o. o.refusal) e,
  (f, (ap (λ o. o.calls) e, (ap (λ o. o.used) e, ap (λ o. o.written) e))),
)

-- from a board that is another's equal
pub started_same :
    (first l : List ℕ) (times : ℕ) (buffer : List ℕ) (b c : Board) (r : Outcome) (x : List ℕ) → b ≡ c →
    (r ≡ (repeats times l (ran first (started_on b buffer))).outcome)
    × (x ≡ (repeats times l (ran first (started_on b buffer))).buffer) →
    (r ≡ (repeats times l (ran first (started_on c buffer))).outcome)
    × (x ≡ (repeats times l (ran first (started_on c buffer))).buffer)
started_same first l times buffer b c r x e h =
    subst
    (λ (d : Board).
    (r ≡ (repeats times l (ran first (started_on d buffer))).outcome)
    × (x ≡ (repeats times l (ran first (started_on d buffer))).buffer))
    e h

-- ---- over a fresh board of a rate

module _ (rate : ℕ) (first l : List ℕ) (times : ℕ) (buffer : List ℕ) (a : Answered Unit)
    (made : answered no_members a ≡ fresh_of rate) where
  -- refused: nothing is run
  pub at-refused : (refusal : Refusal) → a.answer ≡ Err refusal →
      (nothing_done a.board (refusal_number refusal) ≡ (repeats_at rate first l times buffer).outcome)
      × (buffer ≡ (repeats_at rate first l times buffer).buffer)
  unfolding repeats_at
  at-refused refusal e = rw (← made, e, some_refusal refusal) (refl, refl)

  pub at-run : (u : Unit) → a.answer ≡ Ok u → (r : Outcome) (x : List ℕ) →
      (r ≡ (repeats times l (ran first (started_on a.board buffer))).outcome)
      × (x ≡ (repeats times l (ran first (started_on a.board buffer))).buffer) →
      (r ≡ (repeats_at rate first l times buffer).outcome) × (x ≡ (repeats_at rate first l times buffer).buffer)
  unfolding repeats_at
  at-run u e r x h = rw (← made, e) h
