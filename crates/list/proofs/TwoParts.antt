-- Running a list in two parts, split between calls, is running it whole. Assumes nothing.
use Prim.Native.Nat.{ℕ, zero, suc, ◌-◌, ◌≤◌, ◌<◌}
use native.Mathlib.Nat.{add-zero, add_assoc}
use native.Mathlib.Omega.{arith}
use mathlib.Core.Path.{◌≡◌, refl, sym, ap, ◌∙◌}
use mathlib.Core.Bool.{true, false≢true}
use mathlib.Core.List.{List, [], ◌∷◌, ◌++◌, append-nil, append_assoc}
use lib.ListN.{length, drop, get_or, length-append}
use lib.Seq.{drop-drop}
use borrow.Author.Tests.{eq-eqb}
use Rattle.wide.proofs.Choices.{either}
use Rattle.board.specs.declared.Board.{Board}
use Rattle.board.specs.Board.{BoardFits, sound}
use Rattle.clock.specs.Clock.{rate_of}
use Rattle.board.specs.Kept.{Good}
use Rattle.board.proofs.Good.{good, good-sound}
use Rattle.format.specs.Codec.{frame_refusal, refusal_at}
use Rattle.list.specs.Run.{Outcome, Result, done, refused, result_of, stepped, Run, run_on, nothing_done, run_of, over}
use Rattle.list.specs.Run.{behind, joined}
use Rattle.format.proofs.Frames.{frame-before, call-before}
use Rattle.list.proofs.Results.{refused_numbered, done_placed, done_fits, step_good}
use Rattle.list.proofs.Runs.{next-done, next-refused}

-- ---- bytes behind a call have no part in it

pub result_before : (b : Board) (l m : List ℕ) (room : ℕ) → frame_refusal l ≡ 0 → result_of b (l ++ m) room ≡
    result_of b l room
unfolding result_of refusal_at
result_before b l m room e = rw (frame-before l e m, call-before l e m, e)

-- ---- the first part

module _ (m : List ℕ) (room : ℕ) where
  -- a run without refusal goes on over what stands behind its list
  first_part : (k : ℕ) (l : List ℕ) (s : Outcome) (out : List ℕ) → k ≤ length l →
      (run_on k l room s out).outcome.refusal ≡ 0 →
      run_on k (l ++ m) room s out
      ≡ run_on 0 m room (run_on k l room s out).outcome (run_on k l room s out).answers
  unfolding run_on stepped
  first_part zero [] s out h z = refl
  first_part (suc k) [] s out h z = absurd (omega arith)
  first_part (suc k) (x ∷ l) s out h z = first_part k l s out (omega arith) z
  first_part zero (x ∷ l) s out h z =
      onward (λ k o a. first_part k l o a) (result_of s.board (x ∷ l) (room - length out)) refl
    where
      onward :
          ((k : ℕ) (o : Outcome) (a : List ℕ) → k ≤ length l → (run_on k l room o a).outcome.refusal ≡ 0 →
          run_on k (l ++ m) room o a ≡ run_on 0 m room (run_on k l room o a).outcome (run_on k l room o a).answers) →
          (t : Result) → result_of s.board (x ∷ l) (room - length out) ≡ t →
          run_on 0 ((x ∷ l) ++ m) room s out
          ≡ run_on 0 m room (run_on 0 (x ∷ l) room s out).outcome (run_on 0 (x ∷ l) room s out).answers
      onward next (refused n) e =
          let p = refused_numbered s.board (x ∷ l) (room - length out) n e in
          let r : n ≡ 0 = sym (ap (λ (q : Run). q.outcome.refusal) (next-refused x l room s out n e)) ∙ z in
          absurd (false≢true (sym p ∙ eq-eqb n 0 r))
      onward next (done b n a) e =
          let p = done_placed s.board (x ∷ l) (room - length out) b n a e in
          let f = done_fits s.board (x ∷ l) (room - length out) b n a e in
          let g = next-done x l room s out b n a e in
          next-done x (l ++ m) room s out b n a (result_before s.board (x ∷ l) m (room - length out) p.0.frame ∙ e)
          ∙ next (n - 1) (stepped s (done b n a)) (out ++ a) (omega arith)
          (sym (ap (λ (q : Run). q.outcome.refusal) g) ∙ z)
          ∙ ap (λ (q : Run). run_on 0 m room q.outcome q.answers) (sym g)

-- ---- the second part

-- a run that was not refused, as the start of another
from_start : (q : Outcome) → q.refusal ≡ 0 → behind q (nothing_done q.board 0) ≡ q
from_start q z =
    rw (add-zero q.calls, add-zero q.used, add-zero q.written)
    (ap
    (λ (n : ℕ). record { board = q.board; calls = q.calls; used = q.used; written = q.written; refusal = n })
    (sym z))

module _ (p : Run) (room : ℕ) where
  step-behind : (s : Outcome) (t : Result) →
      stepped (behind p.outcome s) t ≡ behind p.outcome (stepped s t)
  unfolding stepped
  step-behind s (done b n a) =
      rw (
        add_assoc p.outcome.calls s.calls 1,
        add_assoc p.outcome.used s.used n,
        add_assoc p.outcome.written s.written (length a),
      )
  step-behind s (refused n) = refl

  second-part : (k : ℕ) (l : List ℕ) (s : Outcome) (out : List ℕ) →
      run_on k l room (behind p.outcome s) (p.answers ++ out)
      ≡ joined p (run_on k l (room - length p.answers) s out)
  unfolding run_on
  second-part zero [] s out = refl
  second-part (suc k) [] s out = refl
  second-part (suc k) (x ∷ l) s out = second-part k l s out
  second-part zero (x ∷ l) s out =
      onward (λ k o a. second-part k l o a) (result_of s.board (x ∷ l) (room - length p.answers - length out))
      refl
    where
      less : room - length (p.answers ++ out) ≡ room - length p.answers - length out
      less = omega (arith, length-append p.answers out)

      onward :
          ((k : ℕ) (o : Outcome) (a : List ℕ) →
          run_on k l room (behind p.outcome o) (p.answers ++ a)
          ≡ joined p (run_on k l (room - length p.answers) o a)) →
          (t : Result) → result_of s.board (x ∷ l) (room - length p.answers - length out) ≡ t →
          run_on 0 (x ∷ l) room (behind p.outcome s) (p.answers ++ out)
          ≡ joined p (run_on 0 (x ∷ l) (room - length p.answers) s out)
      onward next (refused n) e =
          next-refused x l room (behind p.outcome s) (p.answers ++ out) n
          (ap (result_of s.board (x ∷ l)) less ∙ e)
          ∙ ap (λ (o : Outcome). record { outcome = o; answers = p.answers ++ out }) (step-behind s (refused n))
          ∙ ap (joined p) (sym (next-refused x l (room - length p.answers) s out n e))
      onward next (done b n a) e =
          next-done x l room (behind p.outcome s) (p.answers ++ out) b n a
          (ap (result_of s.board (x ∷ l)) less ∙ e)
          ∙ ap (λ (o : Outcome). run_on (n - 1) l room o ((p.answers ++ out) ++ a)) (step-behind s (done b n a))
          ∙ ap (run_on (n - 1) l room (behind p.outcome (stepped s (done b n a))))
          (append_assoc p.answers out a)
          ∙ next (n - 1) (stepped s (done b n a)) (out ++ a)
          ∙ ap (joined p) (sym (next-done x l (room - length p.answers) s out b n a e))

-- ---- what one more call keeps of a board, done or refused, a run keeps

module _ (P : Board → Type 0)
    (step : (l : List ℕ) → ((i : ℕ) → get_or l i 0 < 256) → (s : Outcome) → P s.board → (room : ℕ) →
    P (stepped s (result_of s.board l room)).board) where
  pub run-invariant : (k : ℕ) (l : List ℕ) (room : ℕ) (s : Outcome) (out : List ℕ) → ((i : ℕ) → get_or l i 0 < 256) →
      P s.board → P (run_on k l room s out).outcome.board
  unfolding run_on
  run-invariant zero [] room s out h g = g
  run-invariant (suc k) [] room s out h g = g
  run-invariant (suc k) (x ∷ l) room s out h g = run-invariant k l room s out (λ i. h (suc i)) g
  run-invariant zero (x ∷ l) room s out h g =
      onward (λ k o a. run-invariant k l room o a (λ i. h (suc i))) (result_of s.board (x ∷ l) (room - length out))
      refl
    where
      onward :
          ((k : ℕ) (o : Outcome) (a : List ℕ) → P o.board → P (run_on k l room o a).outcome.board) →
          (t : Result) → result_of s.board (x ∷ l) (room - length out) ≡ t →
          P (run_on 0 (x ∷ l) room s out).outcome.board
      onward next (refused n) e =
          rw (next-refused x l room s out n e) (rw e at (step (x ∷ l) h s g (room - length out)))
      onward next (done b n a) e =
          rw (next-done x l room s out b n a e)
          (next (n - 1) (stepped s (done b n a)) (out ++ a)
          (rw e at (step (x ∷ l) h s g (room - length out))))

-- a good board stays good
pub run_good : (rate : ℕ) (k : ℕ) (l : List ℕ) (room : ℕ) (s : Outcome) (out : List ℕ) →
    ((i : ℕ) → get_or l i 0 < 256) → Good rate s.board → Good rate (run_on k l room s out).outcome.board
run_good rate = run-invariant (Good rate) (step_good rate)

-- ---- the whole

module _ (b : Board) (l m : List ℕ) (room : ℕ) (f : BoardFits b) (bytes : (i : ℕ) → get_or l i 0 < 256) where
  abbrev First : Run
  First = run_of b l room

  whole : sound b ≡ true → (run_on 0 l room (nothing_done b 0) []).outcome.refusal ≡ 0 →
      run_on 0 (l ++ m) room (nothing_done b 0) []
      ≡ joined (run_on 0 l room (nothing_done b 0) [])
      (run_of (run_on 0 l room (nothing_done b 0) []).outcome.board m
      (room - length (run_on 0 l room (nothing_done b 0) []).answers))
  unfolding run_of
  whole s z =
      let p = run_on 0 l room (nothing_done b 0) [] in
      let q = p.outcome in
      let kept : sound q.board ≡ true =
      good-sound (run_good (rate_of b.clock) 0 l room (nothing_done b 0) [] bytes (good b f s)) in
      first_part m room 0 l (nothing_done b 0) [] (omega arith) z
      ∙ sym (ap (λ (o : Outcome). run_on 0 m room o p.answers) (from_start q z))
      ∙ sym (ap (run_on 0 m room (behind q (nothing_done q.board 0))) (append-nil p.answers))
      ∙ second-part p room 0 m (nothing_done q.board 0) []
      ∙ rw kept refl

  -- where the first part is not refused: the second runs on the board, and with the room, that the first leaves
  pub two-parts : First.outcome.refusal ≡ 0 →
      run_of b (l ++ m) room ≡ joined First (run_of First.outcome.board m (room - length First.answers))
  unfolding run_of
  two-parts z =
      either (sound b) (λ s. rw s (whole s (rw s at z)))
      (λ s. let one : ◌≡◌ {A = ℕ} 1 0 = rw s at z in absurd (omega arith))

-- the buffer: the answers of both parts, the second's over what the first leaves
pub over_both : (first second old : List ℕ) →
    over (first ++ second) old ≡ first ++ over second (drop (length first) old)
unfolding over
over_both first second old =
    append_assoc first second (drop (length (first ++ second)) old)
    ∙ ap (λ (l : List ℕ). first ++ (second ++ l))
    (ap (λ (n : ℕ). drop n old) (length-append first second)
    ∙ sym (drop-drop (length second) (length first) old))
