-- One call, anywhere in a run: it refuses, changes the board and answers as on the board before it. And a skip there
-- gets to the interrupt. Assumes nothing.
use Prim.Native.Nat.{ℕ, ◌-◌, ◌<◌}
use native.Mathlib.Omega.{arith}
use mathlib.Core.Path.{◌≡◌, refl, sym, ap, ◌∙◌}
use mathlib.Core.Logic.{◌⊎◌}
use mathlib.Core.Bool.{true, false, cond}
use mathlib.Core.Option.{none, some}
use mathlib.Core.List.{List, [], ◌∷◌, ◌++◌, append_assoc, append-nil}
use lib.ListN.{length, drop, get_or}
use lib.Dec.{ltb, eqb}
use borrow.Author.Tests.{eqb-true, ne_eqb}
use Rattle.wide.proofs.Choices.{either}
use Rattle.wide.specs.Bits.{flag_of}
use Rattle.board.specs.declared.Board.{Board}
use Rattle.board.specs.declared.calls.Call.{Call}
use Rattle.board.specs.declared.calls.Call.TheVariants.{Skip}
use Rattle.board.specs.Board.{BoardFits, line, exact_deadline, sound}
use Rattle.board.specs.Calls.{effect_of, board_after, advanced_board, moved_by, skip_length}
use Rattle.board.proofs.Soundness.{wired_line, wired_sound}
use Rattle.board.specs.Kept.{Good}
use Rattle.board.proofs.Good.{good-sound}
use Rattle.board.proofs.Skips.{skip_by, skip-high, skip_none}
use Rattle.format.specs.Format.{answer_too_long, answer_bytes, record_of}
use Rattle.format.specs.Codec.{call_length, answer_record, record_length, first_of, refusal_at}
use Rattle.format.proofs.Frames.{framed}
use Rattle.list.specs.Run.{done, result_of, stepped, Run, run_on, nothing_done, run_of, joined}
use Rattle.list.specs.Demand.{FrontIs, ListIs}
use Rattle.resume.specs.InRuns.{InRun, SkipInRun}
use Rattle.list.proofs.Results.{result-refused, result-done}
use Rattle.list.proofs.Runs.{go_on, stop_at}
use Rattle.list.proofs.TwoParts.{two-parts}
use Rattle.list.proofs.Kept.{began_sound, run-keeps}
use Rattle.list.proofs.Demand.{bytes_before, run_ends}

-- ---- a run of one call over a sound board

module _ (b : Board) (one : List ℕ) (room : ℕ) (call : Call) (s : sound b ≡ true) (h : ListIs one (call ∷ [])) where
  front : FrontIs one call
  unfolding ListIs
  front = h.0

  inside : 0 < length one
  inside = omega (arith, framed one front.0)

  ended : drop (call_length call) one ≡ []
  unfolding ListIs
  ended = h.1

  -- with nothing answered all room is left
  all_left : result_of b one (room - length {A = ℕ} []) ≡ result_of b one room
  all_left = let e : room - length {A = ℕ} [] ≡ room = omega arith in ap (result_of b one) e

  number_is : refusal_at b one room
      ≡ first_of (effect_of call b).refusal (cond (ltb room (record_length call)) answer_too_long 0)
  unfolding refusal_at
  number_is = rw (front.0, front.1)

  alone-done : refusal_at b one room ≡ 0 →
      run_of b one room
      ≡ record {
        outcome = stepped (nothing_done b 0) (done (board_after call b) (call_length call) (answer_record call b));
        answers = answer_record call b;
      }
  unfolding run_of run_on
  alone-done z =
      let e : result_of b one (room - length {A = ℕ} [])
      ≡ done (board_after call b) (call_length call) (answer_record call b) =
      all_left ∙ result-done b one room z
      ∙ ap (λ (k : Call). done (board_after k b) (call_length k) (answer_record k b)) front.1 in
      rw s
      (go_on one room (nothing_done b 0) [] inside (board_after call b) (call_length call) (answer_record call b) e
      ∙ rw ended refl)

  alone-refused : eqb (refusal_at b one room) 0 ≡ false →
      run_of b one room ≡ record { outcome = nothing_done b (refusal_at b one room); answers = [] }
  unfolding run_of stepped
  alone-refused n =
      rw s
      (stop_at one room (nothing_done b 0) [] inside (refusal_at b one room)
      (all_left ∙ result-refused b one room (refusal_at b one room) refl n))

-- ---- a call in a run

-- of a run over b whose list is `first`, `one` and `last`, one after another: `one` is the bytes of the call
module _ (b : Board) (first one last : List ℕ) (room : ℕ) (call : Call) where
  abbrev Before : Run
  Before = run_of b first room

  abbrev Through : Run
  Through = run_of b (first ++ one) room

  abbrev AtCall : Board
  AtCall = Before.outcome.board

  -- the call by itself, on the board before it
  abbrev Left : ℕ
  Left = room - length Before.answers

  abbrev Alone : Run
  Alone = run_of AtCall one Left

  module _ (e : Through ≡ joined Before Alone) (s : sound AtCall ≡ true) (h : ListIs one (call ∷ [])) where
    same-refusal : Through.outcome.refusal ≡ Alone.outcome.refusal
    same-refusal = ap (λ (q : Run). q.outcome.refusal) e

    refusal_is : Alone.outcome.refusal ≡ refusal_at AtCall one Left
    unfolding stepped
    refusal_is =
        either (eqb (refusal_at AtCall one Left) 0)
        (λ z. let n = eqb-true (refusal_at AtCall one Left) 0 z in
        ap (λ (q : Run). q.outcome.refusal) (alone-done AtCall one Left call s h n) ∙ sym n)
        (λ z. ap (λ (q : Run). q.outcome.refusal) (alone-refused AtCall one Left call s h z))

    when-done : Through.outcome.refusal ≡ 0 →
        Alone
        ≡ record {
          outcome =
              stepped (nothing_done AtCall 0)
              (done (board_after call AtCall) (call_length call) (answer_record call AtCall));
          answers = answer_record call AtCall;
        }
    when-done z = alone-done AtCall one Left call s h (sym refusal_is ∙ sym same-refusal ∙ z)

    when-refused : (Through.outcome.refusal ≡ 0 → ⊥) →
        Alone ≡ record { outcome = nothing_done AtCall (refusal_at AtCall one Left); answers = [] }
    when-refused n =
        alone-refused AtCall one Left call s h
        (ne_eqb (refusal_at AtCall one Left) 0 (λ z. n (same-refusal ∙ refusal_is ∙ z)))

    after-done : Through.outcome.refusal ≡ 0 → Through.outcome.board ≡ board_after call AtCall
    unfolding stepped
    after-done z = ap (λ (q : Run). q.outcome.board) e ∙ ap (λ (q : Run). q.outcome.board) (when-done z)

  -- every call of a run that goes on up to it, whatever stands before it and behind it
  pub run_call : BoardFits b → ((i : ℕ) → get_or (first ++ one) i 0 < 256) → ListIs one (call ∷ []) →
      Before.outcome.refusal ≡ 0 → InRun b first one last room call
  run_call f bytes h z =
      let few = bytes_before first one bytes in
      let s = good-sound (run-keeps b first room f few (began_sound b first room z)) in
      let e = two-parts b first one room f few z in
      record {
        refusal = same-refusal e s h ∙ refusal_is e s h ∙ number_is AtCall one Left call s h;
        board = after-done e s h;
        answer = λ y.
            ap (λ (q : Run). q.answers) e ∙ ap (λ (q : Run). Before.answers ++ q.answers) (when-done e s h y);
        goes_on = two-parts b (first ++ one) last room f bytes;
        board-left = λ n.
            ap (λ (q : Run). q.outcome.board) e ∙ ap (λ (q : Run). q.outcome.board) (when-refused e s h n);
        answers-left = λ n.
            ap (λ (q : Run). q.answers) e
            ∙ ap (λ (q : Run). Before.answers ++ q.answers) (when-refused e s h n)
            ∙ append-nil Before.answers;
        ends = λ n.
            ap (λ (l : List ℕ). run_of b l room) (append_assoc first one last)
            ∙ two-parts b first (one ++ last) room f few z
            ∙ ap (joined Before)
            (run_ends AtCall one last Left (call ∷ []) s h (λ y. n (same-refusal e s h ∙ y)))
            ∙ sym e;
      }

-- ---- a skip

-- the board that a skip leaves, and its answer
module _ (b : Board) where
  module _ {rate : ℕ} (g : Good rate b) (d : ℕ) (given : exact_deadline b ≡ some d) where
    skip-line : line (board_after Skip b) ≡ true
    skip-line = wired_line (moved_by (skip_length b) b) ∙ skip-high b d given g

    module _ (low : line b ≡ false) where
      skip-board : board_after Skip b ≡ advanced_board d b
      unfolding advanced_board
      skip-board = rw (skip_by b d given low)

      skip-answer : answer_record Skip b ≡ record_of 6 (answer_bytes 6 (d ∷ 1 ∷ []))
      skip-answer = rw (skip-high b d given g, skip_by b d given low)

  module _ (w : (line b ≡ true) ⊎ (exact_deadline b ≡ none)) where
    stay-board : sound b ≡ true → board_after Skip b ≡ b
    stay-board s = rw (skip_none b w) (wired_sound b s)

    stay-answer : answer_record Skip b ≡ record_of 6 (answer_bytes 6 (0 ∷ flag_of (line b) ∷ []))
    stay-answer = rw (skip_none b w)

-- of a run over b whose list is `first`, `skip` and `last`, one after another: `skip` is the bytes of a skip
module _ (b : Board) (first skip last : List ℕ) (room : ℕ) where
  abbrev BeforeSkip : Run
  BeforeSkip = run_of b first room

  abbrev AtSkip : Board
  AtSkip = BeforeSkip.outcome.board

  -- every skip of a run that goes on up to it, whatever stands before it and behind it, and whatever the clock
  -- runs from
  pub run-skip : BoardFits b → ((i : ℕ) → get_or (first ++ skip) i 0 < 256) → ListIs skip (Skip ∷ []) →
      BeforeSkip.outcome.refusal ≡ 0 → SkipInRun b first skip last room
  run-skip f bytes h z =
      let g = run-keeps b first room f (bytes_before first skip bytes) (began_sound b first room z) in
      let c = run_call b first skip last room Skip f bytes h z in
      record {
        call = c;
        high = λ y d given. ap line (c.board y) ∙ skip-line AtSkip g d given;
        advances = λ y d given low. c.board y ∙ skip-board AtSkip g d given low;
        passes = λ y d given low.
            c.answer y ∙ ap (λ (x : List ℕ). BeforeSkip.answers ++ x) (skip-answer AtSkip g d given low);
        stays = λ y w. c.board y ∙ stay-board AtSkip w (good-sound g);
        passes_none = λ y w. c.answer y ∙ ap (λ (x : List ℕ). BeforeSkip.answers ++ x) (stay-answer AtSkip w);
      }
