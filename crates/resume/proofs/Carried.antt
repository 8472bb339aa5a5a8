-- What a run carries out: the first calls of its list, each as the direct call on the board that the call before
-- returned, with their answers one after another. Assumes nothing.
use Prim.Native.Nat.{ℕ, zero, suc, ◌+◌, ◌-◌, ◌≤◌, ◌<◌}
use native.Mathlib.Nat.{add-zero, zero-add}
use native.Mathlib.Omega.{arith}
use mathlib.Core.Path.{◌≡◌, refl, sym, ap, ◌∙◌, subst}
use mathlib.Core.Bool.{true, false, false≢true}
use mathlib.Core.List.{List, [], ◌∷◌, ◌++◌, append_assoc, append-nil}
use lib.ListN.{length, take, drop, get_or, length-drop}
use lib.Dec.{eqb}
use borrow.Author.Tests.{eqb-true, eq-eqb}
use Rattle.wide.proofs.Choices.{either}
use Rattle.clock.specs.Clock.{rate_of}
use Rattle.board.specs.declared.Board.{Board}
use Rattle.board.specs.declared.calls.Call.{Call}
use Rattle.board.specs.Loops.{All}
use Rattle.board.specs.Board.{BoardFits, sound}
use Rattle.board.specs.Demand.{after, after_all}
use Rattle.board.specs.Kept.{Good}
use Rattle.board.proofs.Good.{good, good-sound}
use Rattle.format.specs.Codec.{frame_refusal, call_at, call_length, answer_record, refusal_at}
use Rattle.format.proofs.Frames.{framed, call_least}
use Rattle.format.proofs.Decoding.{clear}
use Rattle.list.specs.Run.{Outcome, Result, done, refused, result_of, stepped, Run, run_on, nothing_done, run_of}
use Rattle.list.specs.Demand.{FrontIs, ListIs}
use Rattle.list.proofs.Results.{result-refused, result-done, step_good}
use Rattle.list.proofs.Runs.{go_on, stop_at, rest_bytes}
use Rattle.list.proofs.Demand.{accepted_after}
use Rattle.resume.specs.Carried.{calls_in, BeginsWith, carried_by, answers_of, Carried}

-- ---- the first calls of some bytes

-- an empty list begins with no call
no_front : (l : List ℕ) (call : Call) → l ≡ [] → FrontIs l call → ⊥
no_front l call e f = omega (arith, framed l f.0, ap length e)

-- of the first elements holds what holds of all
pub all_take : {A : Type 0} (P : A → Type 0) (n : ℕ) (xs : List A) → All P xs → All P (take n xs)
all_take P zero [] h = tt
all_take P zero (x ∷ xs) h = tt
all_take P (suc n) [] h = tt
all_take P (suc n) (x ∷ xs) h = (h.0, all_take P n xs h.1)

-- bytes that are calls begin with the first of these alone
begun_first : (calls some : List Call) (l : List ℕ) → ListIs l calls → BeginsWith l some →
    some ≡ take (length some) calls
unfolding ListIs BeginsWith
begun_first [] [] l h g = refl
begun_first (c ∷ calls) [] l h g = refl
begun_first [] (a ∷ some) l h g = absurd (no_front l a h g.0)
begun_first (c ∷ calls) (a ∷ some) l h g =
    let same : c ≡ a = sym h.0.1 ∙ g.0.1 in
    ap (λ (ks : List Call). a ∷ ks)
    (begun_first calls some (drop (call_length a) l)
    (subst (λ (k : Call). ListIs (drop (call_length k) l) calls) same h.1) g.1)
    ∙ ap (λ (k : Call). k ∷ take (length some) calls) (sym same)

calls_count : (n : ℕ) (l : List ℕ) → length (calls_in n l) ≡ n
unfolding calls_in
calls_count zero l = refl
calls_count (suc n) l = ap suc (calls_count n (drop (call_length (call_at l)) l))

-- bytes are the calls of one list at most
same_calls : (calls others : List Call) (l : List ℕ) → ListIs l calls → ListIs l others → calls ≡ others
unfolding ListIs
same_calls [] [] l h g = refl
same_calls [] (a ∷ others) l h g = absurd (no_front l a h g.0)
same_calls (c ∷ calls) [] l h g = absurd (no_front l c g h.0)
same_calls (c ∷ calls) (a ∷ others) l h g =
    let same : c ≡ a = sym h.0.1 ∙ g.0.1 in
    ap (λ (k : Call). k ∷ calls) same
    ∙ ap (λ (ks : List Call). a ∷ ks)
    (same_calls calls others (drop (call_length a) l)
    (subst (λ (k : Call). ListIs (drop (call_length k) l) calls) same h.1) g.1)

-- ---- a run that goes on

-- from s, with the answers `out`, over l, to its end r: the calls that it carries out, and their count
record Carries (l : List ℕ) (s : Outcome) (out : List ℕ) (r : Run) : Type 0 where
  count : ℕ
  counted : r.outcome.calls ≡ s.calls + count
  board : r.outcome.board ≡ after_all (calls_in count l) s.board
  answers : r.answers ≡ out ++ answers_of (calls_in count l) s.board
  begins : BeginsWith l (calls_in count l)
  whole : r.outcome.refusal ≡ 0 → ListIs l (calls_in count l)

none_carried : (l : List ℕ) (s : Outcome) (out : List ℕ) (r : Run) → r.outcome.calls ≡ s.calls →
    r.outcome.board ≡ s.board → r.answers ≡ out → (r.outcome.refusal ≡ 0 → l ≡ []) → Carries l s out r
unfolding calls_in answers_of after_all BeginsWith ListIs
none_carried l s out r n e a z =
    record {
      count = 0;
      counted = n ∙ sym (add-zero s.calls);
      board = e;
      answers = a ∙ sym (append-nil out);
      begins = tt;
      whole = z;
    }

-- the first call, and then those
one_more : (l : List ℕ) (s : Outcome) (out : List ℕ) (r : Run) → frame_refusal l ≡ 0 →
    Carries (drop (call_length (call_at l)) l)
    (stepped s (done (after (call_at l) s.board) (call_length (call_at l)) (answer_record (call_at l) s.board)))
    (out ++ answer_record (call_at l) s.board) r →
    Carries l s out r
unfolding calls_in answers_of after_all BeginsWith ListIs stepped
one_more l s out r f c =
    let a = answer_record (call_at l) s.board in
    let rest = calls_in c.count (drop (call_length (call_at l)) l) in
    record {
      count = suc c.count;
      counted = omega (arith, c.counted);
      board = c.board;
      answers = c.answers ∙ append_assoc out a (answers_of rest (after (call_at l) s.board));
      begins = ((f, refl), c.begins);
      whole = λ z. ((f, refl), c.whole z);
    }

-- the next call, and what follows it
module _ (rate room : ℕ) (l : List ℕ) (bytes : (i : ℕ) → get_or l i 0 < 256) (s : Outcome) (out : List ℕ)
    (g : Good rate s.board) (inside : 0 < length l)
    (next : (n : ℕ) → length (drop n l) < length l → (o : Outcome) (a : List ℕ) → Good rate o.board →
    Carries (drop n l) o a (run_on 0 (drop n l) room o a)) where
  abbrev number : ℕ
  number = refusal_at s.board l (room - length out)

  abbrev answer : List ℕ
  answer = answer_record (call_at l) s.board

  abbrev made : Result
  made = done (after (call_at l) s.board) (call_length (call_at l)) answer

  if-refused : eqb number 0 ≡ false → Carries l s out (run_on 0 l room s out)
  unfolding stepped
  if-refused z =
      subst (Carries l s out)
      (sym (stop_at l room s out inside number (result-refused s.board l (room - length out) number refl z)))
      (none_carried l s out (record { outcome = stepped s (refused number); answers = out }) refl refl refl
      (λ e. absurd (false≢true (sym z ∙ eq-eqb number 0 e))))

  is_made : number ≡ 0 → result_of s.board l (room - length out) ≡ made
  is_made z =
      result-done s.board l (room - length out) z
      ∙ ap (λ (b : Board). done b (call_length (call_at l)) answer)
      (accepted_after (call_at l) s.board (good-sound g) (clear s.board l (room - length out) z).own)

  if-done : number ≡ 0 → Carries l s out (run_on 0 l room s out)
  if-done z =
      subst (Carries l s out)
      (sym (go_on l room s out inside (after (call_at l) s.board) (call_length (call_at l)) answer (is_made z)))
      (one_more l s out
      (run_on 0 (drop (call_length (call_at l)) l) room (stepped s made) (out ++ answer))
      (clear s.board l (room - length out) z).frame
      (next (call_length (call_at l))
      (omega (arith, length-drop (call_length (call_at l)) l, call_least (call_at l), inside)) (stepped s made)
      (out ++ answer)
      (subst (λ (t : Result). Good rate (stepped s t).board) (is_made z)
      (step_good rate l bytes s g (room - length out)))))

  one-call : Carries l s out (run_on 0 l room s out)
  one-call = either (eqb number 0) (λ e. if-done (eqb-true number 0 e)) if-refused

by_list : (rate room : ℕ) (l : List ℕ) → ((i : ℕ) → get_or l i 0 < 256) → (s : Outcome) (out : List ℕ) →
    Good rate s.board →
    ((n : ℕ) → length (drop n l) < length l → (o : Outcome) (a : List ℕ) → Good rate o.board →
    Carries (drop n l) o a (run_on 0 (drop n l) room o a)) →
    Carries l s out (run_on 0 l room s out)
unfolding run_on
by_list rate room [] bytes s out g next =
    none_carried [] s out (record { outcome = s; answers = out }) refl refl refl (λ _. refl)
by_list rate room (x ∷ rest) bytes s out g next = one-call rate room (x ∷ rest) bytes s out g (omega arith) next

-- by the length of the list, of which each call uses some bytes
carries : (rate room fuel : ℕ) (l : List ℕ) → length l ≤ fuel → ((i : ℕ) → get_or l i 0 < 256) → (s : Outcome)
    (out : List ℕ) → Good rate s.board → Carries l s out (run_on 0 l room s out)
carries rate room zero l h bytes s out g = by_list rate room l bytes s out g (λ n k. absurd (omega (arith, h, k)))
carries rate room (suc fuel) l h bytes s out g =
    by_list rate room l bytes s out g
    (λ n k o a. carries rate room fuel (drop n l) (omega (arith, h, k)) (rest_bytes l (drop n l) n refl bytes) o a)

-- ---- a run over a sound board

module _ (b : Board) (l : List ℕ) (room : ℕ) where
  module _ (f : BoardFits b) (s : sound b ≡ true) (bytes : (i : ℕ) → get_or l i 0 < 256) where
    from_start : Carries l (nothing_done b 0) [] (run_of b l room)
    unfolding run_of
    from_start =
        rw s (carries (rate_of b.clock) room (length l) l (omega arith) bytes (nothing_done b 0) [] (good b f s))

    count-is : from_start.count ≡ (run_of b l room).outcome.calls
    count-is = sym (from_start.counted ∙ zero-add from_start.count)

    pub run-carries : Carried b l room
    run-carries =
        record {
          board = from_start.board ∙ ap (λ (n : ℕ). after_all (calls_in n l) b) count-is;
          answers = from_start.answers ∙ ap (λ (n : ℕ). answers_of (calls_in n l) b) count-is;
          begins = subst (λ (n : ℕ). BeginsWith l (calls_in n l)) count-is from_start.begins;
          whole = λ z. subst (λ (n : ℕ). ListIs l (calls_in n l)) count-is (from_start.whole z);
        }

    -- where it is not refused, the calls of its list
    pub carries-all : (calls : List Call) → ListIs l calls → (run_of b l room).outcome.refusal ≡ 0 →
        carried_by b l room ≡ calls
    carries-all calls h z = same_calls (carried_by b l room) calls l (run-carries.whole z) h

    -- and refused or not, the first of them
    pub carries-first : (calls : List Call) → ListIs l calls →
        carried_by b l room ≡ take (run_of b l room).outcome.calls calls
    carries-first calls h =
        begun_first calls (carried_by b l room) l h run-carries.begins
        ∙ ap (λ (n : ℕ). take n calls) (calls_count (run_of b l room).outcome.calls l)

    pub carries-some : (P : Call → Type 0) (calls : List Call) → ListIs l calls → All P calls →
        All P (carried_by b l room)
    carries-some P calls h p =
        subst (All P) (sym (carries-first calls h)) (all_take P (run_of b l room).outcome.calls calls p)
