-- Laws of a run: what it does at its next call, and a run under way. Assumes nothing.
use mathlib.Core.Path.{◌≡◌, refl, sym, ap, ◌∙◌}
use mathlib.Core.List.{List, [], ◌∷◌, ◌++◌}
use mathlib.Core.Bool.{false}
use Prim.Native.Nat.{ℕ, zero, suc, ◌+◌, ◌-◌, ◌≤◌, ◌<◌}
use native.Mathlib.Nat.{zero-add}
use native.Mathlib.Omega.{arith}
use lib.Dec.{eqb}
use lib.ListN.{length, drop, get_or, length-drop, length-append, drop_of_length-le}
use lib.Seq.{sets, length-sets, drop-drop, get_or-drop}
use Rattle.board.specs.declared.Board.{Board}
use Rattle.clock.specs.Clock.{rate_of}
use Rattle.board.specs.Kept.{Good}
use Rattle.list.specs.declared.Counts.{Counts}
use Rattle.list.specs.Run.{Outcome, Result, done, refused, result_of, stepped, Run, run_on, over}
use Rattle.board.specs.Calls.{board_after}
use Rattle.registers.proofs.Kept.{call_keeps}
use Rattle.format.specs.Codec.{call_at, call_length, answer_record, record_length, refusal_at}
use Rattle.format.proofs.Frames.{sets_then, sets_front, call_fits, answer_size}
use Rattle.format.proofs.Decoding.{clear}
use Rattle.list.proofs.Results.{result-refused, result-done, done_fits}

-- ---- the run's next call

-- to skip some bytes is to go on over the list without them
pub skip_drop : (k : ℕ) (l : List ℕ) (room : ℕ) (s : Outcome) (out : List ℕ) →
    run_on k l room s out ≡ run_on 0 (drop k l) room s out
unfolding run_on
skip_drop zero l room s out = refl
skip_drop (suc k) [] room s out = refl
skip_drop (suc k) (x ∷ l) room s out = skip_drop k l room s out

module _ (x : ℕ) (rest : List ℕ) (room : ℕ) (s : Outcome) (out : List ℕ) where
  pub next-done : (b : Board) (n : ℕ) (a : List ℕ) → result_of s.board (x ∷ rest) (room - length out) ≡ done b n a →
      run_on 0 (x ∷ rest) room s out ≡ run_on (n - 1) rest room (stepped s (done b n a)) (out ++ a)
  unfolding run_on
  next-done b n a e = rw (e, run_on)

  pub next-refused : (n : ℕ) → result_of s.board (x ∷ rest) (room - length out) ≡ refused n →
      run_on 0 (x ∷ rest) room s out ≡ record { outcome = stepped s (refused n); answers = out }
  unfolding run_on
  next-refused n e = rw (e, run_on)

drop_pred : (n x : ℕ) (rest : List ℕ) → 3 ≤ n → drop (n - 1) rest ≡ drop n (x ∷ rest)
drop_pred zero x rest h = absurd (omega arith)
drop_pred (suc n) x rest h = let e : suc n - 1 ≡ n = omega arith in ap (λ (k : ℕ). drop k rest) e

-- where the call is done the run goes on behind it
pub go_on : (l : List ℕ) (room : ℕ) (s : Outcome) (out : List ℕ) → 0 < length l → (b : Board) (n : ℕ) (a : List ℕ) →
    result_of s.board l (room - length out) ≡ done b n a →
    run_on 0 l room s out ≡ run_on 0 (drop n l) room (stepped s (done b n a)) (out ++ a)
go_on [] room s out h b n a e = absurd (omega arith)
go_on (x ∷ rest) room s out h b n a e =
    next-done x rest room s out b n a e
    ∙ skip_drop (n - 1) rest room (stepped s (done b n a)) (out ++ a)
    ∙ ap (λ (k : List ℕ). run_on 0 k room (stepped s (done b n a)) (out ++ a))
    (drop_pred n x rest (done_fits s.board (x ∷ rest) (room - length out) b n a e).0)

-- where it is refused the run ends
pub stop_at : (l : List ℕ) (room : ℕ) (s : Outcome) (out : List ℕ) → 0 < length l → (n : ℕ) →
    result_of s.board l (room - length out) ≡ refused n →
    run_on 0 l room s out ≡ record { outcome = stepped s (refused n); answers = out }
stop_at [] room s out h n e = absurd (omega arith)
stop_at (x ∷ rest) room s out h n e = next-refused x rest room s out n e

-- ---- a run under way

-- the locals of a run that goes on
abbrev pub state_of : Board → Counts → Outcome
state_of b d = record { board = b; calls = d.calls; used = d.used; written = d.written; refusal = 0 }

-- the counts with n more list bytes used
abbrev pub more_used : Counts → ℕ → Counts
more_used d n = record { calls = d.calls; used = d.used + n; written = d.written }

-- the answers so far stand at the buffer's start, and the run from here on is the run from the list's start
pub record Running (list buf₀ : List ℕ) (s₀ : Outcome) (buf : List ℕ) (s : Outcome) : Type 0 where
  pub good : Good (rate_of s₀.board.clock) s.board
  pub used_in : s.used ≤ length list
  pub calls-in : s.calls ≤ s.used
  pub out : List ℕ
  pub counted : length out ≡ s.written
  pub room : length out ≤ length buf₀
  pub same : length buf ≡ length buf₀
  pub bytes : buf ≡ sets buf₀ 0 out
  pub whole : run_on 0 (drop s.used list) (length buf₀) s out ≡ run_on 0 list (length buf₀) s₀ []

-- the state of a run, and the buffer, are what the whole run says
unfoldable pub Ran : List ℕ → List ℕ → Outcome → List ℕ → Outcome → Type 0
Ran list buf₀ s₀ buf s =
    (s ≡ (run_on 0 list (length buf₀) s₀ []).outcome)
    × (buf ≡ over (run_on 0 list (length buf₀) s₀ []).answers buf₀)

pub begun : (list buf₀ : List ℕ) (s₀ : Outcome) → Good (rate_of s₀.board.clock) s₀.board →
    s₀.used ≡ 0 → s₀.calls ≡ 0 → s₀.written ≡ 0 → Running list buf₀ s₀ buf₀ s₀
begun list buf₀ s₀ g u k w =
    record {
      good = g;
      used_in = omega arith;
      calls-in = omega arith;
      out = [];
      counted = sym w;
      room = omega arith;
      same = refl;
      bytes = refl;
      whole = rw u;
    }

stopped : (list buf₀ : List ℕ) (s₀ : Outcome) (buf : List ℕ) (s : Outcome) (out : List ℕ) →
    length out ≤ length buf₀ → buf ≡ sets buf₀ 0 out →
    record { outcome = s; answers = out } ≡ run_on 0 list (length buf₀) s₀ [] → Ran list buf₀ s₀ buf s
unfolding Ran over
stopped list buf₀ s₀ buf s out room bytes e = (
  ap (λ (r : Run). r.outcome) e,
  bytes ∙ sets_front buf₀ out room ∙ ap (λ (r : Run). r.answers ++ drop (length r.answers) buf₀) e,
)

-- an answer is written behind those before it
store_more : (buf₀ buf buf' out bytes : List ℕ) (w : ℕ) → length out ≡ w → buf ≡ sets buf₀ 0 out →
    buf' ≡ sets buf w bytes → buf' ≡ sets buf₀ 0 (out ++ bytes)
store_more buf₀ buf buf' out bytes w c h e = rw (e, h) (rw zero-add at (sets_then buf₀ 0 w out bytes c))

module _ (list buf₀ : List ℕ) (s₀ : Outcome) (buf : List ℕ) (s : Outcome) (r : Running list buf₀ s₀ buf s) where
  -- a run at the end of its list
  pub ended : length list ≤ s.used → Ran list buf₀ s₀ buf s
  unfolding run_on
  ended h =
      stopped list buf₀ s₀ buf s r.out r.room r.bytes (rw (drop_of_length-le list h) at r.whole)

  -- the next call, with the room that the answers so far leave, is done: the run goes on behind it
  more : s.used < length list → (b : Board) (n : ℕ) (a buf' : List ℕ) →
      result_of s.board (drop s.used list) (length buf₀ - length r.out) ≡ done b n a →
      buf' ≡ sets buf s.written a → Good (rate_of s₀.board.clock) b →
      Running list buf₀ s₀ buf' (stepped s (done b n a))
  unfolding stepped
  more inside b n a buf' e w g =
      let k = done_fits s.board (drop s.used list) (length buf₀ - length r.out) b n a e in
      let d = length-drop s.used list in
      let l = length-append r.out a in
      record {
        good = g;
        used_in = omega arith;
        calls-in = omega arith;
        out = r.out ++ a;
        counted = omega arith;
        room = omega arith;
        same = rw (w, length-sets) r.same;
        bytes = store_more buf₀ buf buf' r.out a s.written r.counted r.bytes w;
        whole =
            ap (λ (m : List ℕ). run_on 0 m (length buf₀) (stepped s (done b n a)) (r.out ++ a))
            (sym (drop-drop n s.used list))
            ∙ sym (go_on (drop s.used list) (length buf₀) s r.out (omega arith) b n a e)
            ∙ r.whole;
      }

-- ---- the call at the front of l, which is what is left of the list

pub rest_bytes : (list l : List ℕ) (used : ℕ) → l ≡ drop used list → ((i : ℕ) → get_or list i 0 < 256) →
    (i : ℕ) → get_or l i 0 < 256
rest_bytes list l used e h i = rw (e, get_or-drop used list i 0) (h (used + i))

module _ (list buf₀ : List ℕ) (s₀ : Outcome) (buf : List ℕ) (b : Board) (d : Counts)
    (r : Running list buf₀ s₀ buf (state_of b d)) (inside : d.used < length list)
    (l : List ℕ) (rest : l ≡ drop d.used list) where
  at_front : (t : Result) → result_of b l (length buf - d.written) ≡ t →
      result_of b (drop d.used list) (length buf₀ - length r.out) ≡ t
  at_front t e = rw (← rest, ← r.same, r.counted) e

  -- it is refused
  pub ends : (n : ℕ) → n ≡ refusal_at b l (length buf - d.written) → eqb n 0 ≡ false →
      Ran list buf₀ s₀ buf
      (record { board = b; calls = d.calls; used = d.used; written = d.written; refusal = n })
  unfolding stepped
  ends n p q =
      let k = length-drop d.used list in
      let e = at_front (refused n) (result-refused b l (length buf - d.written) n p q) in
      stopped list buf₀ s₀ buf _ r.out r.room r.bytes
      (sym (stop_at (drop d.used list) (length buf₀) (state_of b d) r.out (omega arith) n e) ∙ r.whole)

  module _ (z : refusal_at b l (length buf - d.written) ≡ 0) where
    -- it is accepted: its record is inside the buffer
    pub written-inside : d.written + record_length (call_at l) ≤ length buf
    written-inside = omega (arith, (clear b l (length buf - d.written) z).fits, r.counted, r.room, r.same)

    -- the run goes on behind it
    pub goes_on : ((i : ℕ) → get_or l i 0 < 256) → (b' : Board) → b' ≡ board_after (call_at l) b → (buf' : List ℕ) →
        buf' ≡ sets buf d.written (answer_record (call_at l) b) → (d' : Counts) (size : ℕ) →
        d' ≡ more_used d (call_length (call_at l)) → size ≡ record_length (call_at l) →
        Running list buf₀ s₀ buf'
        (state_of b' (record { calls = d'.calls + 1; used = d'.used; written = d'.written + size }))
    unfolding stepped
    goes_on bytes b' e buf' w d' size p q =
        let room = length buf - d.written in
        rw (p, q, e, ← answer_size (call_at l) b)
        (more list buf₀ s₀ buf (state_of b d) r inside (board_after (call_at l) b)
        (call_length (call_at l)) (answer_record (call_at l) b) buf' (at_front _ (result-done b l room z)) w
        (call_keeps (call_at l) (rate_of s₀.board.clock) b (call_fits l bytes) r.good (clear b l room z).own))
