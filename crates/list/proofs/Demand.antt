-- Calls that a run carries out one after another: each is the direct call, and what stands behind them has no effect on
-- them. Assumes nothing.
use Prim.Native.Nat.{ℕ, zero, suc, ◌-◌, ◌<◌}
use native.Mathlib.Omega.{arith}
use mathlib.Core.Path.{◌≡◌, refl, sym, ap, ◌∙◌, subst}
use mathlib.Core.Bool.{Bool, true, false}
use mathlib.Core.List.{List, [], ◌∷◌, ◌++◌}
use lib.ListN.{length, take, drop, get_or, length-append}
use lib.Seq.{drop-append-le}
use Rattle.wide.specs.Bits.{flag_of}
use Rattle.wide.specs.Fields.{be}
use Rattle.board.specs.declared.Board.{Board}
use Rattle.board.specs.declared.calls.Call.{Call}
use Rattle.board.specs.Channels.{matches_all}
use Rattle.board.specs.Board.{line, sound}
use Rattle.board.specs.Calls.{effect_of, DirectAnswer, refusal_of, board_after, moved_board, advance_by}
use Rattle.board.specs.Demand.{after}
use Rattle.board.proofs.Soundness.{wired_line}
use Rattle.board.proofs.Answers.{answer-accepted}
use Rattle.format.specs.Format.{members_bytes, answer_bytes, record_of}
use Rattle.format.specs.Codec.{frame_refusal, call_length, answer_record}
use Rattle.format.proofs.Frames.{framed}
use Rattle.list.specs.Run.{Outcome, Result, done, refused, result_of, stepped, Run, run_on, nothing_done, run_of}
use Rattle.list.specs.Demand.{FrontIs, ListIs}
use Rattle.list.proofs.Results.{done_placed, done_fits}
use Rattle.list.proofs.Runs.{go_on, stop_at}
use Rattle.list.proofs.TwoParts.{result_before}

-- ---- one call

-- an accepted call of the list is the direct call
pub accepted_after : (call : Call) (b : Board) → sound b ≡ true → (effect_of call b).refusal ≡ 0 →
    board_after call b ≡ after call b
unfolding after
accepted_after call b s z =
    let r : refusal_of b (effect_of call b).refusal ≡ 0 = rw s z in
    sym (ap (λ (y : DirectAnswer). y.board) (answer-accepted call b r))

-- where it is done
module _ (l : List ℕ) (b : Board) (room : ℕ) (call : Call) (f : FrontIs l call) where
  done-length : (b' : Board) (n : ℕ) (x : List ℕ) → result_of b l room ≡ done b' n x → n ≡ call_length call
  done-length b' n x e = (done_placed b l room b' n x e).1.0 ∙ ap call_length f.1

-- the answer of an advance: the line, behind tag and length
advance_line : (ns : List ℕ) (v : Bool) → take 4 (record_of 4 (answer_bytes 4 (flag_of v ∷ ns))) ≡ 4 ∷ 0 ∷ 65 ∷ flag_of
    v ∷ []
unfolding record_of members_bytes be
advance_line ns true = refl
advance_line ns false = refl

-- an advance that is done answers the line of the board that it leaves
pub line_answered : (l : List ℕ) (b : Board) (room c : ℕ) → FrontIs l (advance_by c) →
    (b' : Board) (n : ℕ) (x : List ℕ) → result_of b l room ≡ done b' n x →
    take 4 x ≡ 4 ∷ 0 ∷ 65 ∷ flag_of (line b') ∷ []
line_answered l b room c f b' n x e =
    let p = done_placed b l room b' n x e in
    let left = p.1.1.1.0 ∙ ap (λ (call : Call). board_after call b) f.1 in
    let moved : line b' ≡ line (moved_board c b) = ap line left ∙ wired_line (moved_board c b) in
    let ns = matches_all b.timer_enable c b.timers in
    ap (take 4) (p.1.1.1.1 ∙ ap (λ (call : Call). answer_record call b) f.1)
    ∙ advance_line ns (line (moved_board c b))
    ∙ ap (λ (v : Bool). 4 ∷ 0 ∷ 65 ∷ flag_of v ∷ []) (sym moved)

-- ---- bytes behind the calls

-- a run that is refused inside the calls ends there, whatever stands behind them
ends_inside : (m : List ℕ) (calls : List Call) (l : List ℕ) (room : ℕ) (s : Outcome) (out : List ℕ) →
    s.refusal ≡ 0 → ListIs l calls → ((run_on 0 l room s out).outcome.refusal ≡ 0 → ⊥) →
    run_on 0 (l ++ m) room s out ≡ run_on 0 l room s out
unfolding ListIs run_on stepped
ends_inside m [] l room s out z e r = absurd (r (rw e z))
ends_inside m (a ∷ calls) l room s out z h r =
    onward (λ n o x y i q. ends_inside m calls (drop n l) room o x y i q)
    (result_of s.board l (room - length out)) refl
  where
    frame : frame_refusal l ≡ 0
    frame = h.0.0

    inside : 0 < length l
    inside = omega (arith, framed l frame)

    longer : 0 < length (l ++ m)
    longer = omega (arith, inside, length-append l m)

    onward :
        ((n : ℕ) (o : Outcome) (x : List ℕ) → o.refusal ≡ 0 → ListIs (drop n l) calls →
        ((run_on 0 (drop n l) room o x).outcome.refusal ≡ 0 → ⊥) →
        run_on 0 (drop n l ++ m) room o x ≡ run_on 0 (drop n l) room o x) →
        (t : Result) → result_of s.board l (room - length out) ≡ t →
        run_on 0 (l ++ m) room s out ≡ run_on 0 l room s out
    onward next (refused n) e =
        stop_at (l ++ m) room s out longer n (result_before s.board l m (room - length out) frame ∙ e)
        ∙ sym (stop_at l room s out inside n e)
    onward next (done b n x) e =
        let i = subst (λ (k : ℕ). ListIs (drop k l) calls)
        (sym (done-length l s.board (room - length out) a h.0 b n x e)) h.1 in
        let g = go_on l room s out inside b n x e in
        let f = done_fits s.board l (room - length out) b n x e in
        go_on (l ++ m) room s out longer b n x (result_before s.board l m (room - length out) frame ∙ e)
        ∙ ap (λ (k : List ℕ). run_on 0 k room (stepped s (done b n x)) (out ++ x)) (drop-append-le n l m f.1.0)
        ∙ next n (stepped s (done b n x)) (out ++ x) refl i (λ y. r (ap (λ (q : Run). q.outcome.refusal) g ∙ y))
        ∙ sym g

-- bytes in front of bytes
pub bytes_before : (l m : List ℕ) → ((i : ℕ) → get_or (l ++ m) i 0 < 256) → (i : ℕ) → get_or l i 0 < 256
bytes_before [] m h i = omega arith
bytes_before (x ∷ l) m h zero = h 0
bytes_before (x ∷ l) m h (suc i) = bytes_before l m (λ j. h (suc j)) i

-- and behind
pub bytes_behind : (l m : List ℕ) → ((i : ℕ) → get_or (l ++ m) i 0 < 256) → (i : ℕ) → get_or m i 0 < 256
bytes_behind [] m h i = h i
bytes_behind (x ∷ l) m h i = bytes_behind l m (λ j. h (suc j)) i

-- a run over a sound board is refused inside the calls: what stands behind them has no part in it
pub run_ends : (b : Board) (l m : List ℕ) (room : ℕ) (calls : List Call) → sound b ≡ true → ListIs l calls →
    ((run_of b l room).outcome.refusal ≡ 0 → ⊥) → run_of b (l ++ m) room ≡ run_of b l room
unfolding run_of
run_ends b l m room calls s h r =
    rw s (ends_inside m calls l room (nothing_done b 0) [] refl h (rw s at r))
