-- Laws of what is printed: a text in a buffer that has room for it, the answers that a run wrote, and the two cases of
-- the rule. Assumes nothing.
use Prim.Native.Nat.{ℕ, ◌≤◌, ◌<◌}
use native.Mathlib.Omega.{arith}
use mathlib.Core.Path.{◌≡◌, sym, ap, ◌∙◌}
use mathlib.Core.List.{List}
use lib.ListN.{length, take, drop, length-append}
use lib.Seq.{take_all, take-append_seam, length-take-le}
use borrow.Author.Tests.{lt-ltb, le-ltb}
use Rattle.board.specs.declared.Board.{Board}
use Rattle.board.specs.Fields.{fresh_board}
use Rattle.board.specs.Refusals.{refusal_code}
use Rattle.list.specs.declared.Outcome.{Outcome as Ended}
use Rattle.list.specs.Run.{Outcome, outcome_of, run_of, over}
use Rattle.listing.specs.Listing.{ascii, listing_of, with_text}
use Rattle.listrun.proofs.Carried.{written_is}
use Rattle.listrun.specs.Printed.{list_limit, answer_room, listed, printed_of}

-- ---- a text in a buffer that has room for it

pub text_is : (t p old new : List ℕ) (r : ℕ) → t ≡ p → r ≡ length t → new ≡ with_text t old → length t ≤ length old →
    take r new ≡ p
unfolding with_text
text_is t p old new r q e f h =
    rw (e, f, take_all (length old) t h) (take-append_seam t (drop (length t) old) ∙ q)

-- ---- the answers that a run wrote

module _ (list : List ℕ) (board : Board) (before after : List ℕ) (e : Ended) (room : ℕ) (fresh : board ≡ fresh_board)
    (ran : outcome_of e ≡ (run_of board list room).outcome)
    (wrote : after ≡ over (run_of board list room).answers before)
  where
    counted : e.done.written ≡ length (run_of board list room).answers
    counted = ap (λ (q : Outcome). q.written) ran ∙ written_is board list room

    -- they lie within the buffer
    pub written_fits : e.done.written ≤ length after
    unfolding over
    written_fits =
        let a = (run_of board list room).answers in
        omega (arith, counted, ap length wrote, length-append a (drop (length a) before))

    pub written_long : e.done.written ≡ length (take e.done.written after)
    written_long = sym (length-take-le e.done.written after written_fits)

    -- they are listed
    pub listed_is :
        listing_of (take e.done.written after) e.done.calls (refusal_code e.end) e.done.used
        ≡ listed (run_of fresh_board list room)
    unfolding listed over
    listed_is =
        let a = (run_of board list room).answers in
        let front : take e.done.written after ≡ a = rw (counted, wrote) (take-append_seam a (drop (length a) before)) in
        ap (λ (l : List ℕ). listing_of l e.done.calls (refusal_code e.end) e.done.used) front
        ∙ ap (λ (q : Outcome). listing_of a q.calls q.refusal q.used) ran
        ∙ ap (λ (b : Board). listed (run_of b list room)) fresh

-- ---- the two cases

pub printed_long : (l : List ℕ) → list_limit < length l → ascii "too long\n" ≡ printed_of l
unfolding printed_of
printed_long l h = rw (lt-ltb list_limit (length l) h)

pub printed_run : (l : List ℕ) (room : ℕ) → length l ≤ list_limit → room ≡ answer_room →
    listed (run_of fresh_board l room) ≡ printed_of l
unfolding printed_of
printed_run l room h e =
    ap (λ (n : ℕ). listed (run_of fresh_board l n)) e ∙ rw (le-ltb list_limit (length l) h)
