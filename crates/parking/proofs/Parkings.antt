-- The deadline's promise with parkings among the calls of its lists: a parking gives the board back, so that it is the
-- promise of the list without them. Assumes nothing.
use Prim.Native.Nat.{ℕ, ◌+◌}
use native.Mathlib.Nat.{zero-add}
use native.Mathlib.Omega.{arith}
use mathlib.Core.Path.{◌≡◌, refl, sym, ap, ◌∙◌, subst}
use mathlib.Core.Bool.{true}
use mathlib.Core.List.{List, [], ◌∷◌}
use borrow.Author.Tests.{le-ltb}
use Rattle.wide.proofs.Choices.{either}
use Rattle.clock.specs.Clock.{rate_of}
use Rattle.board.specs.declared.Board.{Board}
use Rattle.board.specs.declared.calls.Call.{Call}
use Rattle.board.specs.Loops.{All}
use Rattle.board.specs.Board.{BoardFits, exact_deadline, word_deadline, sound}
use Rattle.board.specs.Calls.{is_present, or_zero}
use Rattle.board.specs.Demand.{PassesTime, after, adds, after_all, cycles_passed, PromiseAfter}
use Rattle.board.specs.Kept.{Good}
use Rattle.board.proofs.Good.{good, good-sound}
use Rattle.board.proofs.Steps.{advance-call-step, host-call-step, passing_cases}
use Rattle.board.proofs.Demand3.{demand_3}
use Rattle.image.specs.declared.Form.{Form}
use Rattle.parking.specs.Parking.{form_takes, writing_of, Reading}
use Rattle.image.specs.Image.{image_length}
use Rattle.parking.specs.Demand.{
  parked_and_read,
  ParkingCall,
  call,
  parking,
  HostFits,
  PassesOrParks,
  after_parking,
  adds_parking,
  after_parkings,
  cycles_with_parkings,
  ParkingPromise,
}
use Rattle.parking.proofs.RoundTrip.{read_back}

-- a sound board that is written in a form and read back is the same board; one whose rate the form does not take comes
-- back as it was
pub parked_back : (f : Form) (b : Board) → sound b ≡ true → BoardFits b → parked_and_read f b ≡ b
unfolding parked_and_read writing_of
parked_back f b s w =
    either (form_takes f (rate_of b.clock))
    (λ t. rw (s, t, le-ltb (image_length f) (image_length f) (omega arith))
    (ap (λ (x : Reading). x.board) (read_back f b s t w)))
    (λ t. rw (s, t))

-- the calls without the parkings
abbrev unparked : List ParkingCall → List Call
unparked [] = []
unparked (call a ∷ calls) = a ∷ unparked calls
unparked (parking f ∷ calls) = unparked calls

-- pass time, and end in the same board, with the same T
record Same (calls : List ParkingCall) (b : Board) : Type 0 where
  passes : All PassesTime (unparked calls)
  board : after_parkings calls b ≡ after_all (unparked calls) b
  count : cycles_with_parkings calls b ≡ cycles_passed (unparked calls) b

call_good : {rate : ℕ} (a : Call) → PassesTime a → HostFits a → (b : Board) → Good rate b → Good rate (after a b)
call_good {rate} a p w b g =
    passing_cases (λ y. HostFits y → Good rate (after y b)) (λ h k. (host-call-step b g h k).good)
    (λ c _. (advance-call-step b g c).good) a p w

same : {rate : ℕ} (calls : List ParkingCall) → All PassesOrParks calls → (b : Board) → Good rate b → Same calls b
unfolding after_parkings cycles_with_parkings after_parking adds_parking after_all cycles_passed
same [] cs b g = record { passes = tt; board = refl; count = refl }
same (call a ∷ calls) cs b g =
    let s = same calls cs.1 (after a b) (call_good a cs.0.0 cs.0.1 b g) in
    record { passes = (cs.0.0, s.passes); board = s.board; count = ap (λ (n : ℕ). adds a b + n) s.count }
same (parking f ∷ calls) cs b g =
    let back : parked_and_read f b ≡ b = parked_back f b (good-sound g) g.fits in
    let s = same calls cs.1 b g in
    record {
      passes = s.passes;
      board = ap (after_parkings calls) back ∙ s.board;
      count =
          zero-add (cycles_with_parkings calls (parked_and_read f b)) ∙ ap (cycles_with_parkings calls) back ∙ s.count;
    }

-- the deadline that a sound board gives keeps what is promised of it, with parkings between the calls
pub parking_demand_3 : (b : Board) → BoardFits b →
    ParkingPromise b (is_present (exact_deadline b)) (or_zero (exact_deadline b))
    (or_zero (word_deadline (exact_deadline b)))
parking_demand_3 b f s low o calls cs =
    let m = same calls cs b (good b f s) in
    subst (λ (t : ℕ). P t (after_parkings calls b)) (sym m.count)
    (subst (λ (end : Board). P (cycles_passed (unparked calls) b) end) (sym m.board)
    (demand_3 b f s low o (unparked calls) m.passes))
  where
    P : ℕ → Board → Type 0
    P t end =
        PromiseAfter (is_present (exact_deadline b)) (or_zero (exact_deadline b))
        (or_zero (word_deadline (exact_deadline b)))
        b t end
