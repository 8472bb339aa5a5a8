-- Runs over images, one after another, refused ones among them: the last image is read as the board after the calls
-- that they carried out, and what is promised of the deadline of the first image's board holds of these calls. Assumes
-- nothing.
use Prim.Native.Nat.{ℕ, ◌<◌}
use mathlib.Core.Path.{◌≡◌, refl, sym, ap, ◌∙◌, subst}
use mathlib.Core.Bool.{true, false}
use mathlib.Core.List.{List, [], ◌∷◌, ◌++◌}
use lib.ListN.{get_or}
use borrow.Author.Tests.{eq-eqb}
use Rattle.clock.specs.Clock.{from_host}
use Rattle.board.specs.declared.Board.{Board}
use Rattle.board.specs.declared.calls.Call.{Call}
use Rattle.board.specs.Loops.{All}
use Rattle.board.specs.Board.{BoardFits, line, exact_deadline, word_deadline, sound}
use Rattle.board.specs.Calls.{is_present, or_zero}
use Rattle.board.specs.Demand.{PassesTime, after, after_all, cycles_passed, PromiseAfter}
use Rattle.board.proofs.Demand3.{demand_3}
use Rattle.parking.specs.Parking.{Reading, reading_refusal, reading_of}
use Rattle.parking.proofs.RoundTrip.{refusal_is, accepted_sound, accepted-fits}
use Rattle.list.proofs.Kept.{run_fits}
use Rattle.resume.specs.Resumed.{run_parked, resumed_of, image_after}
use Rattle.resume.specs.Carried.{
  calls_in,
  carried_by,
  ImageRun,
  ListBytes,
  image_after_all,
  carried_out,
  PassingList,
}
use Rattle.resume.proofs.TwoRuns.{left_read}
use Rattle.resume.proofs.Carried.{run-carries, carries-some}

-- calls behind calls
after_both : (calls others : List Call) (b : Board) → after_all (calls ++ others) b
    ≡ after_all others (after_all calls b)
unfolding after_all
after_both [] others b = refl
after_both (a ∷ calls) others b = after_both calls others (after a b)

all_both : {A : Type 0} (P : A → Type 0) (xs ys : List A) → All P xs → All P ys → All P (xs ++ ys)
all_both P [] ys p q = q
all_both P (x ∷ xs) ys p q = (p.0, all_both P xs ys p.1 q)

-- ---- one run over an accepted image whose board's fields are within their widths

module _ (image : List ℕ) (r : ImageRun) (read : reading_refusal image ≡ 0) (fits : BoardFits (reading_of image).board)
    (bytes : ListBytes r) where
  abbrev Start : Board
  Start = (reading_of image).board

  abbrev Next : List ℕ
  Next = image_after image r.list r.room

  -- the calls that it carries out
  abbrev Calls : List Call
  Calls = calls_in (resumed_of image r.list r.room).calls r.list

  start-sound : sound Start ≡ true
  start-sound = accepted_sound image (refusal_is image (reading_of image) refl ∙ read)

  counts : (resumed_of image r.list r.room).calls ≡ (run_parked image r.list r.room).outcome.calls
  unfolding resumed_of
  counts = rw (eq-eqb (reading_refusal image) 0 read)

  calls_are : Calls ≡ carried_by Start r.list r.room
  calls_are = ap (λ (n : ℕ). calls_in n r.list) counts

  next-reads : reading_of Next ≡ record { board = after_all Calls Start; form = (reading_of image).form; refusal = 0 }
  next-reads =
      left_read image r.list r.room read fits bytes
      ∙ ap (λ (b : Board). record { board = b; form = (reading_of image).form; refusal = 0 })
      ((run-carries Start r.list r.room fits start-sound bytes).board
      ∙ ap (λ (calls : List Call). after_all calls Start) (sym calls_are))

  next-read : reading_refusal Next ≡ 0
  next-read = sym (refusal_is Next (reading_of Next) refl) ∙ ap (λ (x : Reading). x.refusal) next-reads

  next_fits : BoardFits (reading_of Next).board
  next_fits =
      subst BoardFits (sym (ap (λ (x : Reading). x.board) (left_read image r.list r.room read fits bytes)))
      (run_fits Start r.list r.room fits bytes)

  next-passes : PassingList r → All PassesTime Calls
  next-passes p =
      subst (All PassesTime) (sym calls_are)
      (carries-some Start r.list r.room fits start-sound bytes PassesTime p.calls p.are p.pass)

-- ---- one run after another

all_read : (runs : List ImageRun) → All ListBytes runs → (image : List ℕ) → reading_refusal image ≡ 0 →
    BoardFits (reading_of image).board →
    reading_of (image_after_all runs image)
    ≡ record {
      board = after_all (carried_out runs image) (reading_of image).board;
      form = (reading_of image).form;
      refusal = 0;
    }
unfolding image_after_all carried_out after_all
all_read [] w image read fits =
    ap (λ (n : ℕ). record { board = (reading_of image).board; form = (reading_of image).form; refusal = n })
    (refusal_is image (reading_of image) refl ∙ read)
all_read (r ∷ runs) w image read fits =
    let next = image_after image r.list r.room in
    let calls = calls_in (resumed_of image r.list r.room).calls r.list in
    all_read runs w.1 next (next-read image r read fits w.0) (next_fits image r read fits w.0)
    ∙ ap (λ (x : Reading). record { board = after_all (carried_out runs next) x.board; form = x.form; refusal = 0 })
    (next-reads image r read fits w.0)
    ∙ ap (λ (b : Board). record { board = b; form = (reading_of image).form; refusal = 0 })
    (sym (after_both calls (carried_out runs next) (reading_of image).board))

all_pass : (runs : List ImageRun) → All ListBytes runs → All PassingList runs → (image : List ℕ) →
    reading_refusal image ≡ 0 → BoardFits (reading_of image).board → All PassesTime (carried_out runs image)
unfolding carried_out
all_pass [] w p image read fits = tt
all_pass (r ∷ runs) w p image read fits =
    all_both PassesTime (calls_in (resumed_of image r.list r.room).calls r.list)
    (carried_out runs (image_after image r.list r.room))
    (next-passes image r read fits w.0 p.0)
    (all_pass runs w.1 p.1 (image_after image r.list r.room) (next-read image r read fits w.0)
    (next_fits image r read fits w.0))

-- ---- over an accepted image of a machine's bytes

module _ (image : List ℕ) (runs : List ImageRun) (image-bytes : (i : ℕ) → get_or image i 0 < 256)
    (bytes : All ListBytes runs) (read : reading_refusal image ≡ 0) where
  first-accepted : (reading_of image).refusal ≡ 0
  first-accepted = refusal_is image (reading_of image) refl ∙ read

  first_fits : BoardFits (reading_of image).board
  first_fits = accepted-fits image image-bytes first-accepted

  -- the last image is accepted, has the form of the first, and is read as the board after the calls that the runs
  -- carried out, whatever calls they are
  pub successive-read :
      reading_of (image_after_all runs image)
      ≡ record {
        board = after_all (carried_out runs image) (reading_of image).board;
        form = (reading_of image).form;
        refusal = 0;
      }
  successive-read = all_read runs bytes image read first_fits

  -- where the lists are calls 01 and 04, so are the calls carried out, also where a run is refused inside its list
  pub passing-runs : All PassingList runs → All PassesTime (carried_out runs image)
  passing-runs p = all_pass runs bytes p image read first_fits

  -- where the calls carried out are calls 01 and 04: what is promised of the deadline of the first image's board holds,
  -- with T the cycles of the advances carried out and the end the board that the last image is read as
  pub successive-demand-3 : line (reading_of image).board ≡ false →
      from_host (reading_of image).board.clock.control ≡ false → All PassesTime (carried_out runs image) →
      PromiseAfter (is_present (exact_deadline (reading_of image).board))
      (or_zero (exact_deadline (reading_of image).board))
      (or_zero (word_deadline (exact_deadline (reading_of image).board))) (reading_of image).board
      (cycles_passed (carried_out runs image) (reading_of image).board) (reading_of (image_after_all runs image)).board
  successive-demand-3 low o w =
      let b = (reading_of image).board in
      subst
      (PromiseAfter (is_present (exact_deadline b)) (or_zero (exact_deadline b))
      (or_zero (word_deadline (exact_deadline b))) b
      (cycles_passed (carried_out runs image) b))
      (sym (ap (λ (x : Reading). x.board) successive-read))
      (demand_3 b first_fits (accepted_sound image first-accepted) low o (carried_out runs image) w)
