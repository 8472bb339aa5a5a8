-- The image that a run leaves is read as the run's board, and a list run in two parts with a parking between them, in
-- either form, is the list run whole. Assumes nothing.
use Prim.Native.Nat.{ℕ, ◌-◌, ◌<◌}
use mathlib.Core.Path.{◌≡◌, refl, sym, ap, ◌∙◌}
use mathlib.Core.Bool.{true}
use mathlib.Core.List.{List, ◌++◌}
use lib.ListN.{length, get_or}
use borrow.Author.Tests.{eq-eqb, ne_eqb}
use Rattle.clock.specs.Clock.{rate_of}
use Rattle.board.specs.declared.Board.{Board}
use Rattle.board.specs.Fields.{fresh_board_at}
use Rattle.board.specs.Board.{BoardFits, sound}
use Rattle.board.proofs.Kept.{fresh_fits}
use Rattle.image.specs.declared.Form.{Form}
use Rattle.image.specs.Image.{image_of}
use Rattle.parking.specs.Parking.{Reading, form_takes, reading_refusal, reading_of}
use Rattle.parking.specs.Demand.{parked_and_read}
use Rattle.parking.proofs.RoundTrip.{refusal_is, read_back, accepted_sound, accepted-rate, accepted-fits}
use Rattle.parking.proofs.Parkings.{parked_back}
use Rattle.list.specs.Run.{Run, run_of, joined}
use Rattle.list.proofs.TwoParts.{two-parts}
use Rattle.list.proofs.Kept.{began_sound, run_sound, run_fits, run-rate}
use Rattle.resume.specs.Resumed.{run_parked, image_after}

-- a run over a sound board, refused or not, leaves a board that its image gives back
module _ (b : Board) (f : BoardFits b) (l : List ℕ) (room : ℕ) (bytes : (i : ℕ) → get_or l i 0 < 256)
    (s : sound b ≡ true) where
  abbrev First : Run
  First = run_of b l room

  left-sound : sound First.outcome.board ≡ true
  left-sound = run_sound b l room f bytes s

  left-fits : BoardFits First.outcome.board
  left-fits = run_fits b l room f bytes

  -- what the image of its board says is its board, in a form that takes the rate
  pub left_back : (form : Form) → form_takes form (rate_of b.clock) ≡ true →
      reading_of (image_of form First.outcome.board)
      ≡ record { board = First.outcome.board; form = form; refusal = 0 }
  left_back form t =
      read_back form First.outcome.board left-sound (ap (form_takes form) (run-rate b l room f bytes) ∙ t) left-fits

-- where the first part is not refused: the whole run gives the board, the answers one after the other and the counts
-- added up of the two, with the board written and read back between them
pub parked_between : (b : Board) → BoardFits b → (l m : List ℕ) (room : ℕ) → ((i : ℕ) → get_or l i 0 < 256) →
    (run_of b l room).outcome.refusal ≡ 0 → (form : Form) →
    run_of b (l ++ m) room
    ≡ joined (run_of b l room)
    (run_of (parked_and_read form (run_of b l room).outcome.board) m (room - length (run_of b l room).answers))
parked_between b f l m room bytes z form =
    let s = began_sound b l room z in
    two-parts b l m room f bytes z
    ∙ ap (λ (c : Board). joined (run_of b l room) (run_of c m (room - length (run_of b l room).answers)))
    (sym (parked_back form (run_of b l room).outcome.board (left-sound b f l room bytes s)
    (left-fits b f l room bytes s)))

-- from a fresh board of any rate, for every list
pub fresh_in_parts : (f : Form) (rate : ℕ) (l m : List ℕ) (room : ℕ) → ((i : ℕ) → get_or l i 0 < 256) →
    (run_of (fresh_board_at rate) l room).outcome.refusal ≡ 0 →
    run_of (fresh_board_at rate) (l ++ m) room
    ≡ joined (run_of (fresh_board_at rate) l room)
    (run_of (parked_and_read f (run_of (fresh_board_at rate) l room).outcome.board) m
    (room - length (run_of (fresh_board_at rate) l room).answers))
fresh_in_parts f rate l m room bytes z = parked_between (fresh_board_at rate) (fresh_fits rate) l m room bytes z f

-- the image that a run over a parked board leaves
image_left : (image l : List ℕ) (room : ℕ) → reading_refusal image ≡ 0 →
    image_after image l room ≡ image_of (reading_of image).form (run_parked image l room).outcome.board
unfolding image_after
image_left image l room e = rw (eq-eqb (reading_refusal image) 0 e)

-- an image that is refused stays as it is
pub refused_left : (image l : List ℕ) (room : ℕ) → (reading_refusal image ≡ 0 → ⊥) → image_after image l room ≡ image
unfolding image_after
refused_left image l room n = rw (ne_eqb (reading_refusal image) 0 n)

-- the image that a run leaves is read as the run's board, in the form that the image has, whether the run is refused or
-- not: of an image whose board's fields are within their widths
pub left_read : (image l : List ℕ) (room : ℕ) → reading_refusal image ≡ 0 → BoardFits (reading_of image).board →
    ((i : ℕ) → get_or l i 0 < 256) →
    reading_of (image_after image l room)
    ≡ record { board = (run_parked image l room).outcome.board; form = (reading_of image).form; refusal = 0 }
left_read image l room read fits bytes =
    let accepted = refusal_is image (reading_of image) refl ∙ read in
    ap reading_of (image_left image l room read)
    ∙ left_back (reading_of image).board fits l room bytes (accepted_sound image accepted) (reading_of image).form
    (accepted-rate image accepted)

-- and so of every accepted image of a machine's bytes, every list and every room
module _ (image l : List ℕ) (room : ℕ) (image-bytes : (i : ℕ) → get_or image i 0 < 256)
    (bytes : (i : ℕ) → get_or l i 0 < 256) (read : reading_refusal image ≡ 0) where
  fits : BoardFits (reading_of image).board
  fits = accepted-fits image image-bytes (refusal_is image (reading_of image) refl ∙ read)

  pub between :
      reading_of (image_after image l room)
      ≡ record { board = (run_parked image l room).outcome.board; form = (reading_of image).form; refusal = 0 }
  between = left_read image l room read fits bytes

  -- it is accepted
  pub between-read : reading_refusal (image_after image l room) ≡ 0
  between-read =
      sym (refusal_is (image_after image l room) (reading_of (image_after image l room)) refl)
      ∙ ap (λ (r : Reading). r.refusal) between

-- where the first part is not refused: the second part runs over the image that the first part leaves
module _ (image l m : List ℕ) (room : ℕ) (image-bytes : (i : ℕ) → get_or image i 0 < 256)
    (bytes : (i : ℕ) → get_or l i 0 < 256) (read : reading_refusal image ≡ 0)
    (z : (run_parked image l room).outcome.refusal ≡ 0) where
  abbrev left : reading_of (image_after image l room)
      ≡ record { board = (run_parked image l room).outcome.board; form = (reading_of image).form; refusal = 0 }
  left = between image l room image-bytes bytes read

  pub resumed-in-parts :
      run_parked image (l ++ m) room
      ≡ joined (run_parked image l room)
      (run_parked (image_after image l room) m (room - length (run_parked image l room).answers))
  resumed-in-parts =
      two-parts (reading_of image).board l m room (fits image l room image-bytes bytes read) bytes z
      ∙ ap
      (λ (c : Board). joined (run_parked image l room) (run_of c m (room - length (run_parked image l room).answers)))
      (sym (ap (λ (r : Reading). r.board) left))

  -- and leaves the image that the whole run leaves
  pub image-in-parts :
      image_after image (l ++ m) room
      ≡ image_after (image_after image l room) m (room - length (run_parked image l room).answers)
  image-in-parts =
      image_left image (l ++ m) room read
      ∙ ap (λ (r : Run). image_of (reading_of image).form r.outcome.board) resumed-in-parts
      ∙ ap (λ (f : Form). image_of f (run_parked (image_after image l room) m
      (room - length (run_parked image l room).answers)).outcome.board)
      (sym (ap (λ (r : Reading). r.form) left))
      ∙ sym (image_left (image_after image l room) m (room - length (run_parked image l room).answers)
      (between-read image l room image-bytes bytes read))
