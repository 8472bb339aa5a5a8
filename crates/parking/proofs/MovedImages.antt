-- S-8, 'Parked boards with a rate': what a move answers; there and back gives the same bytes, and the moved image says
-- the same board. `Bytes` says of a list what a machine's bytes are. Assumes nothing.
use Prim.Native.Nat.{ℕ, ◌≤◌}
use native.Mathlib.Omega.{arith}
use mathlib.Core.Path.{◌≡◌, refl, sym, ap, ◌∙◌}
use mathlib.Core.Bool.{true, false, cond}
use mathlib.Core.List.{List, [], ◌∷◌, ◌++◌}
use lib.ListN.{length, drop}
use lib.Seq.{drop_at}
use lib.Dec.{eqb}
use borrow.Author.Tests.{eqb-true, eqb-false, ne_eqb, le-ltb}
use Rattle.wide.proofs.Choices.{either}
use Rattle.clock.specs.Clock.{rate_of}
use Rattle.board.specs.declared.Board.{Board}
use Rattle.board.specs.Board.{BoardFits, sound}
use Rattle.std.proofs.Common.{Result, Ok, Err}
use Rattle.board.specs.declared.refusal.Refusal.{Refusal}
use Rattle.board.specs.Refusals.{refusal_number}
use Rattle.image.specs.declared.Form.{Form}
use Rattle.parking.specs.declared.Parked.{Parked}
use Rattle.parking.specs.Answers.{reading_said, writing_said, move_said}
use Rattle.board.proofs.Answers.{some_refusal}
use Rattle.image.specs.declared.Form.TheVariants.{Old, New}
use Rattle.image.specs.Image.{rate_field, field_length, image_length, field_bytes, image_of, formed, board_from}
use Rattle.image.proofs.Fields.{field-length, front_image}
use Rattle.parking.specs.Parking.{
  Reading,
  Writing,
  form_takes,
  parking_refusal,
  writing_refusal,
  writing_of,
  buffer_after,
  image_malformed,
  board_in,
  form_refusal,
  reading_in,
  form_of,
  reading_refusal,
  reading_of,
}
use Rattle.parking.specs.Moves.{other_form, move_refusal, moved_image, move_of, moved_buffer}
use Rattle.format.specs.Codec.{first_of}
use Rattle.format.proofs.Members.{Bytes}
use Rattle.parking.proofs.RoundTrip.{
  in-sound,
  in-fits,
  only-in,
  formed_long,
  formed_not,
  one_form,
  form_took,
  image-accepted,
  board-said,
  read_back,
  read_as,
  accepted-formed,
}

-- ---- what a move answers, by the reading and the writing that it is made of

module _ (to : Form) (l old : List ℕ) where
  -- the reading is refused
  module _ (d : Refusal) (e : reading_said (Err d) ≡ reading_in (other_form to) l) where
    refused : move_refusal to l (length old) ≡ refusal_number d
    unfolding move_refusal reading_in
    refused =
        let same : refusal_number d ≡ form_refusal (other_form to) l = ap (λ (x : Reading). x.refusal) e in
        rw (← same, some_refusal d) refl

    pub move-refused : (record { refusal = refusal_number d; written = 0 } ≡ move_of to l (length old))
        × (old ≡ moved_buffer to l old)
    unfolding move_of moved_buffer
    move-refused = (rw (refused, some_refusal d) refl, rw (refused, some_refusal d) refl)

  -- the writing answers
  module _ (p : Parked) (e : reading_said (Ok p) ≡ reading_in (other_form to) l) where
    taken : form_refusal (other_form to) l ≡ 0
    unfolding reading_in
    taken = sym (ap (λ (x : Reading). x.refusal) e)

    board : p.board ≡ board_in (other_form to) l
    unfolding reading_in
    board = ap (λ (x : Reading). x.board) e ∙ rw taken refl

    written : move_refusal to l (length old) ≡ writing_refusal to (board_in (other_form to) l) (length old)
    unfolding move_refusal
    written = rw (taken, in-sound (other_form to) l taken) refl

    -- the same answer without the board
    of_writing : (b : Board) (w : Result ℕ Refusal) →
        move_said w ≡ record { refusal = (writing_said b w).refusal; written = (writing_said b w).written }
    of_writing b (Ok n) = refl
    of_writing b (Err d) = refl

    pub move-made : (w : Result ℕ Refusal) (new : List ℕ) →
        writing_said p.board w ≡ writing_of to p.board (length old) → new ≡ buffer_after to p.board old →
        (move_said w ≡ move_of to l (length old)) × (new ≡ moved_buffer to l old)
    unfolding move_of moved_buffer writing_of buffer_after
    move-made w new f g = (
      of_writing p.board w
          ∙ ap (λ (x : Writing). record { refusal = x.refusal; written = x.written })
          (f ∙ ap (λ (b : Board). writing_of to b (length old)) board)
          ∙ rw written refl,
      g ∙ ap (λ (b : Board). buffer_after to b old) board ∙ rw written refl,
    )

-- ---- what a move refuses

-- bytes that are formed in one form are not formed in the other
formed_once : (f : Form) (l : List ℕ) → formed f l ≡ true → formed (other_form f) l ≡ false
formed_once New l e = let long = formed_long New l e in formed_not Old l (λ same. omega (arith, long, same))
formed_once Old l e = let long = formed_long Old l e in formed_not New l (λ same. omega (arith, long, same))

-- and reading refuses those that are formed in neither
formed_neither : (f : Form) (l : List ℕ) → formed f l ≡ false → formed (other_form f) l ≡ false →
    reading_refusal l ≡ image_malformed
unfolding reading_refusal form_of form_refusal
formed_neither New l n o = rw (n, o)
formed_neither Old l n o = rw (o, n)

module _ (to : Form) (l : List ℕ) (room : ℕ) where
  -- 12 is every image that is not formed in the form that is moved from
  pub move-malformed : formed (other_form to) l ≡ false → move_refusal to l room ≡ image_malformed
  unfolding move_refusal form_refusal
  move-malformed e = rw e refl

  -- of one that is, the move's refusal is the reading's, or else the writing's of the board that is read
  pub move-formed : formed (other_form to) l ≡ true →
      move_refusal to l room
      ≡ first_of (reading_refusal l) (parking_refusal to (rate_of (reading_of l).board.clock) room)
  unfolding move_refusal reading_refusal
  move-formed e =
      let form : form_of l ≡ other_form to = one_form (other_form to) l e in
      either (eqb (form_refusal (other_form to) l) 0)
      (λ h. let read = read_as (other_form to) l (eqb-true (form_refusal (other_form to) l) 0 h) in
      rw (form, h, read) refl)
      (λ h. rw (form, h) refl)

  -- 'a move checks its image as reading does, and 12 is also one already in the target form', with 16 'after 12 and 1
  -- and before 11': of all bytes
  pub move-checks :
      move_refusal to l room
      ≡ cond (formed to l) image_malformed
      (first_of (reading_refusal l) (parking_refusal to (rate_of (reading_of l).board.clock) room))
  move-checks =
      either (formed to l) (λ t. rw t (move-malformed (formed_once to l t)))
      (λ n. rw n
      (either (formed (other_form to) l) move-formed
      (λ o. move-malformed o ∙ sym (rw (formed_neither to l n o) refl))))

  -- bytes that reading refuses are refused by both moves, with the same number, or with 12 where they are formed in the
  -- target form
  pub move-refuses : (reading_refusal l ≡ 0 → ⊥) →
      move_refusal to l room ≡ cond (formed to l) image_malformed (reading_refusal l)
  move-refuses n = move-checks ∙ rw (ne_eqb (reading_refusal l) 0 n) refl

-- an accepted image is refused with 12 by the move to the form that it has
pub move_already : (l : List ℕ) (room : ℕ) → (reading_of l).refusal ≡ 0 →
    move_refusal (reading_of l).form l room ≡ image_malformed
move_already l room e =
    move-checks (reading_of l).form l room ∙ rw (accepted-formed l e) refl

-- ---- there and back

-- an accepted image whose rate the form takes is moved to it, where there is room
pub move_accepted : (to : Form) (l : List ℕ) (room : ℕ) → form_refusal (other_form to) l ≡ 0 →
    form_takes to (rate_of (board_in (other_form to) l).clock) ≡ true → image_length to ≤ room →
    move_refusal to l room ≡ 0
unfolding move_refusal
move_accepted to l room e t h = rw (e, t, le-ltb room (image_length to) h) refl

twice : (f : Form) → other_form (other_form f) ≡ f
twice Old = refl
twice New = refl

-- what is known of an accepted move
record Accepted (to : Form) (l : List ℕ) : Type 0 where
  image : form_refusal (other_form to) l ≡ 0
  takes : form_takes to (rate_of (board_in (other_form to) l).clock) ≡ true

accepted : (to : Form) (l : List ℕ) (room : ℕ) → move_refusal to l room ≡ 0 → Accepted to l
unfolding move_refusal
accepted to l room e =
    either (eqb (form_refusal (other_form to) l) 0)
    (λ h. record {
      image = eqb-true (form_refusal (other_form to) l) 0 h;
      takes =
          either (form_takes to (rate_of (board_in (other_form to) l).clock)) (λ t. t)
          (λ t. let other : ◌≡◌ {A = ℕ} 16 0 = rw (h, t) at e in absurd (omega (arith, other)));
    })
    (λ h. absurd (eqb-false (form_refusal (other_form to) l) 0 h (rw h at e)))

module _ (to : Form) (l : List ℕ) (bytes : Bytes l) (room : ℕ) (e : move_refusal to l room ≡ 0) where
  abbrev moved : Board
  moved = board_in (other_form to) l

  a : Accepted to l
  a = accepted to l room e

  moved-sound : sound moved ≡ true
  moved-sound = in-sound (other_form to) l a.image

  moved-fits : BoardFits moved
  moved-fits = in-fits (other_form to) l bytes a.image

  -- what is read of the moved image is the image's board, in the form that it was moved to
  pub moved-read :
      reading_of (moved_image to l) ≡ record { board = (reading_of l).board; form = to; refusal = 0 }
  moved-read =
      read_back to moved moved-sound a.takes moved-fits
      ∙ ap (λ (b : Board). record { board = b; form = to; refusal = 0 })
      (sym (ap (λ (r : Reading). r.board) (read_as (other_form to) l a.image)))

  -- it can be moved back, where there is room, and that gives the same bytes
  pub there_and_back : (back : ℕ) → image_length (other_form to) ≤ back →
      (move_refusal (other_form to) (moved_image to l) back ≡ 0)
      × (moved_image (other_form to) (moved_image to l) ≡ l)
  unfolding move_refusal
  there_and_back back h =
      let said : board_in to (moved_image to l) ≡ moved = board-said to moved moved-sound a.takes moved-fits in (
        rw (
          twice to,
          image-accepted to moved moved-sound a.takes moved-fits,
          said,
          form_took (other_form to) l,
          le-ltb back (image_length (other_form to)) h,
        )
            refl,
        rw (twice to) (ap (image_of (other_form to)) said ∙ sym (only-in (other_form to) l bytes a.image)),
      )

-- ---- the bytes

-- forward, 48,000,000 and the same bytes behind it
pub moved_forward : (l : List ℕ) → Bytes l → (room : ℕ) → move_refusal New l room ≡ 0 →
    moved_image New l ≡ field_bytes rate_field (48_000_000 ∷ []) ++ l
unfolding board_from
moved_forward l bytes room e =
    front_image New (board_in Old l)
    ∙ ap (λ (m : List ℕ). field_bytes rate_field (48_000_000 ∷ []) ++ m)
    (sym (only-in Old l bytes (accepted New l room e).image))

-- back, the bytes behind the first field
pub moved_back : (l : List ℕ) → Bytes l → (room : ℕ) → move_refusal Old l room ≡ 0 →
    moved_image Old l ≡ drop (field_length rate_field) l
moved_back l bytes room e =
    let first = field_bytes rate_field (rate_of (board_in New l).clock ∷ []) in
    sym
    (ap (drop 7) (only-in New l bytes (accepted Old l room e).image ∙ front_image New (board_in New l))
    ∙ drop_at first (image_of Old (board_in New l)) 7 (field-length rate_field (rate_of (board_in New l).clock ∷ [])))
