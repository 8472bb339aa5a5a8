-- S-8, 'Parked boards with a rate': an image moved from one form to the other, in a lent buffer.
use Rattle.std.specs.Prelude.{ℕ, cond, List, ◌++◌, length, drop, eqb}
use Rattle.clock.specs.Clock.{rate_of}
use Rattle.image.specs.declared.Form.{Form}
use Rattle.image.specs.declared.Form.TheVariants.{Old, New}
use Rattle.image.specs.Image.{image_length, image_of}
use Rattle.parking.specs.Parking.{parking_refusal, board_in, form_refusal}

-- the form that an image is moved from, by the form that it is moved to
abbrev pub other_form : Form → Form
other_form Old = New
other_form New = Old

-- 'a move checks its image as reading does, and 12 is also one already in the target form'; '16, another rate moved
-- back .., after 12 and 1 and before 11'
unfoldable pub move_refusal : Form → List ℕ → ℕ → ℕ
move_refusal to l room =
    cond (eqb (form_refusal (other_form to) l) 0)
    (parking_refusal to (rate_of (board_in (other_form to) l).clock) room)
    (form_refusal (other_form to) l)

-- 'Move an old image to the new form with 48,000,000, and a new one back': the image of its board in that form
abbrev pub moved_image : Form → List ℕ → List ℕ
moved_image to l = image_of to (board_in (other_form to) l)

-- what a move answers: the refusal, 0 for none, and the bytes written
pub record Moved : Type 0 where
  pub refusal : ℕ
  pub written : ℕ

unfoldable pub move_of : Form → List ℕ → ℕ → Moved
move_of to l room =
    record {
      refusal = move_refusal to l room;
      written = cond (eqb (move_refusal to l room) 0) (image_length to) 0;
    }

-- a refused move leaves the buffer, and an accepted one touches only the image's own bytes
unfoldable pub moved_buffer : Form → List ℕ → List ℕ → List ℕ
moved_buffer to l old =
    cond (eqb (move_refusal to l (length old)) 0) (moved_image to l ++ drop (image_length to) old) old
