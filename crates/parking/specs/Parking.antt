-- S-1, 'Parked boards', and S-8, 'Parked boards with a rate': writing a board to a lent buffer, and reading it back.
use Rattle.std.specs.Prelude.{ℕ, Bool, true, cond, ◌&&◌, List, [], ◌++◌, length, get_or, drop, ltb, eqb}
use Rattle.format.specs.Format.{answer_too_long}
use Rattle.clock.specs.Clock.{rate_of}
use Rattle.clock.specs.Fields.{fresh_rate}
use Rattle.board.specs.declared.Board.{Board}
use Rattle.board.specs.Fields.{fresh_board}
use Rattle.board.specs.Board.{sound}
use Rattle.board.specs.Calls.{not_sound, refusal_of}
use Rattle.board.specs.declared.refusal.Refusal.TheVariants.{ImageMalformed, RateNeedsNewForm}
use Rattle.board.specs.Refusals.{refusal_number}
use Rattle.image.specs.declared.Form.{Form}
use Rattle.image.specs.declared.Form.TheVariants.{Old, New}
use Rattle.image.specs.Image.{
  layout_of,
  image_length,
  image_of,
  formed,
  members_from,
  empties_hold0,
  board_from,
  board_members,
  rate_from,
}

-- S-8: 'only the new one is written unless the old is chosen'
abbrev pub default_form : Form
default_form = New

-- ---- writing

-- 'a short buffer is 11'
abbrev pub buffer_short : ℕ
buffer_short = answer_too_long

-- '16, another rate moved back or parked in the old form'
abbrev pub rate_needs_new_form : ℕ
rate_needs_new_form = refusal_number RateNeedsNewForm

-- 'Boards of all three rates can be parked in the new form', and in the old those at 48,000,000, the rate of a fresh
-- board
abbrev pub form_takes : Form → ℕ → Bool
form_takes Old rate = eqb rate fresh_rate
form_takes New rate = true

-- 16 'before 11': for a board at a rate and a buffer of `room` bytes
abbrev pub parking_refusal : Form → ℕ → ℕ → ℕ
parking_refusal f rate room =
    cond (form_takes f rate) (cond (ltb room (image_length f)) buffer_short 0) rate_needs_new_form

-- 1 comes first
abbrev pub writing_refusal : Form → Board → ℕ → ℕ
writing_refusal f b room = refusal_of b (parking_refusal f (rate_of b.clock) room)

-- what a writing answers: the board given, the refusal, 0 for none, and the bytes written
pub record Writing : Type 0 where
  pub board : Board
  pub refusal : ℕ
  pub written : ℕ

unfoldable pub writing_of : Form → Board → ℕ → Writing
writing_of f b room =
    record {
      board = b;
      refusal = writing_refusal f b room;
      written = cond (eqb (writing_refusal f b room) 0) (image_length f) 0;
    }

-- 'a refused writing leaves the buffer, and an accepted writing touches only the image's own bytes'
unfoldable pub buffer_after : Form → Board → List ℕ → List ℕ
buffer_after f b old =
    cond (eqb (writing_refusal f b (length old)) 0) (image_of f b ++ drop (image_length f) old) old

-- ---- reading

-- '12, a field missing, cut, out of order, of wrong length, a flag above 1, or bytes over'
abbrev pub image_malformed : ℕ
image_malformed = refusal_number ImageMalformed

-- the members that some bytes have in a form
abbrev pub said : Form → List ℕ → List (List ℕ)
said f l = members_from l 0 (layout_of f)

-- the board of those members
abbrev pub board_in : Form → List ℕ → Board
board_in f l = board_from (rate_from f (said f l)) (board_members f (said f l))

-- 'an empty latch holds 0' is tested in the bytes
abbrev pub empties_in : Form → List ℕ → Bool
empties_in f l = empties_hold0 (get_or (board_members f (said f l)) 5 [])

-- the bytes are those of a sound board
abbrev pub sound_in : Form → List ℕ → Bool
sound_in f l = empties_in f l && sound (board_in f l)

-- the refusal of some bytes as an image of a form: 12 is 'found before 1 on reading'
unfoldable pub form_refusal : Form → List ℕ → ℕ
form_refusal f l = cond (formed f l) (cond (sound_in f l) 0 not_sound) image_malformed

-- what a reading answers: the board, the form of its image, and the refusal, 0 for none
pub record Reading : Type 0 where
  pub board : Board
  pub form : Form
  pub refusal : ℕ

-- 'A refused reading hands back a fresh board', and the form that it would be written in
unfoldable pub reading_in : Form → List ℕ → Reading
reading_in f l =
    record {
      board = cond (eqb (form_refusal f l) 0) (board_in f l) fresh_board;
      form = cond (eqb (form_refusal f l) 0) f default_form;
      refusal = form_refusal f l;
    }

-- S-8: 'Both forms are read': as the new form where the bytes have it, else as the old
unfoldable pub form_of : List ℕ → Form
form_of l = cond (formed New l) New Old

unfoldable pub reading_refusal : List ℕ → ℕ
reading_refusal l = form_refusal (form_of l) l

unfoldable pub reading_of : List ℕ → Reading
reading_of l = reading_in (form_of l) l
