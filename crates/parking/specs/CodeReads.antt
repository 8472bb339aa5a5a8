-- Not sentences of S-1 or S-8 but what the code computes from members by their widths, from the latches' members, and
-- from S-1's fields alone.
use Rattle.std.specs.Prelude.{ℕ, ◌+◌, Bool, cond, ◌&&◌, ◌||◌, List, [], get_or, leb, eqb}
use Rattle.board.specs.Fields.{fresh_board}
use Rattle.board.specs.Board.{sound}
use Rattle.board.specs.Calls.{not_sound}
use Rattle.image.specs.declared.Form.{Form}
use Rattle.image.specs.Image.{flag_is, empties_hold0, board_from}
use Rattle.parking.specs.Parking.{Reading, default_form, image_malformed}

-- no held flag among the latches' members is above 1
abbrev pub held_flags : List ℕ → Bool
held_flags ms =
    ((((leb (get_or ms 0 0) 1 && leb (get_or ms 2 0) 1) && leb (get_or ms 4 0) 1) && leb (get_or ms 6 0) 1)
    && leb (get_or ms 8 0) 1) && leb (get_or ms 10 0) 1

-- 'an empty latch holds 0', of the latch whose held flag has this index
abbrev pub empty_holds0 : ℕ → List ℕ → Bool
empty_holds0 k ms = flag_is (get_or ms k 0) || eqb (get_or ms (k + 1) 0) 0

abbrev pub six_hold0 : List ℕ → Bool
six_hold0 ms =
    ((((empty_holds0 0 ms && empty_holds0 2 ms) && empty_holds0 4 ms) && empty_holds0 6 ms) && empty_holds0 8 ms)
    && empty_holds0 10 ms

-- the refusal of the members of S-1's fields, at a rate; `form` says whether their bytes have the form of an image
abbrev pub members_refusal : ℕ → Bool → List (List ℕ) → ℕ
members_refusal rate form mss =
    cond form (cond (empties_hold0 (get_or mss 5 []) && sound (board_from rate mss)) 0 not_sound) image_malformed

-- what reading them gives, from an image of form f
unfoldable pub members_read : Form → ℕ → Bool → List (List ℕ) → Reading
members_read f rate form mss =
    record {
      board = cond (eqb (members_refusal rate form mss) 0) (board_from rate mss) fresh_board;
      form = cond (eqb (members_refusal rate form mss) 0) f default_form;
      refusal = members_refusal rate form mss;
    }
