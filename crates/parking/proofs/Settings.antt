-- Rows that are computed from the rules: how long an image is in each form, two images in both, byte for byte, and the
-- refusals of writings, readings and moves. Assumes nothing.
use Prim.Native.Nat.{ℕ, ◌+◌, ◌-◌, ◌*◌, ◌^◌}
use mathlib.Core.Path.{◌≡◌, refl}
use mathlib.Core.Bool.{true, false, cond}
use mathlib.Core.List.{List, [], ◌∷◌, ◌++◌, map}
use lib.ListN.{take, drop, set}
use lib.Dec.{eqb}
use Rattle.wide.specs.Fields.{be_at, be}
use Rattle.format.specs.Format.{members_at, members_bytes, record_of}
use Rattle.channel.specs.Channel.{line_of, sound_timer}
use Rattle.clock.specs.Clock.{rate_of}
use Rattle.clock.specs.Sound.{
  sound_rate,
  sound_offset,
  sound_alarm,
  sound_fields,
  alarm_ahead,
  sound_clock,
}
use Rattle.board.specs.Loops.{fold_from}
use Rattle.board.specs.Board.{line, sound_parts, sound}
use Rattle.std.proofs.Common.{None, Some}
use Rattle.board.specs.declared.Board.{Board}
use Rattle.board.specs.Fields.{fresh_board_at, fresh_board}
use Rattle.image.specs.declared.Form.{Form}
use Rattle.image.specs.declared.Form.TheVariants.{Old, New}
use Rattle.image.specs.Image.{
  image_length,
  field_bytes,
  fields_bytes,
  image_of,
  flags_hold,
  field_at,
  fields_at,
  members_from,
  board_from,
}
use Rattle.parking.specs.Parking.{writing_refusal, board_in, form_refusal, form_of, reading_refusal}
use Rattle.parking.specs.Moves.{move_refusal, moved_image}

pub length_computed : (image_length Old ≡ 269) × (image_length New ≡ 276)
length_computed = (refl, refl)

-- everything is zero except clock control
abbrev fresh_image : List ℕ
fresh_image =
    -- tag 20, 35 bytes
    0x20 ∷ 0 ∷ 35
    ∷ 0 ∷ 0 ∷ 0 ∷ 0 ∷ 0 ∷ 0 ∷ 0 ∷ 0 ∷ 0 ∷ 0 ∷ 0 ∷ 0 ∷ 0 ∷ 0 ∷ 0 ∷ 0 ∷ 0 ∷ 0
    ∷ 0 ∷ 0 ∷ 0 ∷ 0 ∷ 0 ∷ 0 ∷ 0 ∷ 0 ∷ 0 ∷ 0 ∷ 0 ∷ 0 ∷ 0 ∷ 0 ∷ 0 ∷ 0 ∷ 0
    -- tag 20, 35 bytes
    ∷ 0x20 ∷ 0 ∷ 35
    ∷ 0 ∷ 0 ∷ 0 ∷ 0 ∷ 0 ∷ 0 ∷ 0 ∷ 0 ∷ 0 ∷ 0 ∷ 0 ∷ 0 ∷ 0 ∷ 0 ∷ 0 ∷ 0 ∷ 0 ∷ 0
    ∷ 0 ∷ 0 ∷ 0 ∷ 0 ∷ 0 ∷ 0 ∷ 0 ∷ 0 ∷ 0 ∷ 0 ∷ 0 ∷ 0 ∷ 0 ∷ 0 ∷ 0 ∷ 0 ∷ 0
    -- tag 20, 35 bytes
    ∷ 0x20 ∷ 0 ∷ 35
    ∷ 0 ∷ 0 ∷ 0 ∷ 0 ∷ 0 ∷ 0 ∷ 0 ∷ 0 ∷ 0 ∷ 0 ∷ 0 ∷ 0 ∷ 0 ∷ 0 ∷ 0 ∷ 0 ∷ 0 ∷ 0
    ∷ 0 ∷ 0 ∷ 0 ∷ 0 ∷ 0 ∷ 0 ∷ 0 ∷ 0 ∷ 0 ∷ 0 ∷ 0 ∷ 0 ∷ 0 ∷ 0 ∷ 0 ∷ 0 ∷ 0
    -- tag 20, 35 bytes
    ∷ 0x20 ∷ 0 ∷ 35
    ∷ 0 ∷ 0 ∷ 0 ∷ 0 ∷ 0 ∷ 0 ∷ 0 ∷ 0 ∷ 0 ∷ 0 ∷ 0 ∷ 0 ∷ 0 ∷ 0 ∷ 0 ∷ 0 ∷ 0 ∷ 0
    ∷ 0 ∷ 0 ∷ 0 ∷ 0 ∷ 0 ∷ 0 ∷ 0 ∷ 0 ∷ 0 ∷ 0 ∷ 0 ∷ 0 ∷ 0 ∷ 0 ∷ 0 ∷ 0 ∷ 0
    -- tag 21, 72 bytes
    ∷ 0x21 ∷ 0 ∷ 72
    ∷ 0 ∷ 1 ∷ 0 ∷ 0 ∷ 0 ∷ 0 ∷ 0 ∷ 0 ∷ 0 ∷ 0 ∷ 0 ∷ 0 ∷ 0 ∷ 0 ∷ 0 ∷ 0 ∷ 0 ∷ 0
    ∷ 0 ∷ 0 ∷ 0 ∷ 0 ∷ 0 ∷ 0 ∷ 0 ∷ 0 ∷ 0 ∷ 0 ∷ 0 ∷ 0 ∷ 0 ∷ 0 ∷ 0 ∷ 0 ∷ 0 ∷ 0
    ∷ 0 ∷ 0 ∷ 0 ∷ 0 ∷ 0 ∷ 0 ∷ 0 ∷ 0 ∷ 0 ∷ 0 ∷ 0 ∷ 0 ∷ 0 ∷ 0 ∷ 0 ∷ 0 ∷ 0 ∷ 0
    ∷ 0 ∷ 0 ∷ 0 ∷ 0 ∷ 0 ∷ 0 ∷ 0 ∷ 0 ∷ 0 ∷ 0 ∷ 0 ∷ 0 ∷ 0 ∷ 0 ∷ 0 ∷ 0 ∷ 0 ∷ 0
    -- tag 22, 30 bytes
    ∷ 0x22 ∷ 0 ∷ 30
    ∷ 0 ∷ 0 ∷ 0 ∷ 0 ∷ 0 ∷ 0 ∷ 0 ∷ 0 ∷ 0 ∷ 0 ∷ 0 ∷ 0 ∷ 0 ∷ 0 ∷ 0 ∷ 0 ∷ 0 ∷ 0
    ∷ 0 ∷ 0 ∷ 0 ∷ 0 ∷ 0 ∷ 0 ∷ 0 ∷ 0 ∷ 0 ∷ 0 ∷ 0 ∷ 0
    -- tag 23, 6 bytes
    ∷ 0x23 ∷ 0 ∷ 6
    ∷ 0 ∷ 0 ∷ 0 ∷ 0 ∷ 0 ∷ 0
    ∷ []

-- in the new form behind tag 24, 4 bytes, and 48,000,000
pub fresh-image : (image_of Old fresh_board ≡ fresh_image)
    × (image_of New fresh_board ≡ 0x24 ∷ 0 ∷ 4 ∷ 0x02 ∷ 0xDC ∷ 0x6C ∷ 0x00 ∷ fresh_image)
unfolding image_of fields_bytes field_bytes record_of members_bytes be
fresh-image = (refl, refl)

-- a board with a different number in each member, flags and empty latches of both sorts
abbrev marked_board : Board
marked_board =
    record {
      timers =
          record {
            control = 1;
            counter = 2 * 2 ^ 56 + 102;
            compare = 3;
            reload = 4;
            prescaler = 5;
            phase = 6;
            pending = true;
            armed = false;
          }
          ∷ record {
            control = 7;
            counter = 8 * 2 ^ 56 + 108;
            compare = 9;
            reload = 10;
            prescaler = 11;
            phase = 12;
            pending = false;
            armed = true;
          }
          ∷ record {
            control = 13;
            counter = 14 * 2 ^ 56 + 114;
            compare = 15;
            reload = 16;
            prescaler = 17;
            phase = 18;
            pending = true;
            armed = true;
          }
          ∷ record {
            control = 19;
            counter = 20 * 2 ^ 56 + 120;
            compare = 21;
            reload = 22;
            prescaler = 23;
            phase = 24;
            pending = false;
            armed = false;
          }
          ∷ [];
      timer_enable = 25;
      clock = record {
        rate = 12_000_000;
        control = 26;
        seconds = 27;
        subsecond = 28;
        offset = record { negative = true; seconds = 29; nanoseconds = 30 };
        alarm = record { enable = 31; seconds = 32; pending = false; armed = true };
        shadow = record { value = 33; mask = 34 };
        poll = 35;
        alarm_shadow = record { value = 36; mask = 37 };
        host = record { seconds = 38; nanoseconds = 39 };
      };
      latches = record {
        counts =
            record { high = Some 40 } ∷ record { high = None }
            ∷ record { high = Some 41 } ∷ record { high = None } ∷ [];
        low = Some 42;
        high = Some 43;
      };
      controller = record { pending = 0x0102; enable = 0x0304; levels = 0x0506 };
    }

abbrev marked_image : List ℕ
marked_image =
    -- tag 20
    0x20 ∷ 0 ∷ 35
    ∷ 1 ∷ 2 ∷ 0 ∷ 0 ∷ 0 ∷ 0 ∷ 0 ∷ 0 ∷ 102 ∷ 0 ∷ 0 ∷ 0 ∷ 0 ∷ 0 ∷ 0 ∷ 0 ∷ 3 ∷ 0
    ∷ 0 ∷ 0 ∷ 0 ∷ 0 ∷ 0 ∷ 0 ∷ 4 ∷ 0 ∷ 0 ∷ 0 ∷ 5 ∷ 0 ∷ 0 ∷ 0 ∷ 6 ∷ 1 ∷ 0
    -- tag 20
    ∷ 0x20 ∷ 0 ∷ 35
    ∷ 7 ∷ 8 ∷ 0 ∷ 0 ∷ 0 ∷ 0 ∷ 0 ∷ 0 ∷ 108 ∷ 0 ∷ 0 ∷ 0 ∷ 0 ∷ 0 ∷ 0 ∷ 0 ∷ 9 ∷ 0
    ∷ 0 ∷ 0 ∷ 0 ∷ 0 ∷ 0 ∷ 0 ∷ 10 ∷ 0 ∷ 0 ∷ 0 ∷ 11 ∷ 0 ∷ 0 ∷ 0 ∷ 12 ∷ 0 ∷ 1
    -- tag 20
    ∷ 0x20 ∷ 0 ∷ 35
    ∷ 13 ∷ 14 ∷ 0 ∷ 0 ∷ 0 ∷ 0 ∷ 0 ∷ 0 ∷ 114 ∷ 0 ∷ 0 ∷ 0 ∷ 0 ∷ 0 ∷ 0 ∷ 0 ∷ 15 ∷ 0
    ∷ 0 ∷ 0 ∷ 0 ∷ 0 ∷ 0 ∷ 0 ∷ 16 ∷ 0 ∷ 0 ∷ 0 ∷ 17 ∷ 0 ∷ 0 ∷ 0 ∷ 18 ∷ 1 ∷ 1
    -- tag 20
    ∷ 0x20 ∷ 0 ∷ 35
    ∷ 19 ∷ 20 ∷ 0 ∷ 0 ∷ 0 ∷ 0 ∷ 0 ∷ 0 ∷ 120 ∷ 0 ∷ 0 ∷ 0 ∷ 0 ∷ 0 ∷ 0 ∷ 0 ∷ 21 ∷ 0
    ∷ 0 ∷ 0 ∷ 0 ∷ 0 ∷ 0 ∷ 0 ∷ 22 ∷ 0 ∷ 0 ∷ 0 ∷ 23 ∷ 0 ∷ 0 ∷ 0 ∷ 24 ∷ 0 ∷ 0
    -- tag 21
    ∷ 0x21 ∷ 0 ∷ 72
    ∷ 25 ∷ 26 ∷ 0 ∷ 0 ∷ 0 ∷ 0 ∷ 0 ∷ 0 ∷ 0 ∷ 27 ∷ 0 ∷ 0 ∷ 0 ∷ 28 ∷ 1 ∷ 0 ∷ 0 ∷ 0
    ∷ 0 ∷ 0 ∷ 0 ∷ 0 ∷ 29 ∷ 0 ∷ 0 ∷ 0 ∷ 30 ∷ 31 ∷ 0 ∷ 0 ∷ 0 ∷ 0 ∷ 0 ∷ 0 ∷ 0 ∷ 32
    ∷ 0 ∷ 1 ∷ 0 ∷ 0 ∷ 0 ∷ 0 ∷ 0 ∷ 0 ∷ 0 ∷ 33 ∷ 34 ∷ 0 ∷ 0 ∷ 0 ∷ 35 ∷ 0 ∷ 0 ∷ 0
    ∷ 0 ∷ 0 ∷ 0 ∷ 0 ∷ 36 ∷ 37 ∷ 0 ∷ 0 ∷ 0 ∷ 0 ∷ 0 ∷ 0 ∷ 0 ∷ 38 ∷ 0 ∷ 0 ∷ 0 ∷ 39
    -- tag 22
    ∷ 0x22 ∷ 0 ∷ 30
    ∷ 1 ∷ 0 ∷ 0 ∷ 0 ∷ 40 ∷ 0 ∷ 0 ∷ 0 ∷ 0 ∷ 0 ∷ 1 ∷ 0 ∷ 0 ∷ 0 ∷ 41 ∷ 0 ∷ 0 ∷ 0
    ∷ 0 ∷ 0 ∷ 1 ∷ 0 ∷ 0 ∷ 0 ∷ 42 ∷ 1 ∷ 0 ∷ 0 ∷ 0 ∷ 43
    -- tag 23
    ∷ 0x23 ∷ 0 ∷ 6
    ∷ 1 ∷ 2 ∷ 3 ∷ 4 ∷ 5 ∷ 6
    ∷ []

-- in the new form behind its rate
pub members_in_order : (image_of Old marked_board ≡ marked_image)
    × (image_of New marked_board ≡ 0x24 ∷ 0 ∷ 4 ∷ 0x00 ∷ 0xB7 ∷ 0x1B ∷ 0x00 ∷ marked_image)
unfolding image_of fields_bytes field_bytes record_of members_bytes be
members_in_order = (refl, refl)

-- ---- refusals

-- a writing in a form of a fresh board of each rate, with room for an image and one byte short
abbrev written : Form → List ℕ → List ℕ
written f rates =
    map (λ rate. writing_refusal f (fresh_board_at rate) (image_length f)) rates
    ++ map (λ rate. writing_refusal f (fresh_board_at rate) (image_length f - 1)) rates

-- the three rates, and three that no sound board has
abbrev rates : List ℕ
rates = 1_000_000 ∷ 12_000_000 ∷ 48_000_000 ∷ 0 ∷ 24_000_000 ∷ 48_000_001 ∷ []

pub writings_refused :
    -- 1, then 11
    (written New rates ≡ 0 ∷ 0 ∷ 0 ∷ 1 ∷ 1 ∷ 1 ∷ 11 ∷ 11 ∷ 11 ∷ 1 ∷ 1 ∷ 1 ∷ [])
    -- 1, then 16, then 11
    × (written Old rates ≡ 16 ∷ 16 ∷ 0 ∷ 1 ∷ 1 ∷ 1 ∷ 16 ∷ 16 ∷ 11 ∷ 1 ∷ 1 ∷ 1 ∷ [])
unfolding
    sound sound_parts line fold_from line_of sound_timer sound_rate sound_offset sound_alarm sound_fields alarm_ahead
    sound_clock
writings_refused = (refl, refl)

-- the image of a fresh board of a rate
abbrev fresh_in : Form → ℕ → List ℕ
fresh_in f rate = image_of f (fresh_board_at rate)

-- the rate that is read, 0 where the reading is refused, and the refusal
abbrev read : List ℕ → List ℕ
read l =
    cond (eqb (reading_refusal l) 0) (rate_of (board_in (form_of l) l).clock) 0 ∷ reading_refusal l ∷ []

pub readings :
    (form_of (fresh_in New 12_000_000) ≡ New)
    × (form_of (fresh_in Old 12_000_000) ≡ Old)
    × (read (fresh_in New 1_000_000) ≡ 1_000_000 ∷ 0 ∷ [])
    × (read (fresh_in New 12_000_000) ≡ 12_000_000 ∷ 0 ∷ [])
    × (read (fresh_in New 48_000_000) ≡ 48_000_000 ∷ 0 ∷ [])
    -- an image of the old form has no rate
    × (read (fresh_in Old 12_000_000) ≡ 48_000_000 ∷ 0 ∷ [])
    -- 'a record carrying a rate outside the three is 1'
    × (read (fresh_in New 24_000_000) ≡ 0 ∷ 1 ∷ [])
    × (read (fresh_in New 0) ≡ 0 ∷ 1 ∷ [])
    -- the first field missing, cut, of another tag or length, doubled, and bytes over
    × (read (drop 1 (fresh_in New 48_000_000)) ≡ 0 ∷ 12 ∷ [])
    × (read (take 275 (fresh_in New 48_000_000)) ≡ 0 ∷ 12 ∷ [])
    × (read (set (fresh_in New 48_000_000) 0 0x25) ≡ 0 ∷ 12 ∷ [])
    × (read (set (fresh_in New 48_000_000) 2 5) ≡ 0 ∷ 12 ∷ [])
    × (read (take 7 (fresh_in New 48_000_000) ++ fresh_in New 48_000_000) ≡ 0 ∷ 12 ∷ [])
    × (read (fresh_in Old 48_000_000 ++ (0 ∷ [])) ≡ 0 ∷ 12 ∷ [])
unfolding
    sound sound_parts line fold_from line_of sound_timer sound_rate sound_offset sound_alarm sound_fields alarm_ahead
    sound_clock image_of fields_bytes field_bytes record_of members_bytes be be_at members_at flags_hold field_at
    fields_at
    members_from board_from form_refusal form_of reading_refusal
readings = (refl, refl, refl, refl, refl, refl, refl, refl, refl, refl, refl, refl, refl, refl)

pub moves :
    -- forward: with room, one byte short, and an image that is in the new form already
    (move_refusal New (fresh_in Old 48_000_000) 276 ≡ 0)
    × (move_refusal New (fresh_in Old 48_000_000) 275 ≡ 11)
    × (move_refusal New (fresh_in New 48_000_000) 276 ≡ 12)
    × (moved_image New (fresh_in Old 48_000_000) ≡ fresh_in New 48_000_000)
    -- back: 12, then 1, then 16, then 11
    × (move_refusal Old (fresh_in New 48_000_000) 269 ≡ 0)
    × (move_refusal Old (fresh_in New 48_000_000) 268 ≡ 11)
    × (move_refusal Old (fresh_in New 12_000_000) 268 ≡ 16)
    × (move_refusal Old (fresh_in New 24_000_000) 268 ≡ 1)
    × (move_refusal Old (set (fresh_in New 12_000_000) 2 5) 268 ≡ 12)
    × (move_refusal Old (fresh_in Old 48_000_000) 268 ≡ 12)
    × (moved_image Old (fresh_in New 48_000_000) ≡ fresh_in Old 48_000_000)
unfolding
    sound sound_parts line fold_from line_of sound_timer sound_rate sound_offset sound_alarm sound_fields alarm_ahead
    sound_clock image_of fields_bytes field_bytes record_of members_bytes be be_at members_at flags_hold field_at
    fields_at
    members_from board_from form_refusal move_refusal
moves = (refl, refl, refl, refl, refl, refl, refl, refl, refl, refl, refl)
