-- S-1, 'Parked boards': the image of a board. 'Each channel is one field with tag 20 (hexadecimal, as all tags); then
-- 21 timer enable to host nanoseconds, 22 latches, 23 controller. A field is tag, two-byte length, and the members in
-- document 01's order and widths, big-endian.' S-8, 'Parked boards with a rate': this is the old form, and 'The new
-- form begins with a field, tag 24, four bytes of rate.'
use Rattle.std.specs.Prelude.{ℕ, ◌+◌, Bool, true, cond, ◌&&◌, ◌||◌, List, [], ◌∷◌, ◌++◌, map, length, get_or, drop}
use Rattle.std.specs.Prelude.{leb, eqb, None, Some}
use Rattle.wide.specs.Bits.{flag_of}
use Rattle.wide.specs.Fields.{be_at}
use Rattle.format.specs.Format.{sum, header_length, members_at, members_bytes, record_of}
use Rattle.channel.specs.declared.HardwareTimer.{HardwareTimer}
use Rattle.clock.specs.declared.Clock.{Clock}
use Rattle.clock.specs.Clock.{rate_of}
use Rattle.clock.specs.Fields.{fresh_rate}
use Rattle.controller.specs.declared.IrqController.{IrqController}
use Rattle.board.specs.declared.CountLatch.{CountLatch}
use Rattle.board.specs.declared.Latches.{Latches}
use Rattle.board.specs.declared.Board.{Board}
use Rattle.board.specs.Fields.{Latch}
use Rattle.board.specs.Board.{held_of, held_value}
use Rattle.image.specs.declared.Form.{Form}
use Rattle.image.specs.declared.Form.TheVariants.{Old, New}

-- ---- the fields

-- 'a width is in bytes, a flag is one byte': a member is a number of this many bytes, or a flag
pub data Member : Type 0 where
  number : ℕ → Member
  flag : Member

abbrev pub width_of : Member → ℕ
width_of (number w) = w
width_of flag = 1

abbrev pub widths_of : List Member → List ℕ
widths_of ms = map width_of ms

pub record Field : Type 0 where
  pub tag : ℕ
  pub members : List Member

-- 'Each: control 1, counter 8, compare 8, reload 8, prescaler 4, phase 4, pending flag, armed flag.'
abbrev pub channel_field : Field
channel_field =
    record {
      tag = 0x20;
      members =
          number 1 ∷ number 8 ∷ number 8 ∷ number 8 ∷ number 4 ∷ number 4 ∷ flag ∷ flag ∷ [];
    }

-- 'timer enable 1; clock control 1, seconds 8, subsecond 4; offset sign flag (1 negative), offset seconds 8, offset
-- nanoseconds 4; alarm enable 1, alarm 8, alarm pending flag, alarm armed flag; seconds shadow 8, mask 1; poll 4; alarm
-- shadow 8, mask 1; host seconds 8, host nanoseconds 4'
abbrev pub clock_field : Field
clock_field =
    record {
      tag = 0x21;
      members =
          number 1 ∷ number 1 ∷ number 8 ∷ number 4
          ∷ flag ∷ number 8 ∷ number 4
          ∷ number 1 ∷ number 8 ∷ flag ∷ flag
          ∷ number 8 ∷ number 1 ∷ number 4 ∷ number 8 ∷ number 1 ∷ number 8 ∷ number 4 ∷ [];
    }

-- 'for each channel a latch (held flag, value 4); clock low latch and high latch, likewise'
abbrev pub latches_field : Field
latches_field =
    record {
      tag = 0x22;
      members =
          flag ∷ number 4 ∷ flag ∷ number 4 ∷ flag ∷ number 4 ∷ flag ∷ number 4
          ∷ flag ∷ number 4 ∷ flag ∷ number 4 ∷ [];
    }

-- 'controller pending 2, enable 2, levels 2'
abbrev pub controller_field : Field
controller_field = record { tag = 0x23; members = number 2 ∷ number 2 ∷ number 2 ∷ [] }

-- S-1's fields
abbrev pub layout : List Field
layout =
    channel_field ∷ channel_field ∷ channel_field ∷ channel_field ∷ clock_field ∷ latches_field ∷ controller_field ∷ []

-- S-8: 'a field, tag 24, four bytes of rate'
abbrev pub rate_field : Field
rate_field = record { tag = 0x24; members = number 4 ∷ [] }

-- the fields of each form
abbrev pub layout_of : Form → List Field
layout_of Old = layout
layout_of New = rate_field ∷ layout

-- the number of bytes of a field's members
abbrev pub members_length : Field → ℕ
members_length f = sum (widths_of f.members)

-- the number of bytes of the whole field
abbrev pub field_length : Field → ℕ
field_length f = header_length + members_length f

abbrev pub fields_length : List Field → ℕ
fields_length fs = sum (map field_length fs)

abbrev pub image_length : Form → ℕ
image_length f = fields_length (layout_of f)

-- ---- the members of a board, as numbers, a list for each field

abbrev pub timer_members : HardwareTimer → List ℕ
timer_members h =
    h.control ∷ h.counter ∷ h.compare ∷ h.reload ∷ h.prescaler ∷ h.phase ∷ flag_of h.pending
    ∷ flag_of h.armed ∷ []

abbrev pub clock_members : ℕ → Clock → List ℕ
clock_members enable k =
    enable ∷ k.control ∷ k.seconds ∷ k.subsecond
    ∷ flag_of k.offset.negative ∷ k.offset.seconds ∷ k.offset.nanoseconds
    ∷ k.alarm.enable ∷ k.alarm.seconds ∷ flag_of k.alarm.pending ∷ flag_of k.alarm.armed
    ∷ k.shadow.value ∷ k.shadow.mask ∷ k.poll ∷ k.alarm_shadow.value ∷ k.alarm_shadow.mask
    ∷ k.host.seconds ∷ k.host.nanoseconds ∷ []

abbrev pub latch_members : Latch → List ℕ
latch_members l = flag_of (held_of l) ∷ held_value l ∷ []

abbrev pub count_members : List CountLatch → List ℕ
count_members [] = []
count_members (c ∷ cs) = latch_members c.high ++ count_members cs

abbrev pub latches_members : Latches → List ℕ
latches_members ls = count_members ls.counts ++ (latch_members ls.low ++ latch_members ls.high)

abbrev pub controller_members : IrqController → List ℕ
controller_members q = q.pending ∷ q.enable ∷ q.levels ∷ []

-- S-1's fields
abbrev pub members_of : Board → List (List ℕ)
members_of b =
    map timer_members b.timers
    ++ (clock_members b.timer_enable b.clock ∷ latches_members b.latches
    ∷ controller_members b.controller ∷ [])

-- those of each form
abbrev pub form_members : Form → Board → List (List ℕ)
form_members Old b = members_of b
form_members New b = (rate_of b.clock ∷ []) ∷ members_of b

-- ---- the image

-- 'A field is tag, two-byte length, and the members'
unfoldable pub field_bytes : Field → List ℕ → List ℕ
field_bytes f ms = record_of f.tag (members_bytes (widths_of f.members) ms)

-- fields one after another, with these members
unfoldable pub fields_bytes : List Field → List (List ℕ) → List ℕ
fields_bytes [] mss = []
fields_bytes (f ∷ fs) mss = field_bytes f (get_or mss 0 []) ++ fields_bytes fs (drop 1 mss)

-- the image of a board in each form
unfoldable pub image_of : Form → Board → List ℕ
image_of f b = fields_bytes (layout_of f) (form_members f b)

-- ---- what some bytes say

-- no 'flag above 1'
unfoldable pub flags_hold : List Member → List ℕ → Bool
flags_hold [] ms = true
flags_hold (number w ∷ ks) ms = flags_hold ks (drop 1 ms)
flags_hold (flag ∷ ks) ms = leb (get_or ms 0 0) 1 && flags_hold ks (drop 1 ms)

-- the field is at an index: it is not 'missing, cut, out of order, of wrong length', and has no flag above 1
unfoldable pub field_at : List ℕ → ℕ → Field → Bool
field_at l at f =
    leb (at + field_length f) (length l)
    && (eqb (be_at l at 1) f.tag
    && (eqb (be_at l (at + 1) 2) (members_length f)
    && flags_hold f.members (members_at l (at + header_length) (widths_of f.members))))

-- the fields are there from an index on, one after another, and there are no 'bytes over'
unfoldable pub fields_at : List ℕ → ℕ → List Field → Bool
fields_at l at [] = eqb (length l) at
fields_at l at (f ∷ fs) = field_at l at f && fields_at l (at + field_length f) fs

-- the bytes are formed as an image of form f
abbrev pub formed : Form → List ℕ → Bool
formed f l = fields_at l 0 (layout_of f)

-- the members of fields from an index on, a list for each field
unfoldable pub members_from : List ℕ → ℕ → List Field → List (List ℕ)
members_from l at [] = []
members_from l at (f ∷ fs) =
    members_at l (at + header_length) (widths_of f.members) ∷ members_from l (at + field_length f) fs

-- ---- the board of some members

abbrev pub flag_is : ℕ → Bool
flag_is n = eqb n 1

abbrev pub timer_from : List ℕ → HardwareTimer
timer_from ms =
    record {
      control = get_or ms 0 0;
      counter = get_or ms 1 0;
      compare = get_or ms 2 0;
      reload = get_or ms 3 0;
      prescaler = get_or ms 4 0;
      phase = get_or ms 5 0;
      pending = flag_is (get_or ms 6 0);
      armed = flag_is (get_or ms 7 0);
    }

-- the clock at a rate, which is not a member of the clock's field
abbrev pub clock_from : ℕ → List ℕ → Clock
clock_from rate ms =
    record {
      rate = rate;
      control = get_or ms 1 0;
      seconds = get_or ms 2 0;
      subsecond = get_or ms 3 0;
      offset = record { negative = flag_is (get_or ms 4 0); seconds = get_or ms 5 0; nanoseconds = get_or ms 6 0 };
      alarm = record {
        enable = get_or ms 7 0;
        seconds = get_or ms 8 0;
        pending = flag_is (get_or ms 9 0);
        armed = flag_is (get_or ms 10 0);
      };
      shadow = record { value = get_or ms 11 0; mask = get_or ms 12 0 };
      poll = get_or ms 13 0;
      alarm_shadow = record { value = get_or ms 14 0; mask = get_or ms 15 0 };
      host = record { seconds = get_or ms 16 0; nanoseconds = get_or ms 17 0 };
    }

-- the latch of a held flag and a value
abbrev pub latch_from : ℕ → ℕ → Latch
latch_from held value = cond (flag_is held) (Some value) None

abbrev pub latches_from : List ℕ → Latches
latches_from ms =
    record {
      counts =
          record { high = latch_from (get_or ms 0 0) (get_or ms 1 0) }
          ∷ record { high = latch_from (get_or ms 2 0) (get_or ms 3 0) }
          ∷ record { high = latch_from (get_or ms 4 0) (get_or ms 5 0) }
          ∷ record { high = latch_from (get_or ms 6 0) (get_or ms 7 0) } ∷ [];
      low = latch_from (get_or ms 8 0) (get_or ms 9 0);
      high = latch_from (get_or ms 10 0) (get_or ms 11 0);
    }

-- 'an empty latch holds 0', for each held flag and value: members can break this, the code's latch cannot
abbrev pub empties_hold0 : List ℕ → Bool
empties_hold0 [] = true
empties_hold0 (held ∷ []) = true
empties_hold0 (held ∷ value ∷ ms) = (flag_is held || eqb value 0) && empties_hold0 ms

abbrev pub controller_from : List ℕ → IrqController
controller_from ms = record { pending = get_or ms 0 0; enable = get_or ms 1 0; levels = get_or ms 2 0 }

-- the board of the members of S-1's fields, at a rate
unfoldable pub board_from : ℕ → List (List ℕ) → Board
board_from rate mss =
    record {
      timers =
          timer_from (get_or mss 0 []) ∷ timer_from (get_or mss 1 [])
          ∷ timer_from (get_or mss 2 []) ∷ timer_from (get_or mss 3 []) ∷ [];
      timer_enable = get_or (get_or mss 4 []) 0 0;
      clock = clock_from rate (get_or mss 4 []);
      latches = latches_from (get_or mss 5 []);
      controller = controller_from (get_or mss 6 []);
    }

-- the members of S-1's fields among those of each form
abbrev pub board_members : Form → List (List ℕ) → List (List ℕ)
board_members Old mss = mss
board_members New mss = drop 1 mss

-- the rate in the members of each form: 'Images from S-1 have no rate', and move to the new form 'with 48,000,000', the
-- rate of a fresh board without a given rate
abbrev pub rate_from : Form → List (List ℕ) → ℕ
rate_from Old mss = fresh_rate
rate_from New mss = get_or (get_or mss 0 []) 0 0
