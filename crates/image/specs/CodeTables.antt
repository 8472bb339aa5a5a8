-- Not sentences of S-1 or S-8 but what the code uses: its tables of widths, the channels' fields together, where the
-- others begin, and the bytes ahead of S-1's fields.
use Rattle.std.specs.Prelude.{ℕ, suc, ◌+◌, ◌^◌, ◌<◌, List, [], ◌∷◌, map, Bool, true, ◌&&◌, get_or, leb, eqb}
use Rattle.wide.specs.Fields.{be_at}
use Rattle.channel.specs.declared.HardwareTimer.{HardwareTimer}
use Rattle.format.specs.Format.{header_length, members_at}
use Rattle.image.specs.declared.Form.{Form}
use Rattle.image.specs.declared.Form.TheVariants.{Old, New}
use Rattle.image.specs.Image.{
  Field,
  widths_of,
  channel_field,
  clock_field,
  latches_field,
  rate_field,
  field_length,
  fields_length,
  timer_members,
  field_bytes,
  fields_bytes,
}

-- no width is above eight
abbrev pub up_to_eight : List ℕ → Bool
up_to_eight [] = true
up_to_eight (w ∷ ws) = leb w 8 && up_to_eight ws

-- a field's tag and length are at an index
abbrev pub header_at : List ℕ → ℕ → ℕ → ℕ → Bool
header_at l at tag size = eqb (be_at l at 1) tag && eqb (be_at l (at + 1) 2) size

-- the members from index k on are each within their width
abbrev pub FitFrom : ℕ → List ℕ → List ℕ → Type 0
FitFrom k [] ms = Unit {0}
FitFrom k (w ∷ ws) ms = (get_or ms k 0 < 256 ^ w) × FitFrom (suc k) ws ms

-- the fields of the four channels
abbrev pub channels : List Field
channels = channel_field ∷ channel_field ∷ channel_field ∷ channel_field ∷ []

abbrev pub channels_bytes : List HardwareTimer → List ℕ
channels_bytes ts = fields_bytes channels (map timer_members ts)

-- where the fields after them begin
abbrev pub clock_at : ℕ
clock_at = fields_length channels

abbrev pub latches_at : ℕ
latches_at = clock_at + field_length clock_field

abbrev pub controller_at : ℕ
controller_at = latches_at + field_length latches_field

-- the members of a field that begins at an index
abbrev pub members_in : Field → List ℕ → ℕ → List ℕ
members_in f l at = members_at l (at + header_length) (widths_of f.members)

-- the bytes ahead of S-1's fields in each form, at a rate
abbrev pub front_bytes : Form → ℕ → List ℕ
front_bytes Old rate = []
front_bytes New rate = field_bytes rate_field (rate ∷ [])

-- the number of those bytes
abbrev pub front_length : Form → ℕ
front_length Old = 0
front_length New = field_length rate_field
