-- Not document 01's sentences: how the code decodes the first call of a list, with this room for its answer. The rules
-- are `frame_refusal`, `call_at` and `refusal_at` of Codec; proofs/Decoding.antt shows that the two agree.
use Rattle.std.specs.Prelude.{ℕ, ◌-◌, ◌≡◌, List, Bool, true, false, cond, ◌&&◌, not, length, ltb, eqb, Result, Ok, Err}
use Rattle.wide.specs.Fields.{be_at}
use Rattle.board.specs.declared.Board.{Board}
use Rattle.board.specs.declared.calls.Call.{Call}
use Rattle.board.specs.declared.calls.Call.TheVariants.{HostTime, Read, Write, Advance, Deadline, Skip, Source}
use Rattle.board.specs.declared.calls.Call.TheVariants.{ControllerRead, ControllerWrite, Output}
use Rattle.board.specs.Calls.{host_time_refusal, address_refusal, source_refusal, effect_of}
use Rattle.board.specs.Refusals.{refusal_number}
use Rattle.format.specs.declared.calls.Front.{Front}
use Rattle.format.specs.declared.Undecoded.{Undecoded}
use Rattle.format.specs.declared.Undecoded.TheVariants.{Refused, NoRoom}
use Rattle.format.specs.declared.Lengths.{Lengths}
use Rattle.format.specs.Format.{length_wrong, value_cut, answer_too_long, header_length}
use Rattle.format.specs.Format.{known, value_length, answer_length}
use Rattle.format.specs.Codec.{tag_of, tag_at, frame_refusal, call_at, record_length, first_of}

-- what the code finds of a tag: whether it is known, and the lengths of its value and answer
abbrev pub lengths_of : ℕ → Lengths
lengths_of tag = record { known = known tag; value = value_length tag; answer = answer_length tag }

-- the first call of a list, decoded: its refusal, 0 for none, and the call where there is none. Only the list's bytes
-- and the room for the answer refuse it here
pub record Decoded : Type 0 where
  pub refusal : ℕ
  pub call : Call

-- a call's own refusal where its members decide it; a skip's depends on the board, and is 0 here
abbrev pub value_refusal : Call → ℕ
value_refusal (HostTime nanoseconds seconds) =
    host_time_refusal (record { seconds = seconds; nanoseconds = nanoseconds })
value_refusal (Read address) = address_refusal address
value_refusal (Write byte address) = address_refusal address
value_refusal (Advance c) = 0
value_refusal Deadline = 0
value_refusal Skip = 0
value_refusal (Source number level) = source_refusal number level
value_refusal (ControllerRead address) = 0
value_refusal (ControllerWrite byte address) = 0
value_refusal Output = 0

-- a call that is refused before its members are read, or because of them
abbrev pub refused_by : ℕ → Decoded
refused_by refusal = record { refusal = refusal; call = Output }

-- the call that is given with the refusal where its answer has no room: itself where it has no members, because a
-- skip's own refusal comes first, else `Output`
abbrev pub told : Call → Call
told (HostTime nanoseconds seconds) = Output
told (Read address) = Output
told (Write byte address) = Output
told (Advance c) = Output
told Deadline = Deadline
told Skip = Skip
told (Source number level) = Output
told (ControllerRead address) = Output
told (ControllerWrite byte address) = Output
told Output = Output

-- a call whose answer has no room
abbrev pub short_of : Call → Decoded
short_of call = record { refusal = answer_too_long; call = told call }

-- a call of this tag that has no members
abbrev pub Bare : Call → ℕ → Type 0
Bare call tag = (value_refusal call ≡ 0) × ((tag_of call ≡ tag) × ((value_length tag ≡ 0) × (told call ≡ call)))

-- a refusal, or else what is decoded
abbrev pub unless_refused : ℕ → Decoded → Decoded
unless_refused refusal d = cond (eqb refusal 0) d (refused_by refusal)

-- the call, refused where the room is too short for its answer
unfoldable pub roomed : Call → ℕ → Decoded
roomed call room = cond (ltb room (record_length call)) (short_of call) (record { refusal = 0; call = call })

-- the same after the refusal that its members decide
unfoldable pub valued : Call → ℕ → Decoded
valued call room = unless_refused (value_refusal call) (roomed call room)

-- the refusal of a value, which must be `value` bytes long and whole
unfoldable pub value_frame : ℕ → List ℕ → ℕ
value_frame value l =
    cond (not (eqb (be_at l 1 2) value)) length_wrong (cond (ltb (length l - header_length) value) value_cut 0)

-- the refusal of a room that is shorter than a record
abbrev pub room_refusal : ℕ → ℕ → ℕ
room_refusal room size = cond (ltb room size) answer_too_long 0

-- the same after the refusals of its value
unfoldable pub framed_as : ℕ → Call → List ℕ → ℕ → Decoded
framed_as value call l room = unless_refused (value_frame value l) (valued call room)

-- the same at the front of a list, of the call that its bytes give
abbrev pub framed_at : ℕ → (List ℕ → Call) → Front → Decoded
framed_at value call front = framed_as value (call front.rest.now) front.rest.now front.room

-- the first call of a list, refused first by its frame
unfoldable pub decoded_of : List ℕ → ℕ → Decoded
decoded_of l room = unless_refused (frame_refusal l) (valued (call_at l) room)

-- what the code gives of the first call of a list
abbrev pub decoded : Result Call Undecoded → Decoded
decoded (Ok call) = record { refusal = 0; call = call }
decoded (Err (Refused refusal)) = refused_by (refusal_number refusal)
decoded (Err (NoRoom call)) = record { refusal = answer_too_long; call = call }

-- whether it names the call that it refuses
abbrev pub names_call : Result Call Undecoded → Bool
names_call (Ok call) = false
names_call (Err (Refused refusal)) = false
names_call (Err (NoRoom call)) = true

-- a call is named where it has no members and its answer no room, and nowhere else
abbrev pub named_at : List ℕ → Decoded → Bool
named_at l d = eqb (value_length (tag_at l)) 0 && eqb d.refusal answer_too_long

-- a call's own refusal where the board decides it: a skip's; 0 for every other call
abbrev pub board_refusal : Call → Board → ℕ
board_refusal (HostTime nanoseconds seconds) b = 0
board_refusal (Read address) b = 0
board_refusal (Write byte address) b = 0
board_refusal (Advance c) b = 0
board_refusal Deadline b = 0
board_refusal Skip b = (effect_of Skip b).refusal
board_refusal (Source number level) b = 0
board_refusal (ControllerRead address) b = 0
board_refusal (ControllerWrite byte address) b = 0
board_refusal Output b = 0

-- the refusal, on a board, of a call that decoding refuses
abbrev pub first_refusal : Board → Decoded → ℕ
first_refusal b d = first_of (board_refusal d.call b) d.refusal
