-- Document 01, 'The call list': a call in bytes, and the first call of a list. proofs/Codec.antt shows that encoding
-- and decoding are exact both ways.
use Rattle.std.specs.Prelude.{ℕ, ◌+◌, ◌-◌, List, [], ◌∷◌, cond, not, length, get_or, ltb, eqb}
use Rattle.wide.specs.Fields.{be_at}
use Rattle.board.specs.declared.Board.{Board}
use Rattle.board.specs.declared.calls.Call.{Call}
use Rattle.board.specs.declared.calls.Call.TheVariants.{
  HostTime,
  Read,
  Write,
  Advance,
  Deadline,
  Skip,
  Source,
  ControllerRead,
  ControllerWrite,
  Output,
}
use Rattle.board.specs.Calls.{effect_of}
use Rattle.format.specs.Format.{
  header_cut,
  tag_unknown,
  length_wrong,
  value_cut,
  answer_too_long,
  row_of,
  known,
  value_length,
  answer_length,
  header_length,
  members_at,
  members_bytes,
  answer_bytes,
  record_of,
}

-- ---- a call in bytes

-- 'Tags are hexadecimal.'
abbrev pub tag_of : Call → ℕ
tag_of (HostTime nanoseconds seconds) = 0x01
tag_of (Read address) = 0x02
tag_of (Write byte address) = 0x03
tag_of (Advance c) = 0x04
tag_of Deadline = 0x05
tag_of Skip = 0x06
tag_of (Source number level) = 0x07
tag_of (ControllerRead address) = 0x08
tag_of (ControllerWrite byte address) = 0x09
tag_of Output = 0x0A

-- the members of its value, in document 01's order
abbrev pub arguments_of : Call → List ℕ
arguments_of (HostTime nanoseconds seconds) = seconds ∷ nanoseconds ∷ []
arguments_of (Read address) = address ∷ []
arguments_of (Write byte address) = address ∷ byte ∷ []
arguments_of (Advance c) = c.0 ∷ []
arguments_of Deadline = []
arguments_of Skip = []
arguments_of (Source number level) = number ∷ level ∷ []
arguments_of (ControllerRead address) = address ∷ []
arguments_of (ControllerWrite byte address) = address ∷ byte ∷ []
arguments_of Output = []

-- 'Each call: tag 1, length 2, value; big-endian.' An answer's record has the same form
unfoldable pub call_bytes : Call → List ℕ
call_bytes call = record_of (tag_of call) (members_bytes (row_of (tag_of call)).value (arguments_of call))

-- the list bytes that a call uses
abbrev pub call_length : Call → ℕ
call_length call = header_length + value_length (tag_of call)

-- ---- the first call of a list

abbrev pub tag_at : List ℕ → ℕ
tag_at l = get_or l 0 0

-- '2 one or two bytes left; 3 unknown tag; 4 wrong length; 5 value cut'. 0 for none
unfoldable pub frame_refusal : List ℕ → ℕ
frame_refusal l =
    cond (ltb (length l) header_length) header_cut
    (cond (not (known (tag_at l))) tag_unknown
    (cond (not (eqb (be_at l 1 2) (value_length (tag_at l)))) length_wrong
    (cond (ltb (length l - header_length) (value_length (tag_at l))) value_cut
    0)))

-- a member of a call's value
abbrev pub argument : ℕ → List ℕ → ℕ
argument k members = get_or members k 0

-- the call of a known tag with the members of its value
unfoldable pub call_of : ℕ → List ℕ → Call
call_of tag m =
    cond (eqb tag 0x01) (HostTime (argument 1 m) (argument 0 m))
    (cond (eqb tag 0x02) (Read (argument 0 m))
    (cond (eqb tag 0x03) (Write (argument 1 m) (argument 0 m))
    (cond (eqb tag 0x04) (Advance (record { 0 = argument 0 m }))
    (cond (eqb tag 0x05) Deadline
    (cond (eqb tag 0x06) Skip
    (cond (eqb tag 0x07) (Source (argument 0 m) (argument 1 m))
    (cond (eqb tag 0x08) (ControllerRead (argument 0 m))
    (cond (eqb tag 0x09) (ControllerWrite (argument 1 m) (argument 0 m))
    Output))))))))

-- the first call of a list whose frame is not refused
abbrev pub call_at : List ℕ → Call
call_at l = call_of (tag_at l) (members_at l header_length (row_of (tag_at l)).value)

-- ---- its answer

-- the members of a call's answer, in bytes, with its tag
abbrev pub answer_record : Call → Board → List ℕ
answer_record call b = record_of (tag_of call) (answer_bytes (tag_of call) (effect_of call b).members)

-- the bytes of its record
abbrev pub record_length : Call → ℕ
record_length call = header_length + answer_length (tag_of call)

-- ---- its refusal

-- the first of two refusals, or the second where the first is 0
abbrev pub first_of : ℕ → ℕ → ℕ
first_of m n = cond (eqb m 0) n m

-- 'for each call: 2 one or two bytes left; 3 unknown tag; 4 wrong length; 5 value cut; the call's own; 11 answer
-- longer than the buffer's rest'. 0 for none
unfoldable pub refusal_at : Board → List ℕ → ℕ → ℕ
refusal_at b l room =
    first_of (frame_refusal l)
    (first_of (effect_of (call_at l) b).refusal
    (cond (ltb room (record_length (call_at l))) answer_too_long 0))
