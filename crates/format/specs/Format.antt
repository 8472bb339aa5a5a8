-- Document 01, 'The call list': the members of calls and answers, and the bytes of an answer. Which tags there are, and
-- how long their values and answers are, follows from one table. The codec of calls is in Codec.
use Rattle.std.specs.Prelude.{ℕ, ◌+◌, Bool, ◌&&◌, length, get_or, drop, ltb}
use mathlib.Core.List.{List, [], ◌∷◌, ◌++◌, foldr}
use Rattle.wide.specs.Number.{value_of}
use Rattle.wide.specs.Fields.{be_at, be}
use Rattle.board.specs.declared.refusal.Refusal.TheVariants.{HeaderCut, TagUnknown, LengthWrong, ValueCut, BufferShort}
use Rattle.board.specs.Refusals.{refusal_number}
use Rattle.board.specs.Answers.{deadline_members, skip_members, output_members}
use Rattle.format.specs.declared.Answer.{Answer}
use Rattle.format.specs.declared.Answer.TheVariants.{Empty, Byte, Deadline, Skip, Output}
use Rattle.format.specs.declared.Answer.TheVariants.{DeadlineMembers, SkipMembers, Pair}

-- ---- refusals

abbrev pub header_cut : ℕ
header_cut = refusal_number HeaderCut

abbrev pub tag_unknown : ℕ
tag_unknown = refusal_number TagUnknown

abbrev pub length_wrong : ℕ
length_wrong = refusal_number LengthWrong

abbrev pub value_cut : ℕ
value_cut = refusal_number ValueCut

abbrev pub answer_too_long : ℕ
answer_too_long = refusal_number BufferShort

-- ---- the table of members

-- the widths of the members of a call's value and of its answer
pub record Row : Type 0 where
  pub value : List ℕ
  pub answer : List ℕ

abbrev pub row : List ℕ → List ℕ → Row
row value answer = record { value = value; answer = answer }

-- 'Value → answer, in bytes, a member without a width taking one': the rows of the tags 01 to 0A, with an empty one
-- ahead of them, for 00, which no call has
abbrev pub table : List Row
table =
    row [] []
    -- '01 host time: seconds 8, nanoseconds 4 → none'
    ∷ row (8 ∷ 4 ∷ []) []
    -- '02 read: address 2 → 1'
    ∷ row (2 ∷ []) (1 ∷ [])
    -- '03 write: address 2, byte → none'
    ∷ row (2 ∷ 1 ∷ []) []
    -- '04 advance: 8 → line 1', and by S-4 'four 16-byte counts, channel 0 first'
    ∷ row (8 ∷ []) (1 ∷ 16 ∷ 16 ∷ 16 ∷ 16 ∷ [])
    -- '05 deadline: none → present 1, D 16, 64-bit deadline 8'
    ∷ row [] (1 ∷ 16 ∷ 8 ∷ [])
    -- '06 skip: none → passed 8, line 1'
    ∷ row [] (8 ∷ 1 ∷ [])
    -- '07 source: number, level → none'
    ∷ row (1 ∷ 1 ∷ []) []
    -- '08 controller read: address 4 → 1'
    ∷ row (4 ∷ []) (1 ∷ [])
    -- '09 controller write: address 4, byte → none'
    ∷ row (4 ∷ 1 ∷ []) []
    -- '0A output: none → valid, number'
    ∷ row [] (1 ∷ 1 ∷ [])
    ∷ []

-- the row of a tag, an empty one where the tag is unknown
abbrev pub row_of : ℕ → Row
row_of tag = get_or table tag (row [] [])

abbrev pub known : ℕ → Bool
known tag = ltb 0 tag && ltb tag (length table)

-- the length of members of these widths together
abbrev pub sum : List ℕ → ℕ
sum widths = foldr ◌+◌ 0 widths

abbrev pub value_length : ℕ → ℕ
value_length tag = sum (row_of tag).value

abbrev pub answer_length : ℕ → ℕ
answer_length tag = sum (row_of tag).answer

-- ---- the bytes of members

-- 'Each call: tag 1, length 2, value; big-endian.'
abbrev pub header_length : ℕ
header_length = 3

-- the numbers of members of these widths, from an index on
unfoldable pub members_at : List ℕ → ℕ → List ℕ → List ℕ
members_at l at [] = []
members_at l at (w ∷ ws) = be_at l at w ∷ members_at l (at + w) ws

-- members in bytes, each of its width; a missing member is 0
unfoldable pub members_bytes : List ℕ → List ℕ → List ℕ
members_bytes [] ms = []
members_bytes (w ∷ ws) ms = be w (get_or ms 0 0) ++ members_bytes ws (drop 1 ms)

-- ---- an answer

-- the members of the answer to a call of this tag, in bytes
abbrev pub answer_bytes : ℕ → List ℕ → List ℕ
answer_bytes tag ms = members_bytes (row_of tag).answer ms

-- an answer of the code in bytes: the numbers and widths that each of its cases stands for
unfoldable pub value_bytes : Answer → List ℕ
value_bytes Empty = []
value_bytes (Byte v) = members_bytes (1 ∷ []) (v ∷ [])
value_bytes (Deadline given) = members_bytes (1 ∷ 16 ∷ 8 ∷ []) (deadline_members given)
value_bytes (Skip skip) = members_bytes (8 ∷ 1 ∷ []) (skip_members skip)
value_bytes (Output output) = members_bytes (1 ∷ 1 ∷ []) (output_members output)
value_bytes (DeadlineMembers present exact word) =
    members_bytes (1 ∷ 16 ∷ 8 ∷ []) (present ∷ value_of exact ∷ word ∷ [])
value_bytes (SkipMembers passed line) = members_bytes (8 ∷ 1 ∷ []) (passed ∷ line ∷ [])
value_bytes (Pair a b) = members_bytes (1 ∷ 1 ∷ []) (a ∷ b ∷ [])

-- 'An answer has its call's tag and the same form.' 'an answer of none is still a record, of length 0'
unfoldable pub record_of : ℕ → List ℕ → List ℕ
record_of tag value = be 1 tag ++ be 2 (length value) ++ value
