-- S-6, 'Many previews from one look': what the totals of a lent slice give, for a board and for a parked one.
use Rattle.std.specs.Prelude.{ℕ, cond, List, [], map, ◌++◌, length, drop, ltb, eqb}
use Rattle.wide.specs.Bits.{flag_of}
use Rattle.clock.specs.Clock.{from_host}
use Rattle.board.specs.declared.Board.{Board}
use Rattle.board.specs.declared.refusal.Refusal.TheVariants.{ClockInRealtime}
use Rattle.board.specs.Board.{line}
use Rattle.board.specs.Calls.{DirectAnswer, refusal_of, advanced_board}
use Rattle.board.specs.Refusals.{refusal_number}
use Rattle.parking.specs.Parking.{buffer_short, reading_of, reading_refusal}

-- ---- of a board

-- '14, the clock is enabled in realtime'
abbrev pub clock_in_realtime : ℕ
clock_in_realtime = refusal_number ClockInRealtime

-- for `count` totals and a buffer of `room` bytes: '14, the clock is enabled in realtime, after 1; a short buffer is
-- 11, after it'
unfoldable pub preview_refusal : Board → ℕ → ℕ → ℕ
preview_refusal b count room =
    refusal_of b (cond (from_host b.clock.control) clock_in_realtime (cond (ltb room count) buffer_short 0))

-- '1 if the line would be high after that many further cycles', else 0; 'Each byte equals what one advance would show'
abbrev pub preview_byte : Board → ℕ → ℕ
preview_byte b total = flag_of (line (advanced_board total b))

-- what a preview answers: 'the board does not move'
unfoldable pub preview_of : Board → ℕ → ℕ → DirectAnswer
preview_of b count room = record { board = b; refusal = preview_refusal b count room; members = [] }

-- 'Write one byte each'; 'Only the first bytes, one for each total, are written'. A refused preview leaves the buffer
unfoldable pub previewed_buffer : Board → List ℕ → List ℕ → List ℕ
previewed_buffer b totals old =
    cond (eqb (preview_refusal b (length totals) (length old)) 0)
    (map (preview_byte b) totals ++ drop (length totals) old)
    old

-- ---- of a parked board

-- the refusal of reading the image comes first
unfoldable pub parked_preview_refusal : List ℕ → ℕ → ℕ → ℕ
parked_preview_refusal image count room =
    cond (eqb (reading_refusal image) 0) (preview_refusal (reading_of image).board count room) (reading_refusal image)

unfoldable pub parked_preview_buffer : List ℕ → List ℕ → List ℕ → List ℕ
parked_preview_buffer image totals old =
    cond (eqb (reading_refusal image) 0) (previewed_buffer (reading_of image).board totals old) old
