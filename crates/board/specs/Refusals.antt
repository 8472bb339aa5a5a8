-- The numbers of the refusals: document 01, 'The call list', and the requests, which give 12 to 16. A rule answers a
-- number, 0 where nothing is refused; the code answers a `Result`, whose error is a case of `Refusal`.
use Rattle.std.specs.Prelude.{ℕ, Result, Ok, Err}
use Rattle.board.specs.declared.refusal.Refusal.{Refusal}
use Rattle.board.specs.declared.refusal.Refusal.TheVariants.{
  NotSound,
  HeaderCut,
  TagUnknown,
  LengthWrong,
  ValueCut,
  AddressTooLarge,
  NanosecondsTooLarge,
  SourceTooLarge,
  SourceOfLine,
  LevelTooLarge,
  BufferShort,
  ImageMalformed,
  DeadlineTooLarge,
  ClockInRealtime,
  AnotherRate,
  RateNeedsNewForm,
}
use Rattle.board.specs.Calls.{not_sound, address_too_large, nanoseconds_too_large, source_too_large, source_of_line}
use Rattle.board.specs.Calls.{level_too_large, deadline_too_large, another_rate}

abbrev pub refusal_number : Refusal → ℕ
refusal_number NotSound = not_sound
-- '2 one or two bytes left; 3 unknown tag; 4 wrong length; 5 value cut; .. 11 answer longer than the buffer's rest'
refusal_number HeaderCut = 2
refusal_number TagUnknown = 3
refusal_number LengthWrong = 4
refusal_number ValueCut = 5
refusal_number AddressTooLarge = address_too_large
refusal_number NanosecondsTooLarge = nanoseconds_too_large
refusal_number SourceTooLarge = source_too_large
refusal_number SourceOfLine = source_of_line
refusal_number LevelTooLarge = level_too_large
refusal_number BufferShort = 11
-- S-1: '12, a field missing, cut, out of order, of wrong length, a flag above 1, or bytes over'
refusal_number ImageMalformed = 12
refusal_number DeadlineTooLarge = deadline_too_large
-- S-6: '14, the clock is enabled in realtime'
refusal_number ClockInRealtime = 14
refusal_number AnotherRate = another_rate
-- S-8: '16, another rate moved back or parked in the old form'
refusal_number RateNeedsNewForm = 16

-- 'refusal (0 none)'
abbrev pub refusal_code : {T : Type 0} → Result T Refusal → ℕ
refusal_code (Ok x) = 0
refusal_code (Err refusal) = refusal_number refusal
