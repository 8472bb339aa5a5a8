-- Document 01's example, from the bytes of the list to the text, by one computation. Assumes nothing.
use mathlib.Core.Path.{◌≡◌, refl}
use mathlib.Core.List.{[], ◌∷◌, ◌++◌}
use lib.ListN.{replicate}
use Rattle.wide.specs.Fields.{be_at, be}
use Rattle.channel.specs.Channel.{enabled_of, sound_timer, line_of}
use Rattle.channel.specs.Prescaler.{advanced}
use Rattle.channel.specs.Matches.{matches_in}
use Rattle.clock.specs.Clock.{alarm_reached, check_alarm, moved_time, end_advance, advance_clock}
use Rattle.clock.specs.Sound.{sound_rate, sound_offset, sound_alarm, sound_fields, alarm_ahead, sound_clock}
use Rattle.controller.specs.Bits.{with_bit}
use Rattle.controller.specs.Controller.{source_set, output_of, lowest_from}
use Rattle.board.specs.Loops.{map_from, fold_from}
use Rattle.board.specs.Board.{line, exact_deadline, wired, sound_parts, sound}
use Rattle.board.specs.Calls.{address_refusal, moved_board, advanced_board}
use Rattle.board.specs.RegisterWords.{clock_word, live_word}
use Rattle.board.specs.RegisterReads.{read_live, read_at}
use Rattle.format.specs.Format.{members_at, members_bytes, record_of}
use Rattle.format.specs.Codec.{frame_refusal, call_of, refusal_at}
use Rattle.list.specs.Run.{result_of, stepped, run_on, run_of}
use Rattle.listing.specs.Listing.{
  ascii,
  places_of,
  decimal_text,
  bytes_text,
  value_text,
  answer_line,
  lines_on,
  end_line,
  listing_of,
}
use Rattle.listrun.specs.Printed.{listed, printed_of}

-- S-4: 'document 01's listing gains 128 zeros on its second line'; 48 is the code of '0'
pub example_printed :
    printed_of
    (0x02 ∷ 0x00 ∷ 0x02 ∷ 0x00 ∷ 0x83 ∷ 0x04 ∷ 0x00 ∷ 0x08 ∷ 0x00 ∷ 0x00 ∷ 0x00 ∷ 0x00 ∷ 0x00 ∷ 0x00 ∷ 0x00 ∷ 0x01
    ∷ 0x0A ∷ 0x00 ∷ 0x00 ∷ 0xFF ∷ [])
    ≡ ascii "02 01\n04 00" ++ replicate 128 48 ++ ascii "\n0a 0000\nend 3 2 19\n"
unfolding
    be_at be enabled_of sound_timer line_of advanced matches_in alarm_reached check_alarm moved_time end_advance
    advance_clock
    sound_rate sound_offset sound_alarm sound_fields alarm_ahead sound_clock with_bit source_set output_of lowest_from
    map_from
    fold_from line exact_deadline wired sound_parts sound moved_board advanced_board clock_word live_word read_live
    read_at address_refusal members_at frame_refusal members_bytes record_of call_of refusal_at result_of stepped run_on
    run_of ascii places_of decimal_text bytes_text value_text answer_line lines_on end_line listing_of listed printed_of
example_printed = refl
