-- `reads::plain_at` meets its contract. Assumes nothing.
use mathlib.Core.Path.{sym, ap}
use Rattle.registers.specs.declared.reads.LatchedReading.{LatchedReading}
use Rattle.registers.proofs.Latches.{plain-range, plain-reading}
use Rattle.registers.proofs.reads.plain_at.Goals as goal

pub place_of-requires : goal.place_of-requires
place_of-requires c = plain-range c.args.offset c.requires.0

pub returns : goal.returns
returns c =
    rw (
      c.byte_of_word.ensures,
      c.read_word-word.ensures,
      c.place_of.ensures,
      c.check_alarm-checked.ensures,
      c.requires.2,
    )
    (ap (λ (r : LatchedReading). r.plain) (sym (plain-reading c.args.offset c.requires.0 c.args.board)))
