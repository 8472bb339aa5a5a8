-- `reads::reading_of` meets its contract. Assumes nothing.
use mathlib.Core.Path.{sym, ◌∙◌}
use borrow.Author.Tests.{ne_eqb}
use Rattle.board.specs.Registers.{seconds_low_at}
use Rattle.registers.proofs.Latches.{by-seconds, by-latch, by_register}
use Rattle.registers.proofs.Timing.{check_timed}
use Rattle.registers.proofs.reads.reading_of.Goals as goal

pub returns-then-offset-eq-RTC_SECONDS_LO : goal.returns-then-offset-eq-RTC_SECONDS_LO
returns-then-offset-eq-RTC_SECONDS_LO c =
    let a = c.args in
    rw (
      c.high.ensures,
      c.byte_of_word.ensures,
      c.low-word.ensures,
      c.time_seconds-seconds.ensures,
    )
    (sym (by-seconds a.timer a.shared a.clock a.latches a.offset c.if-offset-eq-RTC_SECONDS_LO.true))

pub word_at-word-requires : goal.word_at-word-requires
word_at-word-requires c =
    rw c.check_alarm-checked.ensures (check_timed c.args.clock c.requires)

pub returns-in_default : goal.returns-in_default
returns-in_default c =
    let a = c.args in
    rw (
      c.count_filled.ensures,
      c.byte_of_word-in_default.ensures,
      c.word_at-word.ensures,
      c.check_alarm-checked.ensures,
    )
    (sym
    (by_register a.timer a.shared a.clock a.latches a.offset
    (ne_eqb a.offset seconds_low_at c.if-offset-eq-RTC_SECONDS_LO.false)
    (sym c.serving.ensures ∙ c.in_default.is)))

pub returns : goal.returns
returns c =
    let a = c.args in
    rw (c.freed_at.ensures, c.byte_of_word-2.ensures)
    (sym
    (by-latch a.timer a.shared a.clock a.latches a.offset
    (ne_eqb a.offset seconds_low_at c.if-offset-eq-RTC_SECONDS_LO.false) _
    (sym c.serving.ensures ∙ c.in-Some.is)))
