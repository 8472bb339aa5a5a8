-- `writes::written_at` meets its contract. Assumes nothing.
use mathlib.Core.Path.{sym, ◌∙◌}
use Rattle.registers.proofs.CodeWrites.{channel-range, channel-index, written_is}
use Rattle.registers.proofs.writes.written_at.Goals as goal

pub channel_of-number-requires : goal.channel_of-number-requires
channel_of-number-requires c =
    channel-range c.args.offset
    (sym c.part_at.ensures ∙ c.in-Channel.is)

pub timer_after-requires : goal.timer_after-requires
timer_after-requires c =
    channel-range c.args.offset
    (sym c.part_at.ensures ∙ c.in-Channel.is)

pub returns-in-Nothing : goal.returns-in-Nothing
returns-in-Nothing c =
    let a = c.args in
    rw (written_is a.offset a.value a.board, ← c.part_at.ensures, c.in-Nothing.is)

pub returns-in-Enable : goal.returns-in-Enable
returns-in-Enable c =
    let a = c.args in
    rw (
      written_is a.offset a.value a.board,
      ← c.part_at.ensures,
      c.in-Enable.is,
      c.with_timer_enable.ensures,
      c.enable_after.ensures,
    )

pub returns-in-Acknowledge : goal.returns-in-Acknowledge
returns-in-Acknowledge c =
    let a = c.args in
    rw (
      written_is a.offset a.value a.board,
      ← c.part_at.ensures,
      c.in-Acknowledge.is,
      c.with_timers.ensures,
      c.acknowledged.ensures,
    )

pub returns-in-Clock : goal.returns-in-Clock
returns-in-Clock c =
    let a = c.args in
    rw (
      written_is a.offset a.value a.board,
      ← c.part_at.ensures,
      c.in-Clock.is,
      c.with_clock.ensures,
      c.clock_after.ensures,
    )

pub returns-in-Channel : goal.returns-in-Channel
returns-in-Channel c =
    let a = c.args in
    let t = sym c.part_at.ensures ∙ c.in-Channel.is in
    rw (
      written_is a.offset a.value a.board,
      t,
      channel-index a.offset t,
      c.with_channel.ensures,
      c.timer_after.ensures,
      c.channel_at-timer.ensures,
      c.channel_of-number.ensures.0,
    )
