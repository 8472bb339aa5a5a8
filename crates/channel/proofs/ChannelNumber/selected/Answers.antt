-- `ChannelNumber::selected` meets its contract: a byte has no bit 8 or above. Assumes nothing.
use Rattle.std.proofs.Common.{rules, le-ltb}
use Rattle.wide.proofs.Bits.{no_bit}
use Rattle.channel.proofs.ChannelNumber.selected.Goals as goal

pub returns-else-self-lt-TIMER_ENABLE_BITS : goal.returns-else-self-lt-TIMER_ENABLE_BITS
returns-else-self-lt-TIMER_ENABLE_BITS c =
    rw (le-ltb _ _ c.if-self-lt-TIMER_ENABLE_BITS.false)
    (no_bit 8 c.args.self.0 c.args.timer_enable c.if-self-lt-TIMER_ENABLE_BITS.false (search rules))
