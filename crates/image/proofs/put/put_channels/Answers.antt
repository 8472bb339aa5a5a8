-- `put::put_channels` meets its contract. Assumes nothing.
use native.Mathlib.Omega.{arith}
use Rattle.image.proofs.Fields.{channel_stored, channels_stored}
use Rattle.image.proofs.put.put_channels.Goals as goal

pub loop-i-preserved : goal.loop-i-preserved
loop-i-preserved c =
    channel_stored c.args.timers.now _ _ _ _ _ c.loop-i.invariant (omega (arith, c.told-timers, c.loop-i-test.true))
    c.put_channel.ensures

pub returns : goal.returns
returns c =
    channels_stored c.args.timers.now c.told-timers _ _ _ c.loop-i-test.false c.loop-i.invariant
