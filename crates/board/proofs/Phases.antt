-- In an array of sound channels, each channel's phase is at most its prescaler. Assumes nothing.
use Prim.Native.Nat.{ℕ, ◌≤◌, ◌<◌}
use mathlib.Core.Path.{◌≡◌}
use mathlib.Core.Bool.{true}
use mathlib.Core.List.{List}
use native.Mathlib.Omega.{arith}
use lib.ListN.{length, get_or}
use lib.Dec.{ltb}
use borrow.Author.Tests.{ltb-true}
use Rattle.channel.specs.declared.HardwareTimer.{HardwareTimer}
use Rattle.wide.proofs.Choices.{and_parts}
use Rattle.channel.specs.Channel.{fresh_timer, divisor, sound_timer}
use Rattle.board.specs.Channels.{all_sound}
use Rattle.board.proofs.Loops.{all_at, map_to, next_is}

pub phase_at : (ts : List HardwareTimer) (i : ℕ) → i < length ts → all_sound ts ≡ true →
    (get_or ts i fresh_timer).phase ≤ (get_or ts i fresh_timer).prescaler
unfolding sound_timer
phase_at ts i h e =
    let t = get_or ts i fresh_timer in
    let p = and_parts (ltb t.control 16) (ltb t.phase (divisor t)) (all_at sound_timer fresh_timer ts i 0 h e) in
    let l = ltb-true t.phase (divisor t) p.1 in
    omega arith

-- the same where the channels below i are changed already
pub phase_next : (f : ℕ → HardwareTimer → HardwareTimer) (ts out : List HardwareTimer) (i : ℕ) → i < length ts →
    all_sound ts ≡ true → out ≡ map_to f i 0 ts →
    (get_or out i fresh_timer).phase ≤ (get_or out i fresh_timer).prescaler
phase_next f ts out i h e o = rw (o, next_is f fresh_timer i 0 ts) (phase_at ts i h e)
