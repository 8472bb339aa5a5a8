-- The four channels, numbered 0 to 3: each rule is a channel's rule over the list of them. A channel's bit in timer
-- enable is the bit of its number.
use Rattle.std.specs.Prelude.{ℕ, Bool, true, false, ◌&&◌, ◌||◌, List}
use Rattle.std.proofs.Math.Option.{Option, none}
use Rattle.wide.specs.Bits.{bit}
use Rattle.wide.specs.Deadline.{sooner}
use Rattle.channel.specs.declared.HardwareTimer.{HardwareTimer}
use Rattle.channel.specs.Channel.{line_of, sound_timer}
use Rattle.channel.specs.Prescaler.{advanced}
use Rattle.channel.specs.Matches.{matches_of}
use Rattle.channel.specs.Deadline.{deadline_of}
use Rattle.board.specs.Loops.{map_from, fold_from}

-- c cycles arrive at each channel
abbrev pub advanced_all : ℕ → ℕ → List HardwareTimer → List HardwareTimer
advanced_all enable c = map_from (λ k h. advanced (bit k enable) c h) 0

-- the compare points that each channel meets in c cycles, channel 0 first
abbrev pub matches_all : ℕ → ℕ → List HardwareTimer → List ℕ
matches_all enable c = map_from (λ k h. matches_of (bit k enable) c h) 0

-- the smallest of the channels' deadlines, or none
abbrev pub soonest_of : ℕ → List HardwareTimer → Option ℕ
soonest_of enable = fold_from (λ k h. deadline_of (bit k enable) h) sooner none 0

-- 'some channel has pending and interrupt enable'
abbrev pub any_line : List HardwareTimer → Bool
any_line = fold_from (λ k h. line_of h) ◌||◌ false 0

-- every channel is sound
abbrev pub all_sound : List HardwareTimer → Bool
all_sound = fold_from (λ k h. sound_timer h) ◌&&◌ true 0
