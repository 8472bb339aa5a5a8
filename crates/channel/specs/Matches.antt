-- S-4, 'Matches per advance': how many compare points a channel's advance meets, 'overdue ones too'.
use Rattle.std.specs.Prelude.{ℕ, Bool, false, cond, ◌==◌}
use Rattle.channel.specs.declared.HardwareTimer.{HardwareTimer}
use Rattle.channel.specs.Channel.{mode_of, with_flags}
use Rattle.channel.specs.Modes.{points_to}
use Rattle.channel.specs.Prescaler.{advanced}

-- 'A match is where document 01's rule sets pending, set before or not': applied with pending clear, the rule sets it
abbrev pub matched_by : (HardwareTimer → HardwareTimer) → HardwareTimer → Bool
matched_by rule h = (rule (with_flags false h.armed h)).pending

-- on a match: 'In mode 1 that is floor((counter − compare) / reload) + 1 .. with the old compare and the new counter,
-- or 1 with reload 0. In modes 0 and 2 it is 1'. The channel is the one before the advance
unfoldable pub points_met : ℕ → ℕ → HardwareTimer → ℕ
points_met mode counter h =
    cond (mode == 1) (cond (h.reload == 0) 1 (points_to counter h.compare h.reload)) 1

-- 'otherwise 0': the compare points that a rule meets, in a mode
unfoldable pub matches_in : ℕ → (HardwareTimer → HardwareTimer) → HardwareTimer → ℕ
matches_in mode rule h = cond (matched_by rule h) (points_met mode (rule h).counter h) 0

-- the compare points that c cycles meet
abbrev pub matches_of : Bool → ℕ → HardwareTimer → ℕ
matches_of selected c h = matches_in (mode_of h.control) (advanced selected c) h
