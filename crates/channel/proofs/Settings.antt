-- Rows of document 01's settings that are about one channel, of the counts that S-4 adds, and of the prescaler step
-- at its limits (S-5), computed from the rules. Assumes nothing.
use Rattle.std.proofs.Common.{◌≡◌, ℕ, ◌+◌, ◌-◌, ◌*◌, ◌^◌, true, false, [], ◌∷◌, refl}
use mathlib.Core.Option.{some}
use Rattle.wide.specs.Number.{largest}
use Rattle.channel.specs.declared.HardwareTimer.{HardwareTimer}
use Rattle.channel.specs.Channel.{
  fresh_timer,
  enabled_of,
  irq_enabled_of,
  disabled,
  line_of,
  with_control,
  with_counter,
  with_compare,
  with_reload,
  with_prescaler,
  with_phase,
  with_flags,
}
use Rattle.channel.specs.Prescaler.{ticks_of, phase_after, advanced}
use Rattle.channel.specs.Modes.{one_shot, reloaded, matched, periodic, distance, free_running, ticked_in, ticked}
use Rattle.channel.specs.Deadline.{ticks_to_go, deadline_of}
use Rattle.channel.specs.Matches.{points_met, matches_in, matches_of}
use Rattle.channel.specs.Splits.{advanced_by, matches_by}

-- a channel of a mode that runs with interrupts enabled, its other fields the fresh board's
abbrev in_mode : ℕ → HardwareTimer
in_mode mode = with_control (12 + mode) fresh_timer

-- 'A mode 0, compare 10, prescaler 2'
abbrev setting_a : HardwareTimer
setting_a = with_compare 10 (with_prescaler 2 (in_mode 0))

-- 'B mode 1, compare 10, reload 4'
abbrev setting_b : HardwareTimer
setting_b = with_compare 10 (with_reload 4 (in_mode 1))

-- 'C mode 1, counter 2^64 − 3, compare 2^64 − 2'
abbrev setting_c : ℕ → HardwareTimer
setting_c reload = with_reload reload (with_counter (2 ^ 64 - 3) (with_compare (2 ^ 64 - 2) (in_mode 1)))

-- 'D mode 2 armed, all zero', and 'E the same, prescaler 2^32 − 1'
abbrev setting_d : HardwareTimer
setting_d = with_flags false true (in_mode 2)

-- 'D 30, low at 29'
pub row_a :
    (deadline_of true setting_a ≡ some 30)
    × (line_of (advanced true 29 setting_a) ≡ false)
    × (line_of (advanced true 30 setting_a) ≡ true)
unfolding deadline_of advanced ticked ticked_in one_shot ticks_to_go line_of enabled_of irq_enabled_of disabled
row_a = (refl, refl, refl)

-- 'B mode 1, compare 10, reload 4, 19 ticks: compare 22'
pub row_b : (ticked 19 setting_b).compare ≡ 22
unfolding ticked ticked_in periodic matched reloaded
row_b = refl

-- 'C .. 1 tick: reload 1 gives compare 2^64 − 1, reload 4 clears enable'
pub row_c :
    ((ticked 1 (setting_c 1)).compare ≡ largest)
    × (enabled_of (ticked 1 (setting_c 1)).control ≡ true)
    × ((ticked 1 (setting_c 4)).compare ≡ 2 ^ 64 - 2)
    × (enabled_of (ticked 1 (setting_c 4)).control ≡ false)
unfolding ticked ticked_in periodic matched reloaded enabled_of disabled
row_c = (refl, refl, refl, refl)

-- 'D 2^64; after 2^64 − 1 ticks low, one more high'
pub row_d :
    (deadline_of true setting_d ≡ some (2 ^ 64))
    × (line_of (advanced true largest setting_d) ≡ false)
    × (line_of (advanced true 1 (advanced true largest setting_d)) ≡ true)
unfolding deadline_of advanced ticked ticked_in free_running distance ticks_to_go line_of enabled_of irq_enabled_of
row_d = (refl, refl, refl)

-- 'D 2^96'
pub row_e : deadline_of true (with_prescaler (2 ^ 32 - 1) setting_d) ≡ some (2 ^ 96)
unfolding deadline_of distance ticks_to_go enabled_of irq_enabled_of
row_e = refl

-- a channel that does not run is untouched, phase included: its bit in timer enable is clear, or its enable is
pub row_resting :
    (advanced false 7 setting_a ≡ setting_a)
    × (advanced true 7 (with_control 8 setting_a) ≡ with_control 8 setting_a)
unfolding advanced enabled_of
row_resting = (refl, refl)

-- ---- S-4: how many compare points an advance meets. But for A's the divisor is 1, so that each cycle is a tick

-- a point for each tick, from 0 on
abbrev each_tick : HardwareTimer
each_tick = with_reload 1 (in_mode 1)

-- past its first point there is no second in 64 bits
abbrev once_only : HardwareTimer
once_only = with_compare 1 (with_reload largest (in_mode 1))

-- mode 1: B meets 10, 14 and 18, in one advance or in parts, and has its compare point three periods further
pub matches_of_b :
    (matches_of true 19 setting_b ≡ 3)
    × (matches_by true (9 ∷ 1 ∷ 0 ∷ 9 ∷ []) setting_b ≡ 3)
    × ((advanced_by true (9 ∷ 1 ∷ 0 ∷ 9 ∷ []) setting_b).compare ≡ 10 + 3 * 4)
unfolding matches_in points_met matches_by advanced_by advanced ticked ticked_in periodic matched reloaded enabled_of
matches_of_b = (refl, refl, refl)

-- 'A count can reach 2^64', here in one advance that switches the channel off
pub most_matches :
    (matches_of true largest each_tick ≡ 2 ^ 64)
    × (enabled_of (advanced true largest each_tick).control ≡ false)
unfolding matches_in points_met advanced ticked ticked_in periodic matched reloaded enabled_of disabled
most_matches = (refl, refl)

-- C: the match that clears enable counts too
pub matches_of_c : (matches_of true 1 (setting_c 1) ≡ 1) × (matches_of true 1 (setting_c 4) ≡ 1)
unfolding matches_in points_met advanced ticked ticked_in periodic matched reloaded enabled_of disabled
matches_of_c = (refl, refl)

-- 'or 1 with reload 0'
pub matches_once :
    (matches_of true 9 (with_reload 0 setting_b) ≡ 0)
    × (matches_of true 10 (with_reload 0 setting_b) ≡ 1)
    × (matches_of true 19 (with_reload 0 setting_b) ≡ 1)
unfolding matches_in points_met advanced ticked ticked_in periodic matched reloaded enabled_of disabled
matches_once = (refl, refl, refl)

-- switched off, a channel keeps its compare point, and it is not one period further for each point met
pub compare_left :
    (enabled_of (advanced true 1 once_only).control ≡ false)
    × ((advanced true 1 once_only).compare ≡ 1)
    × (1 + matches_of true 1 once_only * largest ≡ 2 ^ 64)
unfolding matches_in points_met advanced ticked ticked_in periodic matched reloaded enabled_of disabled
compare_left = (refl, refl, refl)

-- two points in 64 bits, one half of them apart
abbrev two_points : HardwareTimer
two_points = with_compare 1 (with_reload (2 ^ 63) (in_mode 1))

-- in parts, its compare point is the one that the parts before the last left: one period past the old, with two points
-- met. One advance of the same cycles meets the two at once and leaves the old one
pub compare_left_split :
    (enabled_of (advanced_by true (1 ∷ (2 ^ 64 - 2) ∷ []) two_points).control ≡ false)
    × ((advanced_by true (1 ∷ (2 ^ 64 - 2) ∷ []) two_points).compare ≡ 1 + 2 ^ 63)
    × (matches_by true (1 ∷ (2 ^ 64 - 2) ∷ []) two_points ≡ 2)
    × ((advanced true largest two_points).compare ≡ 1)
    × (matches_of true largest two_points ≡ 2)
unfolding
    matches_in points_met matches_by advanced_by advanced ticked ticked_in periodic matched reloaded enabled_of disabled
compare_left_split = (refl, refl, refl, refl, refl)

-- 'overdue ones too': with compare below the counter mode 0 meets one point at its first tick, and mode 1 all up to it
pub matches_overdue :
    (matches_of true 0 (with_counter 5 (in_mode 0)) ≡ 0)
    × (matches_of true 1 (with_counter 5 (in_mode 0)) ≡ 1)
    × (matches_by true (1 ∷ 1 ∷ []) (with_counter 5 (in_mode 0)) ≡ 1)
    × (matches_of true 1 (with_counter 5 (with_reload 2 (in_mode 1))) ≡ 4)
unfolding matches_in points_met matches_by advanced ticked ticked_in one_shot periodic matched reloaded enabled_of
    disabled
matches_overdue = (refl, refl, refl, refl)

-- D: none after 2^64 − 1 ticks, one at the next, and none after it
pub matches_of_d :
    (matches_of true largest setting_d ≡ 0)
    × (matches_of true 1 (advanced true largest setting_d) ≡ 1)
    × (matches_of true (2 ^ 64) (advanced true (2 ^ 64) setting_d) ≡ 0)
unfolding matches_in points_met advanced ticked ticked_in free_running distance enabled_of
matches_of_d = (refl, refl, refl)

-- 'A match is where document 01's rule sets pending, set before or not'
pub matches_pending :
    (matches_of true 19 (with_flags true false setting_b) ≡ 3)
    × (matches_of true 29 (with_flags true false setting_a) ≡ 0)
    × (matches_of true 30 (with_flags true false setting_a) ≡ 1)
unfolding matches_in points_met advanced ticked ticked_in one_shot periodic matched reloaded enabled_of disabled
matches_pending = (refl, refl, refl)

-- a channel that does not run meets none
pub matches_resting : (matches_of false 30 setting_a ≡ 0) × (matches_of true 30 (with_control 8 setting_a) ≡ 0)
unfolding matches_in advanced enabled_of
matches_resting = (refl, refl)

-- what the premises of the laws of parts shut out: a channel that is not sound has a tick in an advance of 0 cycles,
-- and a counter that is no word has another distance after a tick
pub premises_used :
    (matches_by true [] (with_phase 1 (in_mode 0)) ≡ 0)
    × (matches_of true 0 (with_phase 1 (in_mode 0)) ≡ 1)
    × (matches_by true (1 ∷ (2 ^ 64 - 2) ∷ []) (with_counter (2 ^ 64 + 1) setting_d) ≡ 1)
    × (matches_of true largest (with_counter (2 ^ 64 + 1) setting_d) ≡ 0)
unfolding matches_in points_met matches_by advanced ticked ticked_in one_shot free_running distance enabled_of disabled
premises_used = (refl, refl, refl, refl)

-- ---- S-5: the ticks and the phase after, by prescaler, phase and cycles

abbrev step_of : ℕ → ℕ → ℕ → ℕ × ℕ
step_of prescaler phase c =
    let h = with_phase phase (with_prescaler prescaler fresh_timer) in
    (ticks_of c h, phase_after c h)

-- prescaler 0: each cycle is a tick; a phase above 0 would add ticks, and no sound channel has one
pub steps_by_one :
    (step_of 0 0 0 ≡ (0, 0)) × (step_of 0 0 1 ≡ (1, 0)) × (step_of 0 0 largest ≡ (largest, 0))
    × (step_of 0 5 1 ≡ (6, 0))
steps_by_one = (refl, refl, refl, refl)

-- the largest prescaler, with phase 0: none, one, a cycle less than a tick, a tick, and the largest number of cycles
pub steps_from_0 :
    (step_of (2 ^ 32 - 1) 0 0 ≡ (0, 0))
    × (step_of (2 ^ 32 - 1) 0 1 ≡ (0, 1))
    × (step_of (2 ^ 32 - 1) 0 (2 ^ 32 - 1) ≡ (0, 2 ^ 32 - 1))
    × (step_of (2 ^ 32 - 1) 0 (2 ^ 32) ≡ (1, 0))
    × (step_of (2 ^ 32 - 1) 0 largest ≡ (2 ^ 32 - 1, 2 ^ 32 - 1))
steps_from_0 = (refl, refl, refl, refl, refl)

-- and with the largest phase, a cycle from its tick: the last sum is 2^64 + 2^32 − 2
pub steps_from_the_largest :
    (step_of (2 ^ 32 - 1) (2 ^ 32 - 1) 0 ≡ (0, 2 ^ 32 - 1))
    × (step_of (2 ^ 32 - 1) (2 ^ 32 - 1) 1 ≡ (1, 0))
    × (step_of (2 ^ 32 - 1) (2 ^ 32 - 1) largest ≡ (2 ^ 32, 2 ^ 32 - 2))
steps_from_the_largest = (refl, refl, refl)
