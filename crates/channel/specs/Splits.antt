-- S-4, an advance split into several: a list of cycles, with one advance for each.
use Rattle.std.specs.Prelude.{◌≡◌, ℕ, ◌+◌, ◌*◌, ◌<◌, Bool, List, [], ◌∷◌}
use mathlib.Core.List.{foldr}
use Rattle.channel.specs.declared.HardwareTimer.{HardwareTimer}
use Rattle.channel.specs.Prescaler.{advanced}
use Rattle.channel.specs.Matches.{matches_of}

-- the cycles of all advances
abbrev pub total : List ℕ → ℕ
total cs = foldr ◌+◌ 0 cs

-- the channel after all advances
unfoldable pub advanced_by : Bool → List ℕ → HardwareTimer → HardwareTimer
advanced_by selected [] h = h
advanced_by selected (c ∷ cs) h = advanced_by selected cs (advanced selected c h)

-- 'how many compare points it met': the counts of the advances, added up
unfoldable pub matches_by : Bool → List ℕ → HardwareTimer → ℕ
matches_by selected [] h = 0
matches_by selected (c ∷ cs) h = matches_of selected c h + matches_by selected cs (advanced selected c h)

-- a new compare point that is the old one and some periods of reload, fewer of them than n
pub record FewerPeriods (n old reload new : ℕ) : Type 0 where
  pub periods : ℕ
  pub fewer : periods < n
  pub compare : new ≡ old + periods * reload
