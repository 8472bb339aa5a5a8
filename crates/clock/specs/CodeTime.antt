-- Not document 01's sentences: the code's durations and times in nanoseconds, and the periods that it divides by.
use Rattle.std.specs.Prelude.{ℕ, ◌*◌, Bool, ◌||◌}
use Rattle.wide.specs.Number.{value_of}
use Rattle.clock.specs.declared.time.Duration.{Duration}
use Rattle.clock.specs.declared.time.Time.{Time}
use Rattle.clock.specs.Clock.{in_nanoseconds}
use Rattle.clock.specs.Sound.{sound_rate}

abbrev pub duration_of : Duration → ℕ
duration_of d = in_nanoseconds d.seconds d.nanoseconds

abbrev pub moment_of : Time → ℕ
moment_of t = in_nanoseconds (value_of t.seconds) t.nanoseconds

-- the cycles of a second of a sound board, or a thousandth of them
unfoldable pub is_period : ℕ → Bool
is_period p = sound_rate p || sound_rate (p * 1_000)
