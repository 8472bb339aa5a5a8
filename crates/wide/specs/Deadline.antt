-- Deadlines as optional numbers of cycles.
use Rattle.std.specs.Prelude.{ℕ, min, Bool, false, nat_le}
use Rattle.std.proofs.Math.Option.{Option, none, some}
use Rattle.std.specs.declared.option.Option as code
use Rattle.std.specs.declared.option.Option.TheVariants.{None, Some}
use Rattle.wide.specs.declared.number.Wide.{Wide}
use Rattle.wide.specs.Number.{value_of}

-- the code's deadline as an optional number
abbrev pub number_of : code.Option Wide → Option ℕ
number_of None = none
number_of (Some w) = some (value_of w)

-- 'the smallest, or none', of two
abbrev pub sooner : Option ℕ → Option ℕ → Option ℕ
sooner none b = b
sooner (some a) none = some a
sooner (some a) (some b) = some (min a b)

-- the deadline is reached once t cycles, or t ticks, have passed
abbrev pub due : Option ℕ → ℕ → Bool
due none t = false
due (some d) t = nat_le d t
