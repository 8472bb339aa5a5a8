-- The number that two words stand for, and the two words of a number.
use Rattle.std.specs.Prelude.{ℕ, ◌+◌, ◌-◌, ◌*◌, ◌/◌, ◌%◌, ◌^◌}
use Rattle.wide.specs.declared.number.Wide.{Wide}

unfoldable pub value_of : Wide → ℕ
value_of w = w.high * 2 ^ 64 + w.low

-- the two words of a number below 2^128
unfoldable pub wide_of : ℕ → Wide
wide_of n = record { high = n / 2 ^ 64; low = n % 2 ^ 64 }

-- the largest word, 2^64 − 1
abbrev pub largest : ℕ
largest = 2 ^ 64 - 1
