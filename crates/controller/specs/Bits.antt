-- A word with bits changed, by `/` and `%`: bit k of n is n / 2 ^ k % 2.
use Rattle.std.specs.Prelude.{ℕ, zero, suc, ◌+◌, ◌-◌, ◌*◌, ◌/◌, ◌%◌, ◌^◌, Bool, cond, eqb}

-- the word with bit k set, or with bit k clear
unfoldable pub with_bit : ℕ → Bool → ℕ → ℕ
with_bit k set word = word - word / 2 ^ k % 2 * 2 ^ k + cond set (2 ^ k) 0

-- the n low bits of a word, with those cleared that are set in the mask
unfoldable pub without : ℕ → ℕ → ℕ → ℕ
without zero word mask = 0
without (suc n) word mask = without n (word / 2) (mask / 2) * 2 + cond (eqb (mask % 2) 1) 0 (word % 2)
