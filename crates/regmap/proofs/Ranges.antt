-- Where an offset is, by the tests that decoding makes. Assumes nothing.
use Prim.Native.Nat.{ℕ, ◌≤◌, ◌<◌}
use native.Mathlib.Omega.{arith}
use mathlib.Core.Path.{◌≡◌}
use mathlib.Core.Bool.{true, false, and-false}
use lib.Dec.{leb}
use borrow.Author.Tests.{leb-true, le-leb, lt-leb}
use Rattle.wide.proofs.Choices.{and_parts}
use Rattle.board.specs.Registers.{seconds_low_at, seconds_high_at, Range, behind, Inside, within, last_of}
use Rattle.board.specs.Registers.{four_bytes, in_register}

-- ---- one range

module _ (r : Range) (n : ℕ) where
  pub inside : r.first ≤ n → n < behind r → within r n ≡ true
  inside p q = simp (le-leb r.first n p, le-leb n r.last (omega arith))

  pub below : n < r.first → within r n ≡ false
  below p = simp (lt-leb r.first n p)

  pub above : r.last < n → within r n ≡ false
  above p = simp (lt-leb n r.last p, and-false)

  pub bounds : within r n ≡ true → Inside r n
  bounds e =
      let p = and_parts (leb r.first n) (leb n r.last) e in
      (leb-true r.first n p.0, leb-true n r.last p.1)

-- ---- the two words of the clock's seconds

module _ (n : ℕ) where
  -- behind them the offset is in neither
  pub after-seconds : last_of seconds_high_at < n →
      (in_register seconds_low_at n ≡ false) × (in_register seconds_high_at n ≡ false)
  after-seconds p = (above (four_bytes seconds_low_at) n (omega arith), above (four_bytes seconds_high_at) n p)
