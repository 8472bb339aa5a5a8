-- Laws of branches that the check does not find alone: what the code makes there is what the rule says.
-- Assumes nothing.
use Prim.Native.Nat.{ℕ, ◌-◌, ◌*◌, ◌/◌, ◌%◌, ◌≤◌, ◌<◌}
use mathlib.Core.Path.{◌≡◌, ap}
use mathlib.Core.Bool.{true, false, not}
use native.Mathlib.Nat.{mod-eq_of_lt, mod-lt, div-add-mod', mul-le-mul_right}
use native.Mathlib.Omega.{arith}
use lib.Dec.{leb}
use lib.Arith.{digits_div, digits_mod}
use borrow.Author.Tests.{lt-ltb, le-ltb, lt-leb, not-true}
use Rattle.wide.proofs.Choices.{and_parts}
use Rattle.wide.specs.Number.{largest}
use Rattle.clock.specs.declared.Offset.{Offset}
use Rattle.clock.specs.declared.Clock.{Clock}
use Rattle.clock.specs.Clock.{nanos_per_second, poll_limit, from_host, in_nanoseconds, host_nanoseconds}
use Rattle.clock.specs.Clock.{own_nanoseconds, time_of}
use Rattle.clock.specs.Fields.{with_offset}
use Rattle.clock.specs.Registers.{signed_difference, own_time_set, set_time, takes_host, time_kept}
use Rattle.clock.specs.Sound.{sound_rate}
use Rattle.clock.proofs.Rate.{limit_positive, three-rate}

-- poll: n is the sum; below the limit it is its own rest
module _ (rate n : ℕ) (known : sound_rate rate ≡ true) (z : n / poll_limit rate ≡ 0) where
  poll_below : n < poll_limit rate
  poll_below =
      omega (
        arith,
        ap (λ (q : ℕ). q * poll_limit rate) z,
        mod-lt n {m = poll_limit rate} (limit_positive rate (three-rate rate known)),
        div-add-mod' n (poll_limit rate),
      )

  pub poll_short : leb (poll_limit rate) n ≡ false
  poll_short = lt-leb (poll_limit rate) n poll_below

  pub poll_rest : n % poll_limit rate ≡ n
  poll_rest = mod-eq_of_lt poll_below

-- ---- the deadline

-- an alarm ahead is at least a second ahead
pub second_ahead : (rate a s u : ℕ) → s < a → u < rate → u ≤ (a - s) * rate
second_ahead rate a s u h k = omega (arith, mul-le-mul_right {m = 1} {n = a - s} rate (omega arith))

-- ---- the own time, set from s seconds and n nanoseconds

module _ (rate s n : ℕ) (k : Clock) (small : n < nanos_per_second) where
  pub set_word : s ≤ largest → own_time_set s (n * rate / nanos_per_second) k ≡ set_time rate (in_nanoseconds s n) k
  unfolding set_time
  set_word h = rw (digits_div s small, digits_mod s small, le-ltb largest s h)

  pub set_past : largest < s → own_time_set largest 0 k ≡ set_time rate (in_nanoseconds s n) k
  unfolding set_time
  set_past h = rw (digits_div s small, lt-ltb largest s h)

-- ---- a change of control

module _ (rate new : ℕ) (k : Clock) where
  pub host-taken : (o : Offset) (a : ℕ) → takes_host new k.control ≡ true → a ≡ own_nanoseconds rate k →
      o ≡ signed_difference a (host_nanoseconds k.host) → with_offset o k ≡ time_kept rate new k
  unfolding time_kept time_of
  host-taken o a e f g = rw (e, own, ← f, g)
    where
      own : from_host k.control ≡ false
      own = not-true (from_host k.control) (and_parts (from_host new) (not (from_host k.control)) e).1
