-- Seconds and nanoseconds: order, difference and sum of two durations, a part of a second in cycles and in
-- nanoseconds, and the words of a time. Assumes nothing.
use Prim.Native.Nat.{ℕ, ◌+◌, ◌-◌, ◌*◌, ◌/◌, ◌%◌, ◌^◌, ◌≤◌, ◌<◌}
use mathlib.Core.Path.{◌≡◌}
use mathlib.Core.Bool.{Bool, cond}
use native.Mathlib.Nat.{mul_comm, mul-le-mul_left, mul-le-mul_right, mul-lt-mul_of_pos_right, div-lt_iff_lt-mul}
use native.Mathlib.Nat.{lt_of_le_of_lt}
use native.Mathlib.Omega.{arith}
use lib.Dec.{ltb}
use Rattle.std.specs.declared.option.Option.TheVariants.{Some}
use Rattle.std.specs.Ordering.{nat_cmp, partial_ordering_then, is_some_and, is_lt}
use Rattle.std.proofs.lemmas.Bool.Decides.{nat_tests}
use Rattle.wide.specs.declared.number.Wide.{Wide}
use Rattle.wide.specs.Number.{value_of, largest}
use Rattle.clock.specs.declared.Offset.{Offset}
use Rattle.clock.specs.declared.time.Duration.{Duration}
use Rattle.clock.specs.Clock.{nanos_per_second, in_nanoseconds}
use Rattle.clock.specs.Registers.{signed_difference}
use Rattle.clock.specs.CodeTime.{duration_of}

-- the order that `Duration` derives is that of the numbers: a s n ns against b s m ns
pub before_is : (a n b m : ℕ) → n < nanos_per_second → m < nanos_per_second →
    is_some_and is_lt (partial_ordering_then (Some (nat_cmp a b)) (Some (nat_cmp n m)))
    ≡ ltb (in_nanoseconds a n) (in_nanoseconds b m)
before_is a n b m p q = grind (arith, nat_tests)

-- ---- the signed difference

-- v says whether it is negative, and d is its magnitude
pub since_is : (v : Bool) (a b : ℕ) (d : Duration) → ltb a b ≡ v → duration_of d ≡ cond v (b - a) (a - b) →
    d.nanoseconds < nanos_per_second →
    ◌≡◌ {A = Offset} (record { negative = v; seconds = d.seconds; nanoseconds = d.nanoseconds })
    (signed_difference a b)
unfolding signed_difference
since_is v a b d e h l =
    let m = cond v (b - a) (a - b) in
    let w = whole d.seconds d.nanoseconds m h l in
    let r = rest d.seconds d.nanoseconds m h l in
    rw (e, ← w, ← r)
  where
    whole : (s n m : ℕ) → in_nanoseconds s n ≡ m → n < nanos_per_second → s ≡ m / nanos_per_second
    whole s n m f l = omega arith

    rest : (s n m : ℕ) → in_nanoseconds s n ≡ m → n < nanos_per_second → n ≡ m % nanos_per_second
    rest s n m f l = omega arith

-- ---- a part of a second, at any rate

-- u cycles in nanoseconds
pub nanos_below : (rate u : ℕ) → u < rate → u * nanos_per_second / rate < nanos_per_second
nanos_below rate u h =
    (div-lt_iff_lt-mul {k = rate} {x = u * nanos_per_second} {y = nanos_per_second} (omega arith)).1
    (rw (mul_comm nanos_per_second rate) (mul-lt-mul_of_pos_right h (omega arith)))

-- n nanoseconds in cycles
module _ (rate n : ℕ) (h : n < nanos_per_second) where
  pub cycles-below : 0 < rate → n * rate / nanos_per_second < rate
  cycles-below pos =
      (div-lt_iff_lt-mul {k = nanos_per_second} {x = n * rate} {y = rate} (omega arith)).1
      (rw (mul_comm rate nanos_per_second) (mul-lt-mul_of_pos_right h pos))

  pub cycles-fit : rate ≤ 2 ^ 32 → n * rate < 2 ^ 64
  cycles-fit k = lt_of_le_of_lt (mul-le-mul_left n k) (omega arith)

-- ---- times

-- ---- the words of a time

pub high_word_is : (w : Wide) → (w.high ≡ 0 → ⊥) → largest < value_of w
unfolding value_of
high_word_is w e = over (w.high * 2 ^ 64) w.low (mul-le-mul_right (2 ^ 64) (above e))
  where
    above : {n : ℕ} → (n ≡ 0 → ⊥) → 1 ≤ n
    above {n} h = omega arith

    over : (n l : ℕ) → 1 * 2 ^ 64 ≤ n → largest < n + l
    over n l h = omega arith
