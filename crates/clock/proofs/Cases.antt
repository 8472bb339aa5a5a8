-- What a rule's cases keep, the rule keeps: of the steps that change the time. Assumes nothing.
use Prim.Native.Nat.{ℕ, ◌+◌, ◌-◌, ◌*◌, ◌/◌, ◌%◌, ◌^◌, ◌≤◌, ◌<◌}
use mathlib.Core.Path.{◌≡◌}
use mathlib.Core.Bool.{false, not, ◌&&◌}
use native.Mathlib.Nat.{mod-lt}
use native.Mathlib.Omega.{arith}
use lib.Dec.{ltb}
use borrow.Author.Tests.{ltb-true, ltb-false, not-true}
use Rattle.wide.proofs.Choices.{choose, and_parts}
use Rattle.wide.specs.Number.{largest}
use Rattle.clock.specs.declared.Clock.{Clock}
use Rattle.clock.specs.Clock.{nanos_per_second, from_host, own_time, host_nanoseconds, time_of, moved_time}
use Rattle.clock.specs.Fields.{with_time, with_offset}
use Rattle.clock.specs.Registers.{
  signed_difference,
  own_time_set,
  set_time,
  takes_host,
  takes_own,
  time_kept,
}
use Rattle.clock.proofs.Durations.{cycles-below}

module _ (P : Clock → Type 0) (rate : ℕ) (k : Clock) where
  -- c cycles: past the largest word, on, or not at all
  pub moved-cases : (c : ℕ) → (largest - k.seconds < (k.subsecond + c) / rate → P (with_time largest 0 k)) →
      ((k.subsecond + c) / rate ≤ largest - k.seconds →
      P (with_time (k.seconds + (k.subsecond + c) / rate) ((k.subsecond + c) % rate) k)) →
      ((own_time k.control && ltb 0 c) ≡ false → P k) → P (moved_time rate c k)
  unfolding moved_time
  moved-cases c past on rests =
      choose P (own_time k.control && ltb 0 c)
      (λ _. choose P (ltb (largest - k.seconds) ((k.subsecond + c) / rate))
      (λ e. past (ltb-true (largest - k.seconds) ((k.subsecond + c) / rate) e))
      (λ e. on (ltb-false (largest - k.seconds) ((k.subsecond + c) / rate) e)))
      rests

  module _ (pos : 0 < rate) (set : (s u : ℕ) → s < 2 ^ 64 → u < rate → P (own_time_set s u k)) where
    set_cases : (n : ℕ) → P (set_time rate n k)
    unfolding set_time
    set_cases n =
        choose P (ltb largest (n / nanos_per_second)) (λ _. set largest 0 (omega arith) pos)
        (λ e. set (n / nanos_per_second) (n % nanos_per_second * rate / nanos_per_second) (word e)
        (cycles-below rate (n % nanos_per_second) (mod-lt n (omega arith)) pos))
      where
        word : ltb largest (n / nanos_per_second) ≡ false → n / nanos_per_second < 2 ^ 64
        word e = let l = ltb-false largest (n / nanos_per_second) e in omega arith

    -- control changed: an offset, which a clock takes that did not run from host time, the own time, or neither
    pub kept-cases : (from_host k.control ≡ false →
        P (with_offset (signed_difference (time_of rate k) (host_nanoseconds k.host)) k)) → P k → (new : ℕ) →
        P (time_kept rate new k)
    unfolding time_kept
    kept-cases offset same new =
        choose P (takes_host new k.control)
        (λ e. offset (not-true (from_host k.control) (and_parts (from_host new) (not (from_host k.control)) e).1))
        (λ _. choose P (takes_own new k.control) (λ _. set_cases (time_of rate k)) (λ _. same))
