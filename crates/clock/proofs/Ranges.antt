-- What reading the time asks of a clock is kept by each step between two readings. Assumes nothing.
use Prim.Native.Nat.{ℕ, ◌+◌, ◌*◌, ◌%◌, ◌<◌}
use mathlib.Core.Path.{◌≡◌, subst⁻¹}
use native.Mathlib.Nat.{mod-lt}
use native.Mathlib.Omega.{arith}
use Rattle.wide.proofs.Choices.{choose}
use Rattle.clock.specs.declared.Shadow.{Shadow}
use Rattle.clock.specs.declared.Clock.{Clock}
use Rattle.clock.specs.Clock.{rate_of, nanos_per_second, from_host, host_nanoseconds, time_of, moved_time}
use Rattle.clock.specs.Fields.{with_control, with_time, with_offset, with_shadow}
use Rattle.clock.specs.Registers.{signed_difference, time_kept, offset_for}
use Rattle.clock.specs.Sound.{Timed}
use Rattle.clock.proofs.Cases.{moved-cases, kept-cases}

pub signed_small : (a b : ℕ) → (signed_difference a b).nanoseconds < nanos_per_second
unfolding signed_difference
signed_small a b = mod-lt _ (omega arith)

-- at the clock's own rate: of a clock that is the same
pub timed_same : {j k : Clock} {rate : ℕ} → j ≡ k → Timed rate k → Timed (rate_of j) j
timed_same {j} {k} {rate} e t =
    subst⁻¹ (λ (x : Clock). Timed (rate_of x) x) e (subst⁻¹ (λ (r : ℕ). Timed r k) t.own t)

module _ (rate : ℕ) (k : Clock) (t : Timed rate k) where
  pos : 0 < rate
  pos = let h = t.subsecond in omega arith

  -- another clock at k's rate
  timed : {j : Clock} → rate_of j ≡ rate → j.subsecond < rate → j.offset.nanoseconds < nanos_per_second →
      j.host.nanoseconds < nanos_per_second → Timed rate j
  timed r u o h = record { own = r; known = t.known; subsecond = u; offset = o; host = h }

  pub time-timed : (s u : ℕ) → u < rate → Timed rate (with_time s u k)
  time-timed s u h = timed t.own h t.offset t.host

  pub control-timed : (n : ℕ) → Timed rate (with_control n k)
  control-timed n = timed t.own t.subsecond t.offset t.host

  pub shadow-timed : (s : Shadow) → Timed rate (with_shadow s k)
  shadow-timed s = timed t.own t.subsecond t.offset t.host

  offset-timed : (a b : ℕ) → Timed rate (with_offset (signed_difference a b) k)
  offset-timed a b = timed t.own t.subsecond (signed_small a b) t.host

  pub moved-timed : (c : ℕ) → Timed rate (moved_time rate c k)
  moved-timed c =
      moved-cases (Timed rate) rate k c (λ _. time-timed _ 0 pos)
      (λ _. time-timed _ ((k.subsecond + c) % rate) (mod-lt (k.subsecond + c) pos)) (λ _. t)

  pub kept-timed : (new : ℕ) → Timed rate (time_kept rate new k)
  kept-timed =
      kept-cases (Timed rate) rate k pos
      (λ s u _ h. timed t.own h t.offset t.host)
      (λ _. offset-timed (time_of rate k) (host_nanoseconds k.host)) t

  pub offset-for-timed : (s : ℕ) → Timed rate (offset_for s k)
  unfolding offset_for
  offset-for-timed s =
      choose (Timed rate) (from_host k.control)
      (λ _. offset-timed (s * nanos_per_second) (host_nanoseconds k.host))
      (λ _. t)
