-- Laws of joined tests, of the tests of control and of the alarm check. Assumes nothing.
use Prim.Native.Nat.{ℕ, ◌≤◌, ◌<◌}
use mathlib.Core.Path.{◌≡◌, refl, sym}
use mathlib.Core.Bool.{Bool, true, false, not, ◌&&◌, ◌||◌}
use lib.Dec.{leb, ltb}
use borrow.Author.Tests.{leb-true, leb-false, not-true}
use Rattle.wide.proofs.Choices.{and_parts}
use Rattle.clock.specs.declared.Clock.{Clock}
use Rattle.clock.specs.Clock.{enabled, realtime, from_host, own_time, time_seconds, alarm_reached, polls}

pub and-false : (a : Bool) → (a && false) ≡ false
and-false true = refl
and-false false = refl

pub or-false : (a : Bool) → (a || false) ≡ a
or-false true = refl
or-false false = refl

-- ---- control

-- a clock that cycles move is enabled
pub own_enabled : (n : ℕ) → own_time n ≡ true → enabled n ≡ true
own_enabled n o = (and_parts (enabled n) (not (realtime n)) o).0

-- and does not run from host time
pub own_host : (n : ℕ) → own_time n ≡ true → from_host n ≡ false
own_host n = apart (enabled n) (realtime n)
  where
    apart : (a b : Bool) → (a && not b) ≡ true → (a && b) ≡ false
    apart true true e = sym e
    apart true false e = refl
    apart false b e = refl

-- and one that runs from host time is not moved by cycles
pub host_own : (n : ℕ) → from_host n ≡ true → own_time n ≡ false
host_own n = apart (enabled n) (realtime n)
  where
    apart : (a b : Bool) → (a && b) ≡ true → (a && not b) ≡ false
    apart true true e = refl
    apart true false e = sym e
    apart false b e = refl

-- from neither: it is not enabled
pub off : (n : ℕ) → from_host n ≡ false → own_time n ≡ false → enabled n ≡ false
off n = neither (enabled n) (realtime n)
  where
    neither : (a b : Bool) → (a && b) ≡ false → (a && not b) ≡ false → a ≡ false
    neither true true p q = p
    neither true false p q = q
    neither false b p q = refl

-- a clock that polls runs from host time
pub polls_host : (c : ℕ) (k : Clock) → polls c k ≡ true → from_host k.control ≡ true
polls_host c k q = (and_parts (from_host k.control) (k.alarm.armed && (not k.alarm.pending && ltb 0 c)) q).0

-- ---- the alarm check

module _ (rate : ℕ) (k : Clock) where
  -- its last two clauses
  reaches : Bool
  reaches = not k.alarm.pending && leb k.alarm.seconds (time_seconds rate k)

  pub reached-enabled : alarm_reached rate k ≡ true → enabled k.control ≡ true
  unfolding alarm_reached reaches
  reached-enabled e = (and_parts (enabled k.control) (k.alarm.armed && reaches) e).0

  pub reached : alarm_reached rate k ≡ true →
      (k.alarm.armed ≡ true) × ((k.alarm.pending ≡ false) × (k.alarm.seconds ≤ time_seconds rate k))
  unfolding alarm_reached reaches
  reached e =
      let a = and_parts (enabled k.control) (k.alarm.armed && reaches) e in
      let s = and_parts k.alarm.armed reaches a.1 in
      let t = and_parts (not k.alarm.pending) (leb k.alarm.seconds (time_seconds rate k)) s.1 in
      (s.0, (not-true k.alarm.pending t.0, leb-true k.alarm.seconds (time_seconds rate k) t.1))

  pub not-reached : alarm_reached rate k ≡ false → enabled k.control ≡ true → k.alarm.armed ≡ true →
      k.alarm.pending ≡ false → time_seconds rate k < k.alarm.seconds
  unfolding alarm_reached
  not-reached e o a h =
      leb-false k.alarm.seconds (time_seconds rate k)
      (last (enabled k.control) k.alarm.armed k.alarm.pending (leb k.alarm.seconds (time_seconds rate k))
      o a h e)
    where
      last : (a b c d : Bool) → a ≡ true → b ≡ true → c ≡ false → (a && (b && (not c && d))) ≡ false → d ≡ false
      last a b c d p q r e = rw (p, q, r) at e
