-- Laws of the distance of a free-running channel: its value, and the code's wrapped difference. Assumes nothing.
use Rattle.std.proofs.Common.{◌≡◌, ℕ, ◌+◌, ◌-◌, ◌%◌, ◌^◌, ◌<◌, ◌≤◌, eqb, ltb, leb, not, ◌&&◌, ◌≢◌, sym, ap, arith}
use Rattle.std.proofs.Common.{ltb-false, ltb-true, eqb-true}
use borrow.Author.Tests.{eqb-false, lt-leb}
use Rattle.wide.proofs.Choices.{choose, either}
use Rattle.channel.specs.Modes.{distance}

-- the distance, by both cases of the remainder
distance_is : (n e d : ℕ)
    → (((e + 2 ^ 64 - n) % 2 ^ 64 ≡ 0 → 2 ^ 64 ≡ d) × ((e + 2 ^ 64 - n) % 2 ^ 64 ≢ 0 → (e + 2 ^ 64 - n) % 2 ^ 64 ≡ d))
    → distance n e ≡ d
unfolding distance
distance_is n e d h =
    choose (λ k. k ≡ d) (eqb ((e + 2 ^ 64 - n) % 2 ^ 64) 0) (λ q. h.0 (eqb-true _ _ q)) (λ q. h.1 (eqb-false _ _ q))

-- n is the counter, and e the compare point
module _ (n e : ℕ) (fn : n < 2 ^ 64) (fe : e < 2 ^ 64) where
  pub distance-above : n < e → distance n e ≡ e - n
  distance-above h = distance_is n e (e - n) (omega arith)

  pub distance-below : e ≤ n → distance n e ≡ e + 2 ^ 64 - n
  distance-below h = distance_is n e (e + 2 ^ 64 - n) (omega arith)

  pub distance-positive : 1 ≤ distance n e
  distance-positive =
      either (ltb n e) (λ q. let h = ltb-true n e q in omega (arith, distance-above h))
      (λ q. let h = ltb-false n e q in omega (arith, distance-below h))

  pub distance_most : distance n e ≤ 2 ^ 64
  distance_most =
      either (ltb n e) (λ q. let h = ltb-true n e q in omega (arith, distance-above h))
      (λ q. let h = ltb-false n e q in omega (arith, distance-below h))

  -- after k ticks, fewer than the distance, it is less by k
  pub distance-after : (k : ℕ) → k < distance n e → distance ((n + k) % 2 ^ 64) e ≡ distance n e - k
  distance-after k h =
      either (ltb n e)
      (λ q. let a = ltb-true n e q in let d = distance-above a in
      distance_is ((n + k) % 2 ^ 64) e (distance n e - k) (omega arith))
      (λ q. let a = ltb-false n e q in let d = distance-below a in
      distance_is ((n + k) % 2 ^ 64) e (distance n e - k) (omega arith))

  -- the code's test: a wrapped difference of 0 is a distance of 2^64, which no word reaches; any other is the distance
  pub reaches_is : (d t : ℕ) → d ≡ (e + (2 ^ 64 - n)) % 2 ^ 64 → t < 2 ^ 64 →
      not (eqb d 0) && leb d t ≡ leb (distance n e) t
  reaches_is d t w f =
      either (eqb d 0)
      (λ q. let z = eqb-true d 0 q in
      rw q (sym (lt-leb (distance n e) t (omega (arith, distance-below (omega arith))))))
      (λ q. let z = eqb-false d 0 q in rw q (ap (λ (k : ℕ). leb k t) (sym (distance_is n e d (omega arith)))))

  -- the distance is one more than its wrapped difference less 1, wrapped too
  pub one_after_is : (r : ℕ) → r ≡ ((e + (2 ^ 64 - n)) % 2 ^ 64 + (2 ^ 64 - 1)) % 2 ^ 64 →
      r + 1 ≡ distance n e
  one_after_is r w = sym (distance_is n e (r + 1) (omega arith))
