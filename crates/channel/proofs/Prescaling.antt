-- Laws of the prescaler: the code's quotients are the rule's, and ticks as cycles. Assumes nothing.
use Rattle.std.proofs.Common.{◌≡◌, ℕ, zero, suc, ◌+◌, ◌-◌, ◌*◌, ◌/◌, ◌%◌, ◌^◌, ◌<◌, ◌≤◌}
use Rattle.std.proofs.Common.{ltb, leb, ◌↔◌, sym, refl, ap}
use Rattle.std.proofs.Common.{◌∙◌, lt_of_lt_of_le, le_of_lt, mod-eq_of_lt, mul-le-mul, le-div_iff_mul-le}
use Rattle.std.proofs.Common.{div-le_self, sub-one, arith, lit≤, le-ltb, lt-ltb, leb-false}
use Rattle.std.proofs.Common.{leb-true, zero-add, div-one}
use mathlib.Core.Option.{Option, none, some}
use native.Mathlib.Nat.{add-div_right, add-mod_right, div-eq_of_lt, mod-one}
use Rattle.wide.proofs.Choices.{either, leb_same}
use Rattle.wide.specs.Deadline.{due}
use Rattle.wide.proofs.Deadlines.{Positive}
use Rattle.channel.specs.Deadline.{in_cycles}

-- phase ≤ prescaler is phase < V
pub at_most_is : (a b : ℕ) → leb a b ≡ ltb a (b + 1)
at_most_is a b =
    either (leb a b) (λ e. let h = leb-true a b e in e ∙ sym (lt-ltb a (b + 1) (omega arith)))
    (λ e. let h = leb-false a b e in e ∙ sym (le-ltb a (b + 1) (omega arith)))

-- with prescaler n = 0 the phase becomes 0, whatever phase p was
pub by_one : (n p c : ℕ) → n ≡ 0 → 0 ≡ (p + c) % (n + 1)
by_one n p c e = rw e (sym (mod-one (p + c)))

-- and with phase p = 0 each of c cycles is a tick
pub each_is : (n p c : ℕ) → n ≡ 0 → p ≤ n → c ≡ (p + c) / (n + 1)
each_is n p c e h =
    let z : p ≡ 0 = omega arith in
    rw (e, z, zero-add c) (sym (div-one c))

-- v is the divisor, p the phase and c the cycles
module _ (v p c : ℕ) where
  -- fewer cycles than to the first tick
  pub early-is : p + c < v → (0 ≡ (p + c) / v) × (p + c ≡ (p + c) % v)
  early-is h = (sym (div-eq_of_lt h), sym (mod-eq_of_lt h))

  -- what is left after the first tick
  from_first : p < v → v - p ≤ c → p + c ≡ c - (v - p) + v
  from_first h k = omega arith

  pub later_is : p < v → v - p ≤ c → ((c - (v - p)) / v + 1 ≡ (p + c) / v) × ((c - (v - p)) % v ≡ (p + c) % v)
  later_is h k = (
    sym (ap (λ (n : ℕ). n / v) (from_first h k) ∙ add-div_right (c - (v - p)) (omega arith)),
    sym (ap (λ (n : ℕ). n % v) (from_first h k) ∙ add-mod_right (c - (v - p)) v),
  )

  pub later-fits : p < v → v - p ≤ c → c < 2 ^ 64 → (c - (v - p)) / v + 1 < 2 ^ 64
  later-fits h k f = omega (arith, div-le_self (c - (v - p)) v)

  -- the cycles of c ticks and one more are at most 2^96
  pub cycles-fit : v ≤ 2 ^ 32 → c < 2 ^ 64 → v - p + c * v < 2 ^ 128
  cycles-fit h k =
      let m : c * v ≤ 2 ^ 64 * 2 ^ 32 = mul-le-mul (le_of_lt k) h in
      lt_of_lt_of_le {m = 2 ^ 97} (omega arith) (lit≤ tt)

-- N ticks, as cycles, have passed when N ticks have come
cycles-passed : (v p n t : ℕ) → p < v → 1 ≤ n → leb (v - p + (n - 1) * v) t ≡ leb n ((p + t) / v)
cycles-passed v p zero t h k = absurd (omega arith)
cycles-passed v p (suc n) t h k =
    leb_same (v - p + (suc n - 1) * v) t (suc n) ((p + t) / v) (λ a. by.1 (there a)) (λ a. back (by.0 a))
  where
    by : (suc n ≤ (p + t) / v) ↔ (suc n * v ≤ p + t)
    by = le-div_iff_mul-le (omega arith)

    there : v - p + (suc n - 1) * v ≤ t → suc n * v ≤ p + t
    there = rw sub-one (λ a. omega arith)

    back : suc n * v ≤ p + t → v - p + (suc n - 1) * v ≤ t
    back = rw sub-one (λ a. omega arith)

pub due-in_cycles : (v p : ℕ) (a : Option ℕ) (t : ℕ) → p < v → Positive a → due (in_cycles v p a) t
    ≡ due a ((p + t) / v)
due-in_cycles v p none t h k = refl
due-in_cycles v p (some n) t h k = cycles-passed v p n t h k
