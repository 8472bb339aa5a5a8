-- Cycles that follow a part of a period. Assumes nothing.
use Prim.Native.Nat.{ℕ, ◌+◌, ◌*◌, ◌/◌, ◌%◌, ◌^◌, ◌≤◌, ◌<◌}
use mathlib.Core.Path.{◌≡◌, sym, ap, ◌∙◌, subst⁻¹}
use native.Mathlib.Nat.{
  mod-lt,
  mul-add-div,
  div-add-mod,
  add-mod-mod,
  div-lt_iff_lt-mul,
  mul-le-mul_left,
  lt_of_lt_of_le,
}
use native.Mathlib.Omega.{arith}

module _ (p c v : ℕ) where
  whole_is : 0 < v → c / v + (p + c % v) / v ≡ (p + c) / v
  whole_is h = sym (ap (λ (n : ℕ). n / v) parts ∙ mul-add-div h (c / v) (p + c % v))
    where
      parts : p + c ≡ v * (c / v) + (p + c % v)
      parts = omega (arith, div-add-mod c v)

  rest_is : (p + c % v) % v ≡ (p + c) % v
  rest_is = add-mod-mod p c v

module _ (p c v : ℕ) (h : 1 < v) (k : v ≤ 2 ^ 32) (q : p < 2 ^ 32) (d : c < 2 ^ 64) where
  pos : 0 < v
  pos = omega arith

  pub part-fits : p + c % v < 2 ^ 64
  part-fits = omega (arith, mod-lt c {m = v} pos)

  whole-fits : c / v + (p + c % v) / v < 2 ^ 64
  whole-fits =
      subst⁻¹ (λ (n : ℕ). n < 2 ^ 64) (whole_is p c v pos)
      ((div-lt_iff_lt-mul {k = v} {x = p + c} {y = 2 ^ 64} pos).1
      (lt_of_lt_of_le two (mul-le-mul_left (2 ^ 64) h)))
    where
      two : p + c < 2 ^ 64 * 2
      two = omega arith

-- first the cycles, then the part with what is left of them
module _ (p c v w r x : ℕ) (whole : w ≡ c / v) (rest : r ≡ c % v) (after : x ≡ (p + r) / v) where
  pub steps : (y : ℕ) → 0 < v → y ≡ (p + r) % v → (w + x ≡ (p + c) / v) × (y ≡ (p + c) % v)
  steps y h left = (rw (whole, after, rest) (whole_is p c v h), rw (left, rest) (rest_is p c v))

  pub steps-fit : 1 < v → v ≤ 2 ^ 32 → p < 2 ^ 32 → c < 2 ^ 64 → w + x < 2 ^ 64
  steps-fit h k q d = rw (whole, after, rest) (whole-fits p c v h k q d)
