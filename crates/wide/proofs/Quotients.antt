-- Whole periods of one number and then another. Assumes nothing.
use Rattle.std.proofs.Common.{◌≡◌, ℕ, ◌+◌, ◌*◌, ◌/◌, ◌%◌, ◌<◌, ap, ◌∙◌, arith}
use native.Mathlib.Nat.{mul-add-div, div-add-mod}

-- p of a period v has passed: the periods of c and then t
pub periods_add : (v p c t : ℕ) → 0 < v → (p + (c + t)) / v ≡ (p + c) / v + ((p + c) % v + t) / v
periods_add v p c t h = ap (λ (n : ℕ). n / v) parts ∙ mul-add-div h ((p + c) / v) ((p + c) % v + t)
  where
    parts : p + (c + t) ≡ v * ((p + c) / v) + ((p + c) % v + t)
    parts = omega (arith, div-add-mod (p + c) v)
