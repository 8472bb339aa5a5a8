-- The product of two words by the products of their halves. Assumes nothing.
use Rattle.std.proofs.Common.{◌≡◌, ℕ, ◌+◌, ◌-◌, ◌*◌, ◌/◌, ◌%◌, ◌^◌, ◌<◌, ◌≤◌, sym, ap, ◌∙◌, le-add_right}
use Rattle.std.proofs.Common.{lt_of_le_of_lt, le_of_lt, mul-le-mul, mul-le-mul_left, mul-lt-mul_of_pos_right}
use Rattle.std.proofs.Common.{div-add-mod', arith, pow_pos}
use mathlib.Core.Path.{subst⁻¹}
use Rattle.wide.specs.Number.{value_of}
use Rattle.wide.proofs.TwoWords.{high_fits, one_word}

-- the values of half a word
abbrev pub half : ℕ
half = 2 ^ 32

-- a × b written out, for numbers h × w + l of two digits
digits_product : (w a₁ a₀ b₁ b₀ : ℕ) →
    (a₁ * w + a₀) * (b₁ * w + b₀) ≡ a₁ * b₁ * (w * w) + ((a₁ * b₀ + a₀ * b₁) * w + a₀ * b₀)
digits_product w a₁ a₀ b₁ b₀ = omega arith

-- the same sum of four products with every digit below w: p, q and r are the products but the highest, s
digits_carried : (w s q r p p₁ p₀ l₁ l₀ r₁ r₀ : ℕ) → p ≡ p₁ * w + p₀ → q + p₁ ≡ l₁ * w + l₀ → r + l₀ ≡ r₁ * w + r₀ →
    (s + l₁ + r₁) * (w * w) + (r₀ * w + p₀) ≡ s * (w * w) + ((q + r) * w + p)
digits_carried w s q r p p₁ p₀ l₁ l₀ r₁ r₀ e f g =
    omega (arith, ap (λ (n : ℕ). n * w) f, ap (λ (n : ℕ). n * w) g)

-- a product of two numbers of k bits has at most 2 k bits
below : (k : ℕ) {x y : ℕ} → x < 2 ^ k → y < 2 ^ k → x * y < 2 ^ k * 2 ^ k
below k {x} {y} p q = lt_of_le_of_lt (mul-le-mul_left x (le_of_lt q)) (mul-lt-mul_of_pos_right p (pow_pos k))

-- the largest product of two halves
pub halves_fit : (x y : ℕ) → x < half → y < half → x * y ≤ (half - 1) * (half - 1)
halves_fit x y p q =
    let m : x ≤ half - 1 = omega arith in
    let n : y ≤ half - 1 = omega arith in
    mul-le-mul m n

module _ (a b : ℕ) where
  abbrev pub low : ℕ
  low = a % half * (b % half)

  abbrev pub left : ℕ
  left = a / half * (b % half) + low / half

  abbrev pub right : ℕ
  right = a % half * (b / half) + left % half

  abbrev pub high : ℕ
  high = a / half * (b / half) + left / half + right / half

  product-words : high * (half * half) + (right % half * half + low % half) ≡ a * b
  product-words =
      digits_carried half (a / half * (b / half)) (a / half * (b % half)) (a % half * (b / half)) low (low / half)
      (low % half) (left / half) (left % half) (right / half) (right % half)
      (sym (div-add-mod' low half)) (sym (div-add-mod' left half)) (sym (div-add-mod' right half))
      ∙ sym (digits_product half (a / half) (a % half) (b / half) (b % half))
      ∙ ap (λ (n : ℕ). n * (b / half * half + b % half)) (div-add-mod' a half)
      ∙ ap (λ (n : ℕ). a * n) (div-add-mod' b half)

  pub product_is : value_of (record { high = high; low = right % half * half + low % half }) ≡ a * b
  unfolding value_of
  product_is = product-words

  pub high-word : a < 2 ^ 64 → b < 2 ^ 64 → high < 2 ^ 64
  high-word p q =
      high_fits (2 ^ 64) high (right % half * half + low % half)
      (subst⁻¹ (λ (n : ℕ). n < 2 ^ 64 * 2 ^ 64) product-words (below 64 p q))

  -- the high word before its last addition
  pub high-start : a < 2 ^ 64 → b < 2 ^ 64 → a / half * (b / half) + left / half < 2 ^ 64
  high-start p q = lt_of_le_of_lt (le-add_right _ _) (high-word p q)

-- what the proof of `product` needs
pub ruleset product_laws = (one_word, halves_fit, product_is, high-word, high-start)
