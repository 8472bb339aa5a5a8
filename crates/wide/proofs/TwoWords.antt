-- Sums, differences, order and products of numbers of two words. The laws of the section hold for words of any size w.
-- Assumes nothing.
use Rattle.std.proofs.Common.{◌≡◌, ℕ, ◌+◌, ◌-◌, ◌*◌, ◌%◌, ◌^◌, ◌<◌, ◌≤◌, min, true, false, ltb, leb, sym, ap, ◌∙◌}
use Rattle.std.proofs.Common.{mul-le-mul_right, zero-add, zero-mul, arith, ltb-false, ltb-true}
use Rattle.std.proofs.lemmas.Bool.Decides.{nat_tests}
use Rattle.std.specs.declared.option.Option.{Option}
use Rattle.std.specs.declared.option.Option.TheVariants.{Some}
use Rattle.std.specs.Ordering.{partial_ordering_then, partial_le, is_some_and, nat_cmp, ordering_then, ord_min, is_le}
use Rattle.std.specs.Ordering.{is_lt}
use Rattle.std.specs.declared.cmp.Ordering.{Ordering}
use Rattle.wide.specs.declared.number.Wide.{Wide}
use Rattle.wide.specs.Number.{value_of, largest}
use Rattle.wide.proofs.Choices.{choose, either}

module _ (w : ℕ) where
  -- the higher word decides
  higher : (h k l m : ℕ) → h < k → l < w → h * w + l < k * w + m
  higher h k l m p q = omega (arith, mul-le-mul_right w p)

  high_le : (h k l m : ℕ) → l < w → k * w + m ≤ h * w + l → k ≤ h
  high_le h k l m q p =
      either (ltb h k) (λ e. absurd (let n = higher h k l m (ltb-true h k e) q in omega arith)) (ltb-false h k)

  high_lt : (h k l m : ℕ) → l < m → k * w + m ≤ h * w + l → k < h
  high_lt h k l m q p =
      either (ltb k h) (ltb-true k h) (λ e. absurd (let n = mul-le-mul_right w (ltb-false k h e) in omega arith))

  pub high_fits : (s l : ℕ) → s * w + l < w * w → s < w
  high_fits s l p =
      either (ltb s w) (ltb-true s w) (λ e. absurd (let n = mul-le-mul_right w (ltb-false s w e) in omega arith))

  sums : (h k l m : ℕ) → (h * w + l) + (k * w + m) ≡ (h + k) * w + (l + m)
  sums h k l m = omega arith

  -- the word l + m − w, and one more in the high word
  carries : (s l m r : ℕ) → l + m ≡ r + w → s * w + (l + m) ≡ (s + 1) * w + r
  carries s l m r e = omega arith

  -- d, the difference of the high words, and r, that of the low words, where none is borrowed
  differs : (h k l m d r : ℕ) → h ≡ d + k → l ≡ r + m → d * w + r ≡ (h * w + l) - (k * w + m)
  differs h k l m d r e f = let n : h * w ≡ (d + k) * w = ap (λ (x : ℕ). x * w) e in omega arith

  -- the same where one is borrowed
  borrows : (h k l m d r : ℕ) → h ≡ d + k + 1 → l + w ≡ r + m → d * w + r ≡ (h * w + l) - (k * w + m)
  borrows h k l m d r e f = let n : h * w ≡ (d + k + 1) * w = ap (λ (x : ℕ). x * w) e in omega arith

-- ---- sums

-- a sum that wraps is below its first term
wraps : (l m r : ℕ) → l < 2 ^ 64 → m < 2 ^ 64 → r ≡ (l + m) % 2 ^ 64 → r < l → l + m ≡ r + 2 ^ 64
wraps l m r p q e h = omega arith

stays : (l m r : ℕ) → l < 2 ^ 64 → m < 2 ^ 64 → r ≡ (l + m) % 2 ^ 64 → l ≤ r → l + m ≡ r
stays l m r p q e h = omega arith

-- r is the low words' sum, wrapped
module _ (x y : Wide) (r : ℕ) (p : x.low < 2 ^ 64) (q : y.low < 2 ^ 64) (e : r ≡ (x.low + y.low) % 2 ^ 64) where
  sum-words : value_of x + value_of y ≡ (x.high + y.high) * 2 ^ 64 + (x.low + y.low)
  unfolding value_of
  sum-words = sums (2 ^ 64) x.high y.high x.low y.low

  sum-carried : r < x.low → value_of x + value_of y ≡ (x.high + y.high + 1) * 2 ^ 64 + r
  sum-carried h =
      sum-words ∙ carries (2 ^ 64) (x.high + y.high) x.low y.low r (wraps x.low y.low r p q e h)

  sum-stays : x.low ≤ r → value_of x + value_of y ≡ (x.high + y.high) * 2 ^ 64 + r
  sum-stays h =
      sum-words ∙ ap (λ (n : ℕ). (x.high + y.high) * 2 ^ 64 + n) (stays x.low y.low r p q e h)

  pub carry-is : r < x.low → value_of (record { high = x.high + y.high + 1; low = r }) ≡ value_of x + value_of y
  unfolding value_of
  carry-is h = sym (sum-carried h)

  pub no-carry-is : x.low ≤ r → value_of (record { high = x.high + y.high; low = r }) ≡ value_of x + value_of y
  unfolding value_of
  no-carry-is h = sym (sum-stays h)

  pub carry-fits : value_of x + value_of y < 2 ^ 128 → r < x.low → x.high + y.high + 1 < 2 ^ 64
  carry-fits room h = high_fits (2 ^ 64) (x.high + y.high + 1) r (rw (sum-carried h) at room)

  pub no-carry-fits : value_of x + value_of y < 2 ^ 128 → x.low ≤ r → x.high + y.high < 2 ^ 64
  no-carry-fits room h = high_fits (2 ^ 64) (x.high + y.high) r (rw (sum-stays h) at room)

-- ---- differences

-- r is the low words' difference, wrapped
module _ (x y : Wide) (r : ℕ) (p : x.low < 2 ^ 64) (q : y.low < 2 ^ 64) (below : value_of y ≤ value_of x) where
  pub borrow-fits : x.low < y.low → y.high < x.high
  unfolding value_of
  borrow-fits h = high_lt (2 ^ 64) x.high y.high x.low y.low h below

  pub no-borrow-fits : y.high ≤ x.high
  unfolding value_of
  no-borrow-fits = high_le (2 ^ 64) x.high y.high x.low y.low p below

  module _ (e : r ≡ (x.low + (2 ^ 64 - y.low)) % 2 ^ 64) where
    pub borrow-is : x.low < y.low → value_of (record { high = x.high - y.high - 1; low = r }) ≡ value_of x - value_of y
    unfolding value_of
    borrow-is h =
        borrows (2 ^ 64) x.high y.high x.low y.low (x.high - y.high - 1) r
        (one (borrow-fits h)) (low x.low y.low r p q e h)
      where
        one : {a b : ℕ} → a < b → b ≡ b - a - 1 + a + 1
        one {a} {b} n = omega arith

        low : (l m s : ℕ) → l < 2 ^ 64 → m < 2 ^ 64 → s ≡ (l + (2 ^ 64 - m)) % 2 ^ 64 → l < m → l + 2 ^ 64 ≡ s + m
        low l m s a b e n = omega arith

    pub no-borrow-is : y.low ≤ x.low → value_of (record { high = x.high - y.high; low = r }) ≡ value_of x - value_of y
    unfolding value_of
    no-borrow-is h =
        differs (2 ^ 64) x.high y.high x.low y.low (x.high - y.high) r
        (less no-borrow-fits) (low x.low y.low r p q e h)
      where
        less : {a b : ℕ} → a ≤ b → b ≡ b - a + a
        less {a} {b} n = omega arith

        low : (l m s : ℕ) → l < 2 ^ 64 → m < 2 ^ 64 → s ≡ (l + (2 ^ 64 - m)) % 2 ^ 64 → m ≤ l → l ≡ s + m
        low l m s a b e n = omega arith

-- what the proofs of `sum` and `difference` need
pub ruleset sum_laws = (carry-is, no-carry-is, carry-fits, no-carry-fits)

pub ruleset difference_laws = (borrow-is, no-borrow-is, borrow-fits, no-borrow-fits)

-- ---- order

-- the order that `Wide` derives: the high words decide, and the low words where they are equal
abbrev pub wide_cmp : Wide → Wide → Ordering
wide_cmp x y = ordering_then (nat_cmp x.high y.high) (nat_cmp x.low y.low)

-- it is the order of the numbers, whose low words are words
pub wide_cmp_is : (x y : Wide) → x.low < 2 ^ 64 → y.low < 2 ^ 64 → wide_cmp x y ≡ nat_cmp (value_of x) (value_of y)
unfolding value_of
wide_cmp_is x y p q = words (2 ^ 64) x.high y.high x.low y.low p q
  where
    words : (w h k l m : ℕ) → l < w → m < w →
        ordering_then (nat_cmp h k) (nat_cmp l m) ≡ nat_cmp (h * w + l) (k * w + m)
    words w h k l m p q =
        grind (arith, nat_tests, higher w h k l m, higher w k h m l)

-- so the least of two is the one of the least number
pub least_is : (x y : Wide) → x.low < 2 ^ 64 → y.low < 2 ^ 64 →
    value_of (ord_min wide_cmp x y) ≡ min (value_of x) (value_of y)
least_is x y p q =
    let order = wide_cmp_is y x q p in
    choose (λ (w : Wide). value_of w ≡ min (value_of x) (value_of y)) (is_lt (wide_cmp y x))
    (λ e. below (value_of x) (value_of y) (sym (ap is_lt order) ∙ e))
    (λ e. above (value_of x) (value_of y) (sym (ap is_lt order) ∙ e))
  where
    below : (m n : ℕ) → is_lt (nat_cmp n m) ≡ true → n ≡ min m n
    below m n e = grind (arith, nat_tests)

    above : (m n : ℕ) → is_lt (nat_cmp n m) ≡ false → m ≡ min m n
    above m n e = grind (arith, nat_tests)

-- `<=` asks the derived partial order
abbrev pub wide_partial_cmp : Wide → Wide → Option Ordering
wide_partial_cmp x y = partial_ordering_then (Some (nat_cmp x.high y.high)) (Some (nat_cmp x.low y.low))

-- and compares the numbers
pub at_most_is : (x y : Wide) → x.low < 2 ^ 64 → y.low < 2 ^ 64 →
    partial_le wide_partial_cmp x y ≡ leb (value_of x) (value_of y)
unfolding value_of
at_most_is x y p q = words (2 ^ 64) x.high y.high x.low y.low p q
  where
    words : (w h k l m : ℕ) → l < w → m < w →
        is_some_and is_le (partial_ordering_then (Some (nat_cmp h k)) (Some (nat_cmp l m)))
        ≡ leb (h * w + l) (k * w + m)
    words w h k l m p q = grind (arith, nat_tests, higher w h k l m, higher w k h m l)

-- ---- one word

pub one_word : (x : Wide) → x.high ≡ 0 → value_of x ≡ x.low
unfolding value_of
one_word x e = rw (e, zero-mul, zero-add)

pub capped_low : (x : Wide) → x.low < 2 ^ 64 → x.high ≡ 0 → x.low ≡ min (value_of x) largest
capped_low x p e = rw (one_word x e) (least x.low p)
  where
    least : (n : ℕ) → n < 2 ^ 64 → n ≡ min n largest
    least n h = omega arith

pub capped_high : (x : Wide) → (x.high ≡ 0 → ⊥) → largest ≡ min (value_of x) largest
unfolding value_of
capped_high x e = least (x.high * 2 ^ 64) x.low (mul-le-mul_right (2 ^ 64) (above e))
  where
    above : {n : ℕ} → (n ≡ 0 → ⊥) → 1 ≤ n
    above {n} h = omega arith

    least : (n l : ℕ) → 1 * 2 ^ 64 ≤ n → largest ≡ min (n + l) largest
    least n l h = omega arith
