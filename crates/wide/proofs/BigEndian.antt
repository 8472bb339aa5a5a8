-- Laws of big-endian fields and of runs of stores. Assumes nothing.
use Rattle.std.proofs.Common.{◌≡◌, ℕ, zero, suc, ◌+◌, ◌-◌, ◌*◌, ◌/◌, ◌%◌, ◌^◌, ◌<◌, ◌≤◌}
use Rattle.std.proofs.Common.{List, [], ◌∷◌, ◌++◌, length}
use Rattle.std.proofs.Common.{get_or, take, drop, set, sym, refl, ap, ◌∙◌, ap₂, append_assoc, add-zero, add_assoc}
use Rattle.std.proofs.Common.{add-suc, mod-lt, mod-eq_of_lt, mul_comm, div-lt_iff_lt-mul, suc-add, one-mul, pow-suc}
use Rattle.std.proofs.Common.{div-add-mod', zero-add, mul-suc, div-one, add-one, arith, length-drop, get_or-drop}
use Rattle.std.proofs.Common.{take-suc, get_or-append-add, pow_pos, pow-add}
use mathlib.Core.Path.{subst⁻¹}
use native.Mathlib.Nat.{pow-le-pow_right, mul-add-div, div-div-eq-div-mul}
use lib.Arith.{digits_lt, digits_div}
use lib.Seq.{sets, get_or_at}
use Rattle.wide.specs.Fields.{be_at, be, with_byte}

-- n bytes are n long
pub length-be : (n v : ℕ) → length (be n v) ≡ n
unfolding be
length-be zero v = refl
length-be (suc n) v = ap suc (length-be n v)

-- one byte more
pub be_at_more : (s : List ℕ) (at i : ℕ) → be_at s at (i + 1) ≡ be_at s at i * 256 + get_or s (at + i) 0
unfolding be_at
be_at_more s at i = rw add-one

-- one byte more has 256 times the room
pub room_more : (i : ℕ) → 256 ^ (i + 1) ≡ 256 ^ i * 256
room_more i = rw (add-one, pow-suc)

-- up to eight bytes fit 64 bits
pub room_64 : (i : ℕ) → i < 8 → 256 ^ i * 256 ≤ 2 ^ 64
room_64 i h = rw (← pow-suc) (pow-le-pow_right {n = 256} (omega arith) {i = suc i} {j = 8} (omega arith))

-- eight bits for each byte
pub bits_of_bytes : (n : ℕ) → 2 ^ (8 * n) ≡ 256 ^ n
bits_of_bytes zero = refl
bits_of_bytes (suc n) = rw (mul-suc, pow-add, bits_of_bytes n) (sym (pow-suc 256 n))

-- ---- one byte of a number

pub unit_pos : (k : ℕ) → 0 < 256 ^ k
unit_pos k = rw (← bits_of_bytes) (pow_pos (8 * k))

-- a shift by whole bytes
pub unit_fits : (k : ℕ) → k < 8 → (1 * 2 ^ (8 * k)) % 2 ^ 64 ≡ 256 ^ k
unit_fits k h = rw (one-mul, bits_of_bytes, mod-eq_of_lt (small k h))
  where
    small : (k : ℕ) → k < 8 → 256 ^ k < 2 ^ 64
    small k h = let r = room_64 k h in let p = unit_pos k in omega arith

-- j bytes, one byte and k bytes
pub bytes_around : (j k : ℕ) → 256 ^ j * 256 * 256 ^ k ≡ 256 ^ (j + 1 + k)
bytes_around j k = rw (pow-add, room_more)

module _ (j k v n : ℕ) (byte : v < 256) (room : n < 256 ^ j * 256 * 256 ^ k) where
  above-fits : n / 256 ^ k / 256 < 256 ^ j
  above-fits =
      (div-lt_iff_lt-mul {k = 256} {x = n / 256 ^ k} {y = 256 ^ j} (omega arith)).1
      ((div-lt_iff_lt-mul {k = 256 ^ k} {x = n} {y = 256 ^ j * 256} (unit_pos k)).1 room)

  pub upper_fits : n / 256 ^ k / 256 * 256 + v < 256 ^ j * 256
  upper_fits = digits_lt above-fits byte

  pub byte_fits : (n / 256 ^ k / 256 * 256 + v) * 256 ^ k + n % 256 ^ k < 256 ^ j * 256 * 256 ^ k
  byte_fits = digits_lt upper_fits (mod-lt n (unit_pos k))

-- a number of w bytes keeps its width
pub with_byte_fits : (w k v n : ℕ) → k < w → v < 256 → n < 256 ^ w → with_byte k v n < 256 ^ w
unfolding with_byte
with_byte_fits w k v n h b r =
    let e : 256 ^ (w - 1 - k) * 256 * 256 ^ k ≡ 256 ^ w = bytes_around (w - 1 - k) k
    ∙ ap (λ (m : ℕ). 256 ^ m) (omega arith) in
    rw e at (byte_fits (w - 1 - k) k v n b (subst⁻¹ (λ (m : ℕ). n < m) e r))

-- the code's sum, u being the unit
pub stored_fits : (u k v n : ℕ) → u ≡ 256 ^ k → k < 8 → v < 256 → n < 2 ^ 64 →
    (n / u / 256 * 256 + v) * u + n % u < 2 ^ 64
unfolding with_byte
stored_fits u k v n e h b r = rw e (with_byte_fits 8 k v n h b r)

-- what the proof of the code's `with_byte` needs
pub ruleset with_byte_laws = (unit_pos, stored_fits)

-- ---- a field of two parts

-- m bytes, and n bytes behind them
pub be_at_parts : (s : List ℕ) (at m n : ℕ) → be_at s at (m + n) ≡ be_at s at m * 256 ^ n + be_at s (at + m) n
unfolding be_at
be_at_parts s at m zero = omega (arith, ap (be_at s at) (add-zero m))
be_at_parts s at m (suc n) =
    rw (add-suc, be_at_parts s at m n, pow-suc)
    (omega (arith, ap (λ (i : ℕ). get_or s i 0) (sym (add_assoc at m n))))

pub be_parts : (m n v : ℕ) → be (m + n) v ≡ be m (v / 256 ^ n) ++ be n v
unfolding be
be_parts zero n v = rw zero-add
be_parts (suc m) n v =
    rw suc-add
    (ap₂ ◌∷◌
    (ap (λ (u : ℕ). v / u % 256) (pow-add 256 m n ∙ mul_comm (256 ^ m) (256 ^ n))
    ∙ ap (λ (q : ℕ). q % 256) (sym (div-div-eq-div-mul v (256 ^ n) (256 ^ m))))
    (be_parts m n v))

-- what is above the n bytes has no part in them
be_low : (n k h l : ℕ) → be n (h * 256 ^ (n + k) + l) ≡ be n l
unfolding be
be_low zero k h l = refl
be_low (suc n) k h l =
    ap₂ ◌∷◌ (ap (λ (v : ℕ). v / 256 ^ n % 256) above ∙ ap (λ (q : ℕ). q % 256) (mul-add-div (unit_pos n) a l) ∙ last)
    (ap (λ (e : ℕ). be n (h * 256 ^ e + l)) (suc-add n k ∙ sym (add-suc n k)) ∙ be_low n (suc k) h l)
  where
    a : ℕ
    a = h * 256 ^ k * 256

    above : h * 256 ^ (suc n + k) + l ≡ 256 ^ n * a + l
    above = rw (suc-add, pow-suc, pow-add) (omega arith)

    last : (a + l / 256 ^ n) % 256 ≡ l / 256 ^ n % 256
    last = omega arith

-- sixteen bytes of two words
pub be_two_words : (h l : ℕ) → l < 2 ^ 64 → be 16 (h * 2 ^ 64 + l) ≡ be 8 h ++ be 8 l
be_two_words h l p =
    be_parts 8 8 (h * 2 ^ 64 + l)
    ∙ ap₂ ◌++◌ (ap (be 8) (digits_div h p)) (be_low 8 0 h l)

-- a run of stores, and another right behind it, are one run
pub sets-append : {A : Type 0} (l : List A) (i : ℕ) (xs ys : List A) →
    sets (sets l i xs) (i + length xs) ys ≡ sets l i (xs ++ ys)
sets-append {A} l i [] ys = rw add-zero
sets-append {A} l i (x ∷ xs) ys = rw (add-suc, ← suc-add) (sets-append (set l i x) (suc i) xs ys)

-- sixteen bytes are stored as two words
pub sets_two_words : (s : List ℕ) (at h l : ℕ) → l < 2 ^ 64 →
    sets (sets s at (be 8 h)) (at + 8) (be 8 l) ≡ sets s at (be 16 (h * 2 ^ 64 + l))
sets_two_words s at h l p =
    ap (λ (n : ℕ). sets (sets s at (be 8 h)) (at + n) (be 8 l)) (sym (length-be 8 h))
    ∙ sets-append s at (be 8 h) (be 8 l)
    ∙ ap (sets s at) (sym (be_two_words h l p))

-- ---- numbers and bytes, there and back

-- the last byte apart
be_one_more : (n v : ℕ) → be (suc n) v ≡ be n (v / 256) ++ (v % 256 ∷ [])
unfolding be
be_one_more n v =
    ap (λ (m : ℕ). be m v) (sym (add-one n))
    ∙ be_parts n 1 v
    ∙ ap (λ (w : ℕ). be n (v / 256) ++ (w % 256 ∷ [])) (div-one v)

-- a number that fits n bytes, stored and taken out again
pub be_back : (n v : ℕ) (pre post : List ℕ) → v < 256 ^ n → be_at (pre ++ (be n v ++ post)) (length pre) n ≡ v
unfolding be_at be
be_back zero v pre post h = omega arith
be_back (suc n) v pre post h =
    let last = v % 256 ∷ [] in
    let front = be n (v / 256) in
    let whole : be (suc n) v ++ post ≡ front ++ (last ++ post) =
    ap (λ (l : List ℕ). l ++ post) (be_one_more n v) ∙ append_assoc front last post in
    let upper : v / 256 < 256 ^ n =
    (div-lt_iff_lt-mul {k = 256} {x = v} {y = 256 ^ n} (omega arith)).1 (rw pow-suc at h) in
    let byte : get_or (pre ++ (front ++ (last ++ post))) (length pre + n) 0 ≡ v % 256 =
    get_or-append-add pre (front ++ (last ++ post)) n 0
    ∙ get_or_at front (v % 256) post 0 n (length-be n (v / 256)) in
    ap (λ (l : List ℕ). be_at (pre ++ l) (length pre) (suc n)) whole
    ∙ ap₂ (λ (a b : ℕ). a * 256 + b) (be_back n (v / 256) pre (last ++ post) upper) byte
    ∙ div-add-mod' v 256

-- n bytes that stand from index at on, taken out and stored again
pub be_of : (l : List ℕ) → ((i : ℕ) → get_or l i 0 < 256) → (at n : ℕ) → at + n ≤ length l →
    be n (be_at l at n) ≡ take n (drop at l)
unfolding be_at be
be_of l bytes at zero h = refl
be_of l bytes at (suc n) h =
    let a = be_at l at n in
    let b = get_or l (at + n) 0 in
    let small : b < 256 = bytes (at + n) in
    let low : (a * 256 + b) % 256 ≡ b = omega (arith, small) in
    be_one_more n (a * 256 + b)
    ∙ ap₂ (λ (x : List ℕ) (y : ℕ). x ++ (y ∷ []))
    (ap (be n) (digits_div a small) ∙ be_of l bytes at n (omega (arith, h)))
    (low ∙ sym (get_or-drop at l n 0))
    ∙ sym (take-suc (drop at l) n 0 (rw length-drop (omega (arith, h))))
