-- Laws of the lines: the next answer's line, where the lines end, and how long they are. Assumes nothing.
use Prim.Native.Nat.{ℕ, zero, suc, ◌+◌, ◌*◌, ◌≤◌, ◌<◌}
use native.Mathlib.Omega.{arith}
use mathlib.Core.Path.{◌≡◌, refl, sym, ap, ◌∙◌}
use mathlib.Core.List.{List, [], ◌∷◌, ◌++◌}
use lib.ListN.{length, get_or, take, drop, length-append}
use lib.Seq.{drop-cons}
use borrow.Author.Tests.{le-leb, lt-leb}
use Rattle.std.proofs.lemmas.List.{take_more, take-append-drop, length-take}
use Rattle.listing.proofs.Numbers.{decimal-length}
use Prim.Native.Nat.{◌^◌}
use mathlib.Core.List.{append_assoc}
use Rattle.wide.specs.Fields.{be_at}
use Rattle.wide.proofs.Choices.{either}
use lib.Dec.{leb}
use borrow.Author.Tests.{leb-true}
use Prim.Native.Nat.{◌-◌}
use Rattle.listing.specs.Listing.{
  ascii,
  hex_text,
  bytes_text,
  value_text,
  answer_line,
  length_at,
  lines_on,
  end_line,
  answer_lines,
}

-- ---- the next line

-- to skip some bytes is to go on over the bytes without them
skip_drop : (k : ℕ) (l : List ℕ) → lines_on k l ≡ lines_on 0 (drop k l)
unfolding lines_on
skip_drop zero l = refl
skip_drop (suc k) [] = refl
skip_drop (suc k) (x ∷ l) = skip_drop k l

-- a whole answer is printed, and then those behind it
pub next_line : (l : List ℕ) → 3 + length_at l ≤ length l →
    answer_lines l ≡ answer_line (get_or l 0 0) (take (length_at l) (drop 3 l))
    ++ answer_lines (drop (3 + length_at l) l)
unfolding lines_on
next_line [] h = absurd (omega arith)
next_line (x ∷ rest) h =
    let n = length_at (x ∷ rest) in
    let e : suc (2 + n) ≡ 3 + n = omega arith in
    rw (le-leb (3 + n) (length (x ∷ rest)) h)
    (ap (λ (t : List ℕ). answer_line x (take n (drop 2 rest)) ++ t)
    (skip_drop (2 + n) rest ∙ ap (λ (k : ℕ). lines_on 0 (drop k (x ∷ rest))) e))

-- bytes that are no whole answer have no line
pub last_line : (l : List ℕ) → length l < 3 + length_at l → answer_lines l ≡ []
unfolding lines_on
last_line [] h = refl
last_line (x ∷ rest) h = rw (lt-leb (3 + length_at (x ∷ rest)) (length (x ∷ rest)) h)

-- ---- lengths

bytes_length : (l : List ℕ) → length (bytes_text l) ≡ 2 * length l
unfolding bytes_text
bytes_length [] = refl
bytes_length (x ∷ l) = omega (arith, bytes_length l, length-append (hex_text x) (bytes_text l))

value-length : (l : List ℕ) → length (value_text l) ≤ 2 * length l + 1
unfolding value_text ascii
value-length [] = omega arith
value-length (x ∷ l) = omega (arith, bytes_length (x ∷ l))

pub line-length : (tag : ℕ) (value : List ℕ) → length (answer_line tag value) ≤ 2 * length value + 5
unfolding answer_line ascii
line-length tag value = simp length-append (omega (arith, value-length value))

length_at-small : (l : List ℕ) → ((i : ℕ) → get_or l i 0 < 256) → length_at l < 65536
unfolding be_at
length_at-small l b = omega (arith, b 1, b 2)

-- an answer of n bytes and three has a line of at most 2 n + 5 characters, and n is below 65,536: so the lines are
-- fewer than twice as many characters as there are bytes, by one for every 65,538 bytes
pub lines-length : (l : List ℕ) → ((i : ℕ) → get_or l i 0 < 256) → (k : ℕ) →
    65538 * length (lines_on k l) ≤ 131075 * (length l - k)
unfolding lines_on
lines-length [] b k = omega arith
lines-length (x ∷ rest) b (suc k) = omega (arith, lines-length rest (λ i. b (suc i)) k)
lines-length (x ∷ rest) b zero =
    let n = length_at (x ∷ rest) in
    let value = take n (drop 2 rest) in
    either (leb (3 + n) (length (x ∷ rest)))
    (λ e. rw e (omega (
      arith,
      leb-true _ _ e,
      length_at-small (x ∷ rest) b,
      length-append (answer_line x value) (lines_on (2 + n) rest),
      line-length x value,
      length-take n (drop 2 rest),
      lines-length rest (λ i. b (suc i)) (2 + n),
    )))
    (λ e. rw e (omega arith))

-- three numbers of 64 bits take at most sixty digits
pub end-length : (calls refusal used : ℕ) → calls < 2 ^ 64 → refusal < 2 ^ 64 → used < 2 ^ 64 →
    length (end_line calls refusal used) ≤ 67
unfolding end_line ascii
end-length calls refusal used c r u =
    simp length-append (omega (arith, decimal-length calls c, decimal-length refusal r, decimal-length used u))

-- ---- a value

pub value_none : (v : List ℕ) → length v ≡ 0 → ascii "-" ≡ value_text v
unfolding value_text
value_none [] h = refl
value_none (x ∷ v) h = absurd (omega arith)

pub value_some : (v : List ℕ) → (length v ≡ 0 → ⊥) → bytes_text v ≡ value_text v
unfolding value_text
value_some [] h = absurd (h refl)
value_some (x ∷ v) h = refl

-- bytes of two lists, one behind the other
bytes_append : (a b : List ℕ) → bytes_text (a ++ b) ≡ bytes_text a ++ bytes_text b
unfolding bytes_text
bytes_append [] b = refl
bytes_append (x ∷ a) b = rw (bytes_append a b) (sym (append_assoc (hex_text x) (bytes_text a) (bytes_text b)))

pub bytes_more : (l : List ℕ) (i : ℕ) → i < length l →
    bytes_text (take (i + 1) l) ≡ bytes_text (take i l) ++ hex_text (get_or l i 0)
unfolding bytes_text
bytes_more l i h = ap bytes_text (take_more l i 0 h) ∙ bytes_append (take i l) (get_or l i 0 ∷ [])

pub bytes_at : (l : List ℕ) (i : ℕ) → i < length l →
    bytes_text l ≡ bytes_text (take i l) ++ (hex_text (get_or l i 0) ++ bytes_text (drop (suc i) l))
unfolding bytes_text
bytes_at l i h =
    ap bytes_text (sym (take-append-drop i l) ∙ ap (λ (t : List ℕ). take i l ++ t) (drop-cons l i 0 h))
    ∙ bytes_append (take i l) (get_or l i 0 ∷ drop (suc i) l)
