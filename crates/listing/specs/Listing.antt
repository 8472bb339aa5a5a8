-- Document 01, 'The call list': the text that `listrun` prints of a run's answers and of its end.
use Rattle.std.specs.Prelude.{ℕ, zero, suc, ◌+◌, ◌/◌, List, [], ◌∷◌, ◌++◌, true, false, cond, length, take, drop, ltb}
use Rattle.std.specs.Prelude.{leb}
use Prim.Native.String.{String, [] as none, ◌∷◌ as ◌then◌}
use Prim.Native.Char.{code}
use Rattle.wide.specs.Fields.{be_at}
use Rattle.io.specs.Digits.{last_digits}

-- a text of ASCII characters, in bytes
unfoldable pub ascii : String → List ℕ
ascii none = []
ascii (c then s) = code c ∷ ascii s

-- ---- numbers

-- 'in lower-case hexadecimal': a byte, in two digits
abbrev pub hex_text : ℕ → List ℕ
hex_text byte = last_digits 16 2 byte

-- how many decimal digits n takes: 1 below ten, else one more than n / 10 takes. The first number, n or larger, only
-- bounds the recursion
unfoldable pub places_of : ℕ → ℕ → ℕ
places_of zero n = 1
places_of (suc k) n = elim (ltb n 10) [ true ↦ 1 | false ↦ suc (places_of k (n / 10)) ]

-- 'in decimal'
unfoldable pub decimal_text : ℕ → List ℕ
decimal_text n = last_digits 10 (places_of n n) n

-- ---- an answer

-- bytes one after another
unfoldable pub bytes_text : List ℕ → List ℕ
bytes_text [] = []
bytes_text (byte ∷ more) = hex_text byte ++ bytes_text more

-- '(`-` if empty)'
unfoldable pub value_text : List ℕ → List ℕ
value_text [] = ascii "-"
value_text (byte ∷ more) = bytes_text (byte ∷ more)

-- 'Each answer prints tag and value'
unfoldable pub answer_line : ℕ → List ℕ → List ℕ
answer_line tag value = hex_text tag ++ ascii " " ++ value_text value ++ ascii "\n"

-- 'tag 1, length 2, value; big-endian': the value's length in the record that some bytes begin with
abbrev pub length_at : List ℕ → ℕ
length_at l = be_at l 1 2

-- the lines of the answers, one after another. Over what is left of the bytes, the answer that was printed last is
-- skipped, and the next one is printed where nothing is left to skip. Bytes that are no whole answer end the lines
unfoldable pub lines_on : ℕ → List ℕ → List ℕ
lines_on skip [] = []
lines_on (suc k) (tag ∷ rest) = lines_on k rest
lines_on zero (tag ∷ rest) =
    cond (leb (3 + length_at (tag ∷ rest)) (length (tag ∷ rest)))
    (answer_line tag (take (length_at (tag ∷ rest)) (drop 2 rest)) ++ lines_on (2 + length_at (tag ∷ rest)) rest)
    []

abbrev pub answer_lines : List ℕ → List ℕ
answer_lines answers = lines_on 0 answers

-- ---- the whole text

-- 'last `end`, calls done, refusal, list bytes used, in decimal'
unfoldable pub end_line : ℕ → ℕ → ℕ → List ℕ
end_line calls refusal used =
    ascii "end " ++ decimal_text calls ++ ascii " " ++ decimal_text refusal ++ ascii " " ++ decimal_text used
    ++ ascii "\n"

unfoldable pub listing_of : List ℕ → ℕ → ℕ → ℕ → List ℕ
listing_of answers calls refusal used = answer_lines answers ++ end_line calls refusal used

-- ---- a buffer

-- what a buffer holds once a text is written into it: as much of the text as fits, then its old bytes
unfoldable pub with_text : List ℕ → List ℕ → List ℕ
with_text text old = take (length old) text ++ drop (length text) old
