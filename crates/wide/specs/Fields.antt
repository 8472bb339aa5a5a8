-- Big-endian fields: the number in some bytes of a list, and a number in bytes.
use Rattle.std.specs.Prelude.{ℕ, zero, suc, ◌+◌, ◌*◌, ◌/◌, ◌%◌, ◌^◌, List, [], ◌∷◌, slice_index}

-- the number in the n bytes of s from index at on, most significant first
unfoldable pub be_at : List ℕ → ℕ → ℕ → ℕ
be_at s at zero = 0
be_at s at (suc n) = be_at s at n * 256 + slice_index s (at + n)

-- v in n bytes, most significant first
unfoldable pub be : ℕ → ℕ → List ℕ
be zero v = []
be (suc n) v = v / 256 ^ n % 256 ∷ be n v

-- n with its byte that has k bytes below it replaced by v
unfoldable pub with_byte : ℕ → ℕ → ℕ → ℕ
with_byte k v n = (n / 256 ^ k / 256 * 256 + v) * 256 ^ k + n % 256 ^ k
