-- The next compare point of a periodic channel. Assumes nothing.
use Rattle.std.proofs.Common.{◌≡◌, ℕ, ◌+◌, ◌-◌, ◌*◌, ◌/◌, ◌%◌, ◌<◌, ◌≤◌, mod-lt, div-add-mod', arith}

-- the first point of the row k, k + r, k + 2 r, .. that is past m
pub next_is : (k m r : ℕ) → k ≤ m → 0 < r → k + ((m - k) / r + 1) * r ≡ m + (r - (m - k) % r)
next_is k m r h p = omega (arith, div-add-mod' (m - k) r, mod-lt (m - k) p)
