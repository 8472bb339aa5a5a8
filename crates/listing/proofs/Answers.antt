-- The loop over the answers. Assumes nothing.
use Prim.Native.Nat.{ℕ, ◌+◌, ◌-◌, ◌≤◌}
use mathlib.Core.Path.{◌≡◌, ap}
use native.Mathlib.Omega.{arith}
use Rattle.std.proofs.lemmas.List.{length-take, get_or-take, drop-take, take_all}
use Rattle.listing.proofs.Lines.{next_line}
use mathlib.Core.List.{List, ◌++◌}
use Rattle.listing.specs.declared.Text.{Text}
use lib.ListN.{length, get_or, take, drop}
use Rattle.listing.specs.Listing.{answer_line, answer_lines, length_at}
use Rattle.listing.specs.CodePuts.{Put}

-- some of the answers are listed, and others left
pub record Listed (answers : List ℕ) (old now : Text) (left : List ℕ) : Type 0 where
  pub done : List ℕ
  pub put : Put done old now
  pub all : answer_lines answers ≡ done ++ answer_lines left

-- the first record of some bytes is listed, and then those behind it
pub next_record : (l : List ℕ) {r s : List ℕ} → 3 + length_at l ≤ length l →
    r ≡ take (3 + length_at l) l → s ≡ drop (3 + length_at l) l →
    answer_lines l ≡ answer_line (get_or r 0 0) (take (length r - 3) (drop 3 r)) ++ answer_lines s
next_record l {r} {s} h p q =
    let n = length_at l in
    let size : length r - 3 ≡ n = omega (arith, ap length p, length-take (3 + n) l) in
    let few : length (take n (drop 3 l)) ≤ n = omega (arith, length-take n (drop 3 l)) in
    rw (size, p, q, get_or-take (3 + n) l 0 0 (omega arith), drop-take 3 n l, take_all n (take n (drop 3 l)) few)
    (next_line l h)
