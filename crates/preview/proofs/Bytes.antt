-- Laws of the loop that writes a byte for each total. Assumes nothing.
use Prim.Native.Nat.{ℕ, suc, ◌+◌, ◌≤◌, ◌<◌}
use native.Mathlib.Numerals.{add-one}
use native.Mathlib.Omega.{arith}
use mathlib.Core.Path.{◌≡◌, refl, sym, ap, ◌∙◌}
use mathlib.Core.List.{List, [], ◌∷◌, ◌++◌, map, append_assoc}
use lib.ListN.{length, get_or, set, take, drop, length-map}
use Rattle.std.proofs.lemmas.List.{length-take-le, map-append}
use lib.Seq.{take-suc, drop-cons, set-append_seam}

-- one byte more, where those of the totals before index i are written
pub byte_more : (f : ℕ → ℕ) (totals old high : List ℕ) (i v : ℕ) → high ≡ map f (take i totals) ++ drop i old →
    i < length totals → length totals ≤ length old → v ≡ f (get_or totals i 0) →
    set high i v ≡ map f (take (i + 1) totals) ++ drop (i + 1) old
byte_more f totals old high i v h l m e =
    let done = map f (take i totals) in
    let n : length done ≡ i = length-map (take i totals) f ∙ length-take-le i totals (omega (arith, l)) in
    let room : i < length old = omega (arith, l, m) in
    rw (add-one, take-suc totals i 0 l, map-append, append_assoc, e, h, drop-cons old i 0 room)
    (ap (λ (k : ℕ). set (done ++ get_or old i 0 ∷ drop (suc i) old) k (f (get_or totals i 0))) (sym n)
    ∙ set-append_seam done (get_or old i 0) (drop (suc i) old) (f (get_or totals i 0)))

-- the same bytes of every word
pub map_words : (f g : ℕ → ℕ) (n : ℕ) → ((t : ℕ) → t < n → f t ≡ g t) → (l : List ℕ) →
    ((i : ℕ) → get_or l i 0 < n) → map f l ≡ map g l
map_words f g n e [] w = refl
map_words f g n e (x ∷ l) w =
    rw (e x (w 0)) (ap (λ (r : List ℕ). g x ∷ r) (map_words f g n e l (λ i. w (suc i))))
