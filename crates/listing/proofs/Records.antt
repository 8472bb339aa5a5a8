-- No answer is lost: the lines of an answer, and of what stands behind it, are its line and the lines of what stands
-- behind it. Assumes nothing.
use Prim.Native.Nat.{ℕ, ◌/◌, ◌%◌, ◌^◌, ◌<◌}
use native.Mathlib.Omega.{arith}
use mathlib.Core.Path.{◌≡◌, sym, ap, ◌∙◌}
use mathlib.Core.List.{List, ◌∷◌, ◌++◌}
use lib.ListN.{length, length-append}
use lib.Seq.{take-append_seam, drop-append_seam, drop-drop}
use Rattle.wide.specs.Fields.{be_at, be}
use Rattle.format.specs.Format.{record_of}
use Rattle.listing.specs.Listing.{answer_line, length_at, answer_lines}
use Rattle.listing.proofs.Lines.{next_line}

-- the length that two bytes tell
length-told : (tag n : ℕ) (l : List ℕ) → n < 65536 → length_at (tag ∷ be 2 n ++ l) ≡ n
unfolding be_at be
length-told tag n l h = omega arith

-- an answer at the front, in the form that a run writes it
pub record-listed : (tag : ℕ) (value rest : List ℕ) → tag < 256 → length value < 65536 →
    answer_lines (record_of tag value ++ rest) ≡ answer_line tag value ++ answer_lines rest
unfolding be record_of
record-listed tag value rest t h =
    let n = length value in
    let l = tag ∷ be 2 n ++ (value ++ rest) in
    let told : length_at l ≡ n = length-told tag n (value ++ rest) h in
    let tag_is : tag / 256 ^ 0 % 256 ≡ tag = omega arith in
    rw tag_is
    (next_line l (omega (arith, told, length-append value rest))
    ∙ rw (told, take-append_seam value rest)
    (ap (λ (m : List ℕ). answer_line tag value ++ answer_lines m)
    (sym (drop-drop n 3 l) ∙ drop-append_seam value rest)))
