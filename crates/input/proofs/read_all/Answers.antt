-- A read fills the buffer from where the reads before it ended, so that what is filled is what they gave together.
use Rattle.std.proofs.Common.{◌≡◌, ℕ, ◌+◌, ◌≤◌, List, ◌++◌, rules, length, take, ap, ◌∙◌, subst, length-take-le}
use Rattle.std.proofs.lemmas.List.{take-append-le}
use Rattle.std.proofs.KnownBytes.{Consumes-trans}
use borrow.Rule.Slice.PartMut.{put_mid, post_of}
use lib.Seq.{take-append-add}
use Rattle.input.proofs.read_all.Goals as goal

-- what is filled after a read: what was filled before it, and what it gave
filled : (a k n : ℕ) (xs ys : List ℕ) → a ≤ length xs → n ≤ length ys →
    take (a + n) (put_mid a k xs ys) ≡ take a xs ++ take n ys
filled a k n xs ys within fits =
    let after = ys ++ post_of a k xs in
    subst (λ (m : ℕ). take (m + n) (take a xs ++ after) ≡ take a xs ++ take n after) (length-take-le a xs within)
    (take-append-add (take a xs) after n)
    ∙ ap (λ (l : List ℕ). take a xs ++ l) (take-append-le n ys (post_of a k xs) fits)

pub loop-done-preserved : goal.loop-done-preserved
loop-done-preserved g c = (
  search rules,
  search rules,
  rw (filled _ _ _ _ _ c.loop-done.invariant.1 c.in_ok-n.ensures.bound.0)
      (Consumes-trans _ _ _ _ _ c.loop-done.invariant.2 c.in_ok-n.ensures.bytes.0),
)
