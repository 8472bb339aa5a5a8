-- The loop that stores members one behind another, each in its width, and a field of them. Assumes nothing.
use Prim.Native.Nat.{ℕ, ◌+◌, ◌≤◌}
use native.Mathlib.Omega.{arith}
use mathlib.Core.Bool.{true}
use mathlib.Core.Path.{◌≡◌, sym, ap, ap₂, ◌∙◌}
use mathlib.Core.List.{List, [], ◌∷◌, ◌++◌}
use lib.ListN.{length, length-append}
use lib.Seq.{sets, length-sets}
use lib.Dec.{leb}
use Rattle.wide.specs.Fields.{be}
use Rattle.wide.proofs.Choices.{and_parts}
use Rattle.wide.proofs.BigEndian.{length-be}
use Rattle.format.specs.Format.{sum, members_bytes, record_of}
use Rattle.format.proofs.Frames.{sets_then, members-length}
use Rattle.image.specs.CodeTables.{up_to_eight}

-- ---- storing

-- with these widths and members left, to be stored from p on: they give the buffer with all stored
pub record Storing (all buf : List ℕ) (p : ℕ) (ws ms : List ℕ) : Type 0 where
  pub narrow : up_to_eight ws ≡ true
  pub same : length ms ≡ length ws
  pub room : p + sum ws ≤ length buf
  pub stores : sets buf p (members_bytes ws ms) ≡ all

module _ (all buf : List ℕ) (p w m : ℕ) (vs ns ws ms : List ℕ) (left : Storing all buf p vs ns)
    (e : (vs ≡ w ∷ ws) × (ns ≡ m ∷ ms)) where
  s : Storing all buf p (w ∷ ws) (m ∷ ms)
  s = rw (e.0, e.1) at left

  -- it is stored
  pub storing-more : (buf' : List ℕ) → buf' ≡ sets buf p (be w m) → Storing all buf' (p + w) ws ms
  unfolding members_bytes
  storing-more buf' put =
      record {
        narrow = (and_parts (leb w 8) (up_to_eight ws) s.narrow).1;
        same = omega (arith, s.same);
        room = omega (arith, s.room, ap length put, length-sets buf p (be w m));
        stores =
            ap (λ (b : List ℕ). sets b (p + w) (members_bytes ws ms)) put
            ∙ sets_then buf p w (be w m) (members_bytes ws ms) (length-be w m)
            ∙ s.stores;
      }

-- none is left
pub storing-ended : (all buf : List ℕ) (p : ℕ) (ws ms : List ℕ) → Storing all buf p ws ms → ws ≡ [] → buf ≡ all
unfolding members_bytes
storing-ended all buf p [] ms s e = s.stores
storing-ended all buf p (w ∷ ws) ms s e = absurd (omega (arith, ap length e))

-- a tag, a length, and members right behind them are a field
pub record-stored : (x y z u : List ℕ) (at tag size : ℕ) (ws ms : List ℕ) → y ≡ sets x at (be 1 tag) →
    z ≡ sets y (at + 1) (be 2 size) → u ≡ sets z (at + 3) (members_bytes ws ms) → size ≡ sum ws →
    u ≡ sets x at (record_of tag (members_bytes ws ms))
unfolding record_of
record-stored x y z u at tag size ws ms d e f n =
    let both : z ≡ sets x at (be 1 tag ++ be 2 size) =
    e
    ∙ ap (λ (b : List ℕ). sets b (at + 1) (be 2 size)) d
    ∙ sets_then x at 1 (be 1 tag) (be 2 size) (length-be 1 tag) in
    f
    ∙ ap (λ (b : List ℕ). sets b (at + 3) (members_bytes ws ms)) both
    ∙ sets_then x at 3 (be 1 tag ++ be 2 size) (members_bytes ws ms)
    (length-append (be 1 tag) (be 2 size) ∙ ap₂ ◌+◌ (length-be 1 tag) (length-be 2 size))
    ∙ ap (λ (k : ℕ). sets x at (be 1 tag ++ be 2 k ++ members_bytes ws ms)) (n ∙ sym (members-length ws ms))
