-- Members there and back: stored and taken out again they are the same members, and bytes that are taken out and
-- stored again are the same bytes. By induction over their widths. Assumes nothing.
use Prim.Native.Nat.{ℕ, zero, suc, ◌+◌, ◌^◌, ◌≤◌, ◌<◌}
use native.Mathlib.Omega.{arith}
use mathlib.Core.Path.{◌≡◌, refl, sym, ap, ap₂, ◌∙◌}
use mathlib.Core.List.{List, [], ◌∷◌, ◌++◌, append_assoc}
use lib.ListN.{length, get_or, take, drop, length-append}
use lib.Seq.{take-add, drop-drop}
use Rattle.wide.specs.Fields.{be}
use Rattle.wide.proofs.BigEndian.{length-be, be_back, be_of}
use Rattle.format.specs.Format.{sum, members_at, members_bytes, record_of}
use Rattle.format.proofs.Frames.{members-length, members_below}

-- the elements of a machine's bytes
abbrev pub Bytes : List ℕ → Type 0
Bytes l = (i : ℕ) → get_or l i 0 < 256

-- ---- two lists, element by element

infixr 67 ◌▸◌
pub data Each {A B : Type 0} (R : A → B → Type 0) : List A → List B → Type 0 where
  ended : Each R [] []
  ◌▸◌ : {a : A} {b : B} {xs : List A} {ys : List B} → R a b → Each R xs ys → Each R (a ∷ xs) (b ∷ ys)

module _ {A B : Type 0} (R : A → B → Type 0) where
  pub each_length : (xs : List A) (ys : List B) → Each R xs ys → length ys ≡ length xs
  each_length [] [] ended = refl
  each_length [] (y ∷ ys) r = elim r [ ]
  each_length (x ∷ xs) [] r = elim r [ ]
  each_length (x ∷ xs) (y ∷ ys) (r ▸ rs) = ap suc (each_length xs ys rs)

  pub each_at : (d : A) (e : B) (xs : List A) (ys : List B) → Each R xs ys → (k : ℕ) → k < length xs →
      R (get_or xs k d) (get_or ys k e)
  each_at d e [] [] ended k h = absurd (omega (arith, h))
  each_at d e [] (y ∷ ys) r k h = elim r [ ]
  each_at d e (x ∷ xs) [] r k h = elim r [ ]
  each_at d e (x ∷ xs) (y ∷ ys) (r ▸ rs) zero h = r
  each_at d e (x ∷ xs) (y ∷ ys) (r ▸ rs) (suc k) h = each_at d e xs ys rs k (omega (arith, h))

-- ---- members

-- a member of this width
abbrev pub Below : ℕ → ℕ → Type 0
Below w m = m < 256 ^ w

-- as many members as widths, and each fits its width
abbrev pub Fit : List ℕ → List ℕ → Type 0
Fit = Each Below

-- the members of bytes fit
pub bytes_fit : (l : List ℕ) → Bytes l → (at : ℕ) (ws : List ℕ) → Fit ws (members_at l at ws)
unfolding members_at
bytes_fit l bytes at [] = ended
bytes_fit l bytes at (w ∷ ws) = members_below l bytes at (w ∷ ws) 0 ▸ bytes_fit l bytes (at + w) ws

-- stored and taken out again
pub members_back : (ws ms : List ℕ) → Fit ws ms → (pre post : List ℕ) →
    members_at (pre ++ (members_bytes ws ms ++ post)) (length pre) ws ≡ ms
unfolding members_at members_bytes
members_back [] [] ended pre post = refl
members_back [] (m ∷ ms) fit pre post = elim fit [ ]
members_back (w ∷ ws) [] fit pre post = elim fit [ ]
members_back (w ∷ ws) (m ∷ ms) (h ▸ fit) pre post =
    let front = be w m in
    let rest = members_bytes ws ms ++ post in
    let longer : length (pre ++ front) ≡ length pre + w =
    length-append pre front ∙ ap (λ (n : ℕ). length pre + n) (length-be w m) in
    ap (λ (l : List ℕ). members_at (pre ++ l) (length pre) (w ∷ ws)) (append_assoc front (members_bytes ws ms) post)
    ∙ ap₂ ◌∷◌ (be_back w m pre rest h)
    (ap₂ (λ (l : List ℕ) (n : ℕ). members_at l n ws) (sym (append_assoc pre front rest)) (sym longer)
    ∙ members_back ws ms fit (pre ++ front) post)

-- taken out and stored again
pub members-of : (l : List ℕ) → Bytes l → (at : ℕ) (ws : List ℕ) → at + sum ws ≤ length l →
    members_bytes ws (members_at l at ws) ≡ take (sum ws) (drop at l)
unfolding members_at members_bytes
members-of l bytes at [] h = refl
members-of l bytes at (w ∷ ws) h =
    ap₂ ◌++◌ (be_of l bytes at w (omega (arith, h)))
    (members-of l bytes (at + w) ws (omega (arith, h)) ∙ ap (take (sum ws)) (sym (drop-drop w at l)))
    ∙ sym (take-add w (sum ws) (drop at l))

-- a record's tag and length are members too
pub record-members : (tag : ℕ) (ws ms : List ℕ) →
    record_of tag (members_bytes ws ms) ≡ members_bytes (1 ∷ 2 ∷ ws) (tag ∷ sum ws ∷ ms)
unfolding record_of members_bytes
record-members tag ws ms =
    append_assoc (be 1 tag) (be 2 (length (members_bytes ws ms))) (members_bytes ws ms)
    ∙ ap (λ (n : ℕ). be 1 tag ++ (be 2 n ++ members_bytes ws ms)) (members-length ws ms)
