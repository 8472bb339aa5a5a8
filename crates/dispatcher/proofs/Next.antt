-- The next enabled pending source, going round: where it is found, and that it is the lowest above the remembered
-- number, or the lowest of all where there is none above. Assumes nothing.
use Prim.Native.Nat.{ℕ, zero, suc, ◌+◌, ◌-◌, ◌/◌, ◌%◌, ◌^◌, ◌≤◌, ◌<◌}
use mathlib.Core.Path.{◌≡◌, refl, sym, ap, ap₂, ◌∙◌}
use mathlib.Core.Bool.{Bool, true, false, not, ◌&&◌, and-true, and-false, false≢true}
use native.Mathlib.Nat.{add-zero, pow-suc, div-eq_of_lt, lt_of_lt_of_le}
use native.Mathlib.Omega.{arith}
use borrow.Author.Tests.{eq-eqb, ltb-true, ltb-false, leb-true, leb-false}
use lib.Dec.{eqb, ltb, leb}
use lib.Pow.{pow_pos, pow_mono, ones_lt, ones_split, high}
use Rattle.wide.specs.Bits.{bit}
use Rattle.wide.proofs.Choices.{choose, either}
use Rattle.controller.specs.declared.IrqController.{IrqController}
use Rattle.controller.specs.declared.IrqOutput.{IrqOutput}
use Rattle.controller.specs.Controller.{pending_cleared, output_of}
use Rattle.controller.proofs.Laws.{IsLowest, output_one, output_none, output_zero, pending-cleared, cleared_enable}
use Rattle.controller.proofs.Lowest.{source, none}
use Rattle.dispatcher.specs.Dispatcher.{following, enabled_pending, first_from, next_after}

-- ---- going round: the candidates from k on are (k + i) % 16, for i from 0 on

follows : (k : ℕ) → following (k % 16) ≡ suc k % 16
follows k = omega arith

shift : (k i : ℕ) → suc k + i ≡ k + suc i
shift k i = omega arith

-- an output found among the candidates from k on: the source at this place, which is m at the latest
pub record Found (c : IrqController) (o : IrqOutput) (k m : ℕ) : Type 0 where
  pub place : ℕ
  pub early : place ≤ m
  pub waits : enabled_pending ((k + place) % 16) c ≡ true
  pub found : o ≡ source ((k + place) % 16)

first_at : (n k m : ℕ) (c : IrqController) → enabled_pending (k % 16) c ≡ true
    → Found c (first_from (suc n) (k % 16) c) k m
unfolding first_from
first_at n k m c a =
    record { place = 0; early = omega arith; waits = rw (add-zero k) a; found = rw (a, add-zero k) refl }

-- where the candidate at place m is enabled and pending, one is found
first_found : (n k m : ℕ) (c : IrqController) → m < n → enabled_pending ((k + m) % 16) c ≡ true
    → Found c (first_from n (k % 16) c) k m
unfolding first_from
first_found zero k m c h e = absurd (omega arith)
first_found (suc n) k zero c h e = first_at n k zero c (rw (add-zero k) at e)
first_found (suc n) k (suc m) c h e =
    either (enabled_pending (k % 16) c) (λ a. first_at n k (suc m) c a)
    (λ a. let r = first_found n (suc k) m c (omega arith) (rw (← shift k m) at e) in
    record {
      place = suc r.place;
      early = omega (arith, r.early);
      waits = rw (← shift k r.place) r.waits;
      found = rw (a, follows k, ← shift k r.place) r.found;
    })

pub next_found : (last m : ℕ) (c : IrqController) → m < 16 → enabled_pending ((suc last + m) % 16) c ≡ true
    → Found c (next_after last c) (suc last) m
unfolding next_after
next_found last m c h e = first_found 16 (suc last) m c h e

-- it is the source at place m, where none ahead of that one is enabled and pending
next_is : (last m : ℕ) (c : IrqController) → m < 16 → enabled_pending ((suc last + m) % 16) c ≡ true
    → ((i : ℕ) → i < m → enabled_pending ((suc last + i) % 16) c ≡ false)
    → source ((suc last + m) % 16) ≡ next_after last c
next_is last m c h e f =
    let r = next_found last m c h e in
    either (ltb r.place m)
    (λ l. absurd (false≢true (sym (f r.place (ltb-true r.place m l)) ∙ r.waits)))
    (λ l. let same : r.place ≡ m = omega (arith, r.early, ltb-false r.place m l) in
    sym (r.found ∙ ap (λ (p : ℕ). source ((suc last + p) % 16)) same))

-- where none is enabled and pending, none is found
none_found : (n k : ℕ) (c : IrqController) → ((j : ℕ) → j < 16 → enabled_pending j c ≡ false) → k < 16
    → none ≡ first_from n k c
unfolding first_from
none_found zero k c f h = refl
none_found (suc n) k c f h = rw (f k h) (none_found n (following k) c f (omega arith))

next_none : (last : ℕ) (c : IrqController) → ((j : ℕ) → j < 16 → enabled_pending j c ≡ false) → none ≡ next_after last c
unfolding next_after
next_none last c f = none_found 16 (following last) c f (omega arith)

-- the number is below 16
first_below : (n k : ℕ) (c : IrqController) → k < 16 → (first_from n k c).number.0 < 16
unfolding first_from
first_below zero k c h = omega arith
first_below (suc n) k c h =
    choose (λ (o : IrqOutput). o.number.0 < 16) (enabled_pending k c) (λ _. h)
    (λ _. first_below n (following k) c (omega arith))

pub next_below : (last : ℕ) (c : IrqController) → (next_after last c).number.0 < 16
unfolding next_after
next_below last c = first_below 16 (following last) c (omega arith)

-- ---- the mask of the sources up to a number

ones_shr : (w k : ℕ) → k ≤ w → (2 ^ w - 1) / 2 ^ k ≡ 2 ^ (w - k) - 1
ones_shr w k h =
    let whole : w - k + k ≡ w = omega (arith, h) in
    ap (λ (x : ℕ). (2 ^ x - 1) / 2 ^ k) (sym whole)
    ∙ ap (λ (x : ℕ). x / 2 ^ k) (ones_split (w - k) k)
    ∙ high (2 ^ (w - k) - 1) k (ones_lt k)

ones_bit : (w k : ℕ) → k < w → bit k (2 ^ w - 1) ≡ true
ones_bit w k h =
    let one : w - k ≡ suc (w - k - 1) = omega (arith, h) in
    eq-eqb ((2 ^ w - 1) / 2 ^ k % 2) 1
    (ap (λ (x : ℕ). x % 2) (ones_shr w k (omega (arith, h)) ∙ ap (λ (x : ℕ). 2 ^ x - 1) one)
    ∙ omega (arith, pow-suc 2 (w - k - 1), pow_pos (w - k - 1)))

no_bit : (w k : ℕ) → w ≤ k → bit k (2 ^ w - 1) ≡ false
no_bit w k h = ap (λ (x : ℕ). eqb (x % 2) 1) (div-eq_of_lt (lt_of_lt_of_le (ones_lt w) (pow_mono h)))

-- `0xFFFF >> (15 - last)`
up_to : (last : ℕ) → last < 16 → 65535 / 2 ^ (15 - last) ≡ 2 ^ suc last - 1
up_to last h =
    let rest : 16 - (15 - last) ≡ suc last = omega (arith, h) in
    ones_shr 16 (15 - last) (omega arith) ∙ ap (λ (x : ℕ). 2 ^ x - 1) rest

module _ (c : IrqController) (last : ℕ) (h : last < 16) where
  -- the controller without the pending bits of the sources up to `last`
  abbrev pub above : IrqController
  above = pending_cleared c (65535 / 2 ^ (15 - last))

  above-bit : (j : ℕ) → j < 16 → bit j above.pending ≡ (bit j c.pending && not (bit j (2 ^ suc last - 1)))
  above-bit j i = rw (← up_to last h) (pending-cleared c (65535 / 2 ^ (15 - last)) j i)

  -- a source up to `last` is not pending there, and one above it is as it was
  gone : (j : ℕ) → j ≤ last → enabled_pending j above ≡ false
  gone j i =
      rw (above-bit j (omega arith), ones_bit (suc last) j (omega arith), and-false (bit j c.pending)) refl

  kept : (j : ℕ) → last < j → j < 16 → enabled_pending j above ≡ enabled_pending j c
  kept j i k =
      ap₂ (λ (x y : Bool). x && y)
      (above-bit j k ∙ ap (λ (x : Bool). bit j c.pending && not x) (no_bit (suc last) j i)
      ∙ and-true (bit j c.pending))
      (ap (bit j) (cleared_enable c (65535 / 2 ^ (15 - last))))

  -- where one above `last` is enabled and pending, the lowest of these is next
  first_above : (s : ℕ) → IsLowest above 16 0 s → source s ≡ next_after last c
  first_above s l =
      let higher : last < s =
      either (leb s last) (λ t. absurd (false≢true (sym (gone s (leb-true s last t)) ∙ l.found)))
      (λ t. leb-false s last t) in
      let place : (suc last + (s - suc last)) % 16 ≡ s = omega (arith, higher, l.below, h) in
      ap source (sym place)
      ∙ next_is last (s - suc last) c (omega (arith, l.below))
      (rw place (sym (kept s higher l.below) ∙ l.found))
      (λ i p. let one : (suc last + i) % 16 ≡ suc last + i = omega (arith, p, higher, l.below, h) in
      rw one
      (sym (kept (suc last + i) (omega arith) (omega (arith, p, l.below)))
      ∙ l.first (suc last + i) (omega arith) (omega (arith, p))))

  -- where none above it is, the lowest of all is next
  first-of-all : ((j : ℕ) → last < j → j < 16 → enabled_pending j c ≡ false)
      → (s : ℕ) → IsLowest c 16 0 s → source s ≡ next_after last c
  first-of-all free s l =
      let low : s ≤ last =
      either (ltb last s) (λ t. absurd (false≢true (sym (free s (ltb-true last s t) l.below) ∙ l.found)))
      (λ t. ltb-false last s t) in
      let place : (suc last + (s + 15 - last)) % 16 ≡ s = omega (arith, low, h) in
      ap source (sym place)
      ∙ next_is last (s + 15 - last) c (omega (arith, low, h)) (rw place l.found)
      (λ i p. let j : ℕ = (suc last + i) % 16 in
      either (ltb last j) (λ t. free j (ltb-true last j t) (omega arith))
      (λ t. l.first j (omega arith) (omega (arith, p, low, h, ltb-false last j t))))

  -- an output that presents a source is that source's
  whole : (o : IrqOutput) → o.valid ≡ true → o ≡ source o.number.0
  whole o e = ap (λ (v : Bool). record { valid = v; number = o.number }) e

  -- what the code finds: d is the controller without these pending bits, and r its output
  module _ (d : IrqController) (r : IrqOutput) (e : d ≡ above) (f : r ≡ output_of d) where
    its : r ≡ output_of above
    its = f ∙ ap output_of e

    pub next-above : r.valid ≡ true → r ≡ next_after last c
    next-above v =
        let t : (output_of above).valid ≡ true = rw its at v in
        its ∙ whole (output_of above) t ∙ first_above (output_of above).number.0 (output_one above t)

    pub next-round : (q : IrqOutput) → r.valid ≡ false → q ≡ output_of c → q ≡ next_after last c
    next-round q v g =
        let free : (j : ℕ) → last < j → j < 16 → enabled_pending j c ≡ false =
        λ j a b. sym (kept j a b) ∙ output_none above (rw its at v) j b in
        g
        ∙ either (output_of c).valid
        (λ t. whole (output_of c) t ∙ first-of-all free (output_of c).number.0 (output_one c t))
        (λ t. output_zero c t ∙ next_none last c (output_none c t))
