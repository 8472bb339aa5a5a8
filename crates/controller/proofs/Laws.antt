-- Laws for callers: what setting a source, clearing pending bits and writing a register change, and what they leave;
-- and what the output says. Assumes nothing.
use Prim.Native.Nat.{ℕ, zero, suc, ◌+◌, ◌*◌, ◌≤◌, ◌<◌}
use mathlib.Core.Path.{◌≡◌, refl}
use mathlib.Core.Bool.{Bool, true, false, not, ◌&&◌, ◌||◌, cond, and-not_self, true≢false, false≢true}
use native.Mathlib.Omega.{arith}
use borrow.Author.Tests.{lt-ltb, eqb-true, eqb-false}
use lib.Dec.{ltb, eqb}
use Rattle.controller.specs.declared.IrqController.{IrqController}
use Rattle.controller.specs.declared.IrqOutput.{IrqOutput}
use Rattle.wide.specs.Bits.{bit}
use Rattle.wide.proofs.Choices.{choose, either}
use Rattle.controller.specs.Bits.{with_bit}
use Rattle.controller.specs.Controller.{source_set, pending_cleared, controller_written, lowest_from, output_of}
use Rattle.controller.proofs.Bits.{bit_same, bit_other, bit_kept, bit-without}
use Rattle.controller.proofs.Lowest.{none}

-- ---- setting source k

-- its level is the one that was set
pub level_set : (c : IrqController) (k : ℕ) (level : Bool) → k < 16 → bit k (source_set c k level).levels ≡ level
unfolding source_set
level_set c k level h = rw (lt-ltb k 16 h) (bit_same k level c.levels)

-- no other level changes
pub level_other : (c : IrqController) (j k : ℕ) (level : Bool) → (j ≡ k → ⊥)
    → bit j (source_set c k level).levels ≡ bit j c.levels
unfolding source_set
level_other c j k level h =
    choose (λ (d : IrqController). bit j d.levels ≡ bit j c.levels) (ltb k 16)
    (λ _. bit_other j k level c.levels h) (λ _. refl)

latched : (k p : ℕ) (rise : Bool) → bit k (cond rise (with_bit k true p) p) ≡ (rise || bit k p)
latched k p true = bit_same k true p
latched k p false = refl

-- it is pending if its level rose, or if it was pending
pub pending_set : (c : IrqController) (k : ℕ) (level : Bool) → k < 16
    → bit k (source_set c k level).pending ≡ ((level && not (bit k c.levels)) || bit k c.pending)
unfolding source_set
pending_set c k level h = rw (lt-ltb k 16 h) (latched k c.pending (level && not (bit k c.levels)))

-- no other pending bit changes
pub pending_other : (c : IrqController) (j k : ℕ) (level : Bool) → (j ≡ k → ⊥)
    → bit j (source_set c k level).pending ≡ bit j c.pending
unfolding source_set
pending_other c j k level h =
    choose (λ (d : IrqController). bit j d.pending ≡ bit j c.pending) (ltb k 16)
    (λ _. choose (λ (p : ℕ). bit j p ≡ bit j c.pending) (level && not (bit k c.levels))
    (λ _. bit_other j k true c.pending h) (λ _. refl))
    (λ _. refl)

pub enable_kept : (c : IrqController) (k : ℕ) (level : Bool) → (source_set c k level).enable ≡ c.enable
unfolding source_set
enable_kept c k level = choose (λ (d : IrqController). d.enable ≡ c.enable) (ltb k 16) (λ _. refl) (λ _. refl)

-- a steady level changes nothing
pub steady : (c : IrqController) (k : ℕ) (level : Bool) → bit k c.levels ≡ level → source_set c k level ≡ c
unfolding source_set
steady c k level e =
    rw (← e)
    (choose (λ (d : IrqController). d ≡ c) (ltb k 16)
    (λ _. rw (and-not_self (bit k c.levels), bit_kept k c.levels)) (λ _. refl))

-- ---- clearing pending bits, and writing a register

-- a pending bit stays where the mask does not have it
pub pending-cleared : (c : IrqController) (mask j : ℕ) → j < 16
    → bit j (pending_cleared c mask).pending ≡ (bit j c.pending && not (bit j mask))
unfolding pending_cleared
pending-cleared c mask j h = bit-without 16 j c.pending mask h

pub cleared_enable : (c : IrqController) (mask : ℕ) → (pending_cleared c mask).enable ≡ c.enable
unfolding pending_cleared
cleared_enable c mask = refl

pub cleared_levels : (c : IrqController) (mask : ℕ) → (pending_cleared c mask).levels ≡ c.levels
unfolding pending_cleared
cleared_levels c mask = refl

pub written_levels : (c : IrqController) (address value : ℕ) → (controller_written c address value).levels ≡ c.levels
unfolding controller_written
written_levels c address value =
    choose same (eqb address 0) (λ _. cleared_levels c (value * 256))
    (λ _. choose same (eqb address 1) (λ _. cleared_levels c value)
    (λ _. choose same (eqb address 4) (λ _. refl) (λ _. choose same (eqb address 5) (λ _. refl) (λ _. refl))))
  where
    same : IrqController → Type 0
    same d = d.levels ≡ c.levels

-- ---- the output

-- of the n sources from k on: source s is one of them, it is enabled and pending, and none below it is
pub record IsLowest (c : IrqController) (n k s : ℕ) : Type 0 where
  pub from : k ≤ s
  pub below : s < k + n
  pub found : (bit s c.pending && bit s c.enable) ≡ true
  pub first : (j : ℕ) → k ≤ j → j < s → (bit j c.pending && bit j c.enable) ≡ false

found_from : (n k : ℕ) (c : IrqController) → (lowest_from n k c).valid ≡ true
    → IsLowest c n k (lowest_from n k c).number.0
unfolding lowest_from
found_from zero k c e = absurd (false≢true e)
found_from (suc n) k c e =
    choose (λ (o : IrqOutput). o.valid ≡ true → IsLowest c (suc n) k o.number.0)
    (bit k c.pending && bit k c.enable)
    (λ a _. record { from = omega arith; below = omega arith; found = a; first = λ j h i. absurd (omega arith) })
    (λ a f. let r = found_from n (suc k) c f in
    record {
      from = omega (arith, r.from);
      below = omega (arith, r.below);
      found = r.found;
      first = λ j h i. either (eqb j k) (λ q. rw (eqb-true j k q) a)
          (λ q. r.first j (omega (arith, h, eqb-false j k q)) i);
    }) e

none_from : (n k : ℕ) (c : IrqController) → (lowest_from n k c).valid ≡ false
    → (lowest_from n k c ≡ none)
    × ((j : ℕ) → k ≤ j → j < k + n → (bit j c.pending && bit j c.enable) ≡ false)
unfolding lowest_from
none_from zero k c e = (refl, λ j h i. absurd (omega arith))
none_from (suc n) k c e =
    choose
    (λ (o : IrqOutput). o.valid ≡ false → (o ≡ none)
    × ((j : ℕ) → k ≤ j → j < k + suc n → (bit j c.pending && bit j c.enable) ≡ false))
    (bit k c.pending && bit k c.enable) (λ a f. absurd (true≢false f))
    (λ a f. let r = none_from n (suc k) c f in (
      r.0,
      λ j h i. either (eqb j k) (λ q. rw (eqb-true j k q) a)
          (λ q. r.1 j (omega (arith, h, eqb-false j k q)) (omega (arith, i))),
    )) e

-- a source that the output presents is the lowest
pub output_one : (c : IrqController) → (output_of c).valid ≡ true → IsLowest c 16 0 (output_of c).number.0
unfolding output_of
output_one c = found_from 16 0 c

-- where it presents none, none is enabled and pending
pub output_none : (c : IrqController) → (output_of c).valid ≡ false
    → (j : ℕ) → j < 16 → (bit j c.pending && bit j c.enable) ≡ false
unfolding output_of
output_none c e j = (none_from 16 0 c e).1 j (omega arith)

-- and its number is 0
pub output_zero : (c : IrqController) → (output_of c).valid ≡ false → output_of c ≡ none
unfolding output_of
output_zero c e = (none_from 16 0 c e).0
