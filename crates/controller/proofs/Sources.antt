-- That `set_source_levels` may pass over the sources whose level stays. Assumes nothing.
use Prim.Native.Nat.{ℕ, zero, suc, ◌≤◌}
use mathlib.Core.Path.{◌≡◌, refl, sym, ap, ◌∙◌}
use mathlib.Core.Bool.{Bool, true, false, ◌&&◌, cond}
use native.Mathlib.Omega.{arith}
use lib.Bits.{bit_and, bit_xor}
use Rattle.controller.specs.declared.IrqController.{IrqController}
use Rattle.wide.specs.Bits.{bit}
use Rattle.wide.proofs.Choices.{choose}
use Rattle.controller.specs.Controller.{source_set, masked_source_set, masked_sources_set, source_levels_set}
use Rattle.controller.proofs.Bits.{bit-and, bit-xor}
use Rattle.controller.proofs.Laws.{level_other, steady}

-- ---- the masked sources, in order

-- the sources below n do not change a level from n on
level_ahead : (n : ℕ) (c : IrqController) (mask levels j : ℕ) → n ≤ j
    → bit j (masked_sources_set n c mask levels).levels ≡ bit j c.levels
unfolding masked_sources_set masked_source_set
level_ahead zero c mask levels j h = refl
level_ahead (suc n) c mask levels j h =
    choose (λ (d : IrqController). bit j d.levels ≡ bit j c.levels) (bit n mask)
    (λ _. level_other (masked_sources_set n c mask levels) j n (bit n levels) (λ e. omega arith)
    ∙ level_ahead n c mask levels j (omega arith))
    (λ _. level_ahead n c mask levels j (omega arith))

-- a source whose level stays may be passed over
pass_over : (c : IrqController) (k : ℕ) (differs masked level : Bool)
    → (differs ≡ false → bit k c.levels ≡ (level && masked))
    → cond (differs && masked) (source_set c k (level && masked)) c ≡ cond masked (source_set c k level) c
pass_over c k true true true h = refl
pass_over c k true true false h = refl
pass_over c k false true true h = sym (steady c k true (h refl))
pass_over c k false true false h = sym (steady c k false (h refl))
pass_over c k true false level h = refl
pass_over c k false false level h = refl

changed_below : (n : ℕ) (c : IrqController) (mask levels : ℕ)
    → masked_sources_set n c (bit_and (bit_xor c.levels (bit_and levels mask)) mask) (bit_and levels mask)
    ≡ masked_sources_set n c mask levels
unfolding masked_sources_set masked_source_set
changed_below zero c mask levels = refl
changed_below (suc n) c mask levels =
    let differs = bit_xor c.levels (bit_and levels mask) in
    rw (changed_below n c mask levels, bit-and n differs mask, bit-and n levels mask)
    (pass_over (masked_sources_set n c mask levels) n (bit n differs) (bit n mask) (bit n levels)
    (λ e. level_ahead n c mask levels n (omega arith)
    ∙ bit-xor n c.levels (bit_and levels mask) e
    ∙ bit-and n levels mask))

-- the mask may be that of the sources whose level changes
pub only_changed : (c : IrqController) (mask levels : ℕ)
    → source_levels_set c (bit_and (bit_xor c.levels (bit_and levels mask)) mask) (bit_and levels mask)
    ≡ source_levels_set c mask levels
unfolding source_levels_set
only_changed = changed_below 16

empty_mask : (c : IrqController) (levels : ℕ) → c ≡ source_levels_set c 0 levels
unfolding source_levels_set masked_sources_set masked_source_set
empty_mask c levels = refl

pub none_changed : (c : IrqController) (mask levels : ℕ)
    → bit_and (bit_xor c.levels (bit_and levels mask)) mask ≡ 0 → c ≡ source_levels_set c mask levels
none_changed c mask levels e =
    empty_mask c (bit_and levels mask)
    ∙ ap (λ (changed : ℕ). source_levels_set c changed (bit_and levels mask)) (sym e)
    ∙ only_changed c mask levels
