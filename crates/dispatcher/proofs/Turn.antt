-- What a turn changes and what it leaves. Assumes nothing.
use Prim.Native.Nat.{ℕ, ◌%◌, ◌^◌, ◌<◌}
use mathlib.Core.Path.{◌≡◌, refl, sym, ap, ◌∙◌}
use mathlib.Core.Bool.{Bool, true, not, ◌&&◌, and-true}
use native.Mathlib.Nat.{zero-div}
use native.Mathlib.Omega.{arith}
use borrow.Author.Tests.{eqb-true, eqb-false}
use lib.Dec.{eqb}
use Rattle.wide.specs.Bits.{bit}
use Rattle.wide.proofs.Choices.{choose, either}
use Rattle.controller.specs.declared.IrqController.{IrqController}
use Rattle.controller.specs.declared.IrqOutput.{IrqOutput}
use Rattle.controller.specs.Bits.{with_bit}
use Rattle.controller.proofs.Bits.{shifted, bit_same, bit_other}
use Rattle.controller.proofs.Laws.{pending-cleared, cleared_enable, cleared_levels}
use Rattle.controller.proofs.Lowest.{source}
use Rattle.dispatcher.specs.declared.Dispatched.{Dispatched}
use Rattle.dispatcher.proofs.Next.{next_below}
use Rattle.dispatcher.specs.Dispatcher.{number_read, next_after, turn, dispatched, serves}

-- a turn of the number as it is read, and of the next source
pub dispatched_is : (c : IrqController) (last : ℕ)
    → dispatched c last ≡ turn c (number_read last) (next_after (number_read last) c)
unfolding dispatched
dispatched_is c last = refl

-- what `dispatch` needs of them
pub ruleset turn_laws = (dispatched_is, next_below, shifted)

-- the turn serves the next source, and remembers it
pub turned_source : (c : IrqController) (last k : ℕ) → next_after (number_read last) c ≡ source k
    → ((dispatched c last).served ≡ source k) × ((dispatched c last).remembered.0 ≡ k)
unfolding dispatched turn
turned_source c last k e = rw e (refl, refl)

-- bit j of the number that has bit k alone
one_bit : (j k : ℕ) → bit j (2 ^ k) ≡ eqb k j
unfolding with_bit
one_bit j k =
    let alone : with_bit k true 0 ≡ 2 ^ k = rw (zero-div (2 ^ k)) (omega arith) in
    either (eqb k j)
    (λ q. rw (q, ← alone, eqb-true k j q) (bit_same j true 0))
    (λ q. rw (q, ← alone) (bit_other j k true 0 (λ e. eqb-false k j q (sym e))
    ∙ ap (λ (x : ℕ). eqb (x % 2) 1) (zero-div (2 ^ j))))

-- of the pending bits, that of the source served is cleared, and the others stay
pub turned_pending : (c : IrqController) (last j : ℕ) → j < 16
    → bit j (dispatched c last).controller.pending ≡ (bit j c.pending && not (serves j (dispatched c last)))
unfolding dispatched turn
turned_pending c last j h =
    let o : IrqOutput = next_after (number_read last) c in
    either o.valid
    (λ v. rw v (pending-cleared c (2 ^ o.number.0) j h
    ∙ ap (λ (x : Bool). bit j c.pending && not x) (one_bit j o.number.0)))
    (λ v. rw v (sym (and-true (bit j c.pending))))

-- enable and levels stay
pub turned_enable : (c : IrqController) (last : ℕ) → (dispatched c last).controller.enable ≡ c.enable
unfolding dispatched turn
turned_enable c last =
    choose (λ (t : Dispatched). t.controller.enable ≡ c.enable) (next_after (number_read last) c).valid
    (λ _. cleared_enable c (2 ^ (next_after (number_read last) c).number.0)) (λ _. refl)

pub turned_levels : (c : IrqController) (last : ℕ) → (dispatched c last).controller.levels ≡ c.levels
unfolding dispatched turn
turned_levels c last =
    choose (λ (t : Dispatched). t.controller.levels ≡ c.levels) (next_after (number_read last) c).valid
    (λ _. cleared_levels c (2 ^ (next_after (number_read last) c).number.0)) (λ _. refl)
