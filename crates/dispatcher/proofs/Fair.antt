-- The theorem of S-3: 'A source that stays enabled and pending is served within 16 turns, each given the remembered
-- number that the turn before left, however the other sources behave between them.' Assumes nothing.
use Prim.Native.Nat.{ℕ, suc, ◌+◌, ◌-◌, ◌%◌, ◌≤◌, ◌<◌}
use mathlib.Core.Path.{◌≡◌, refl, sym, ap, ◌∙◌}
use mathlib.Core.Bool.{true, ◌||◌, or-true}
use mathlib.Core.List.{List, [], ◌∷◌}
use lib.ListN.{length}
use native.Mathlib.Omega.{arith}
use borrow.Author.Tests.{eqb-false}
use lib.Dec.{eqb}
use Rattle.wide.proofs.Choices.{either, and_parts}
use Rattle.controller.specs.declared.IrqController.{IrqController}
use Rattle.dispatcher.specs.Dispatcher.{number_read, enabled_pending, next_after, dispatched}
use Rattle.dispatcher.specs.Dispatcher.{turns, serves, served_in, stays, stays_until_served}
use Rattle.dispatcher.proofs.Next.{Found, next_found}
use Rattle.dispatcher.proofs.Turn.{turned_source}

-- d + 1 places on from the one at place p
further : (n p d : ℕ) → (suc n + (p + suc d)) % 16 ≡ (suc ((suc n + p) % 16) + d) % 16
further n p d = omega arith

-- source j, at place p behind n, is not source k, at place m and no nearer: then k is at a nearer place behind j
nearer : (n m k p j : ℕ) → p ≤ m → j ≡ (suc n + p) % 16 → k ≡ (suc n + m) % 16 → (j ≡ k → ⊥)
    → (m - suc p < m) × (k ≡ (suc (number_read j) + (m - suc p)) % 16)
nearer n m k p j l e f d =
    let less : p < m = omega (arith, l, e, f, d) in
    let rest : m ≡ p + suc (m - suc p) = omega (arith, less) in
    let read : number_read j ≡ j = omega (arith, e) in (
      omega (arith, less),
      f ∙ ap (λ (x : ℕ). (suc n + x) % 16) rest ∙ further n p (m - suc p)
          ∙ ap (λ (x : ℕ). (suc x + (m - suc p)) % 16) (sym (read ∙ e)),
    )

-- one turn serves source k, or leaves it at a nearer place behind the number that it remembers
one_turn : (c : IrqController) (cs : List IrqController) (last m k : ℕ)
    → Found c (next_after (number_read last) c) (suc (number_read last)) m → k ≡ (suc (number_read last) + m) % 16
    → (serves k (dispatched c last) || stays_until_served k cs (dispatched c last).remembered.0) ≡ true
    → ((j p : ℕ) → p < m → k ≡ (suc (number_read j) + p) % 16 → stays_until_served k cs j ≡ true
    → served_in k (turns cs j) ≡ true)
    → served_in k (turns (c ∷ cs) last) ≡ true
unfolding turns served_in
one_turn c cs last m k r e s rest =
    let j : ℕ = (suc (number_read last) + r.place) % 16 in
    let t = turned_source c last j r.found in
    rw (t.0, t.1)
    (either (eqb j k) (λ q. rw q refl)
    (λ q. let near = nearer (number_read last) m k r.place j r.early refl e (eqb-false j k q) in
    rw q (rest j (m - suc r.place) near.0 near.1 (rw (t.0, t.1, q) at s))))

-- source k, at place m behind the remembered number, is served within m + 1 turns
within : (cs : List IrqController) (last m k : ℕ) → m < length cs → m < 16 → k ≡ (suc (number_read last) + m) % 16
    → stays_until_served k cs last ≡ true → served_in k (turns cs last) ≡ true
unfolding stays_until_served
within [] last m k h i e s = absurd (omega arith)
within (c ∷ cs) last m k h i e s =
    let each = and_parts (enabled_pending k c) _ s in
    one_turn c cs last m k
    (next_found (number_read last) m c i (ap (λ (x : ℕ). enabled_pending x c) (sym e) ∙ each.0)) e each.1
    (λ j p l f u. within cs j p k (omega (arith, h, l)) (omega (arith, i, l)) f u)

-- of any sixteen turns, one serves a source that is enabled and pending at each until it is served
pub served_within : (k last : ℕ) (cs : List IrqController) → k < 16 → length cs ≡ 16
    → stays_until_served k cs last ≡ true → served_in k (turns cs last) ≡ true
served_within k last cs h e s =
    within cs last ((k + 15 - number_read last) % 16) k (omega (arith, e)) (omega arith) (omega (arith, h)) s

-- a source that stays so at every turn stays so until it is served
until : (k : ℕ) (cs : List IrqController) (last : ℕ) → stays k cs ≡ true → stays_until_served k cs last ≡ true
unfolding stays stays_until_served
until k [] last s = refl
until k (c ∷ cs) last s =
    let each = and_parts (enabled_pending k c) (stays k cs) s in
    rw (each.0, until k cs (dispatched c last).remembered.0 each.1) (or-true (serves k (dispatched c last)))

-- the theorem: of any sixteen turns, each given a controller in which source k is enabled and pending, one serves it
pub fair_turns : (k last : ℕ) (cs : List IrqController) → k < 16 → length cs ≡ 16 → stays k cs ≡ true
    → served_in k (turns cs last) ≡ true
fair_turns k last cs h e s = served_within k last cs h e (until k cs last s)
