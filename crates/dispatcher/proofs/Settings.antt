-- Turns of the dispatcher computed by its rule. Assumes nothing.
use mathlib.Core.Path.{◌≡◌, refl}
use mathlib.Core.Bool.{true, false}
use mathlib.Core.List.{List, [], ◌∷◌, map}
use lib.ListN.{replicate}
use Prim.Native.Nat.{ℕ}
use Rattle.controller.specs.declared.IrqController.{IrqController}
use Rattle.controller.specs.Bits.{without}
use Rattle.controller.specs.Controller.{pending_cleared}
use Rattle.controller.proofs.Lowest.{source, none}
use Rattle.dispatcher.specs.declared.Dispatched.{Dispatched}
use Rattle.dispatcher.specs.Dispatcher.{fresh_number, first_from, next_after, turn, dispatched}
use Rattle.dispatcher.specs.Dispatcher.{turns, served_in}

abbrev words : ℕ → ℕ → IrqController
words p e = record { pending = p; enable = e; levels = 0x1234 }

-- a turn that served source k, and one that served none
abbrev serving : ℕ → IrqController → Dispatched
serving k c = record { controller = c; served = source k; remembered = record { 0 = k } }

abbrev idle : ℕ → IrqController → Dispatched
idle last c = record { controller = c; served = none; remembered = record { 0 = last } }

-- sources 0 and 9 pending and enabled: 0 first of a fresh dispatcher, then 9 though 0 rose again, then 0
rows : (dispatched (words 0x0201 0x0201) fresh_number ≡ serving 0 (words 0x0200 0x0201))
    × (dispatched (words 0x0201 0x0201) 0 ≡ serving 9 (words 0x0001 0x0201))
    × (dispatched (words 0x0201 0x0201) 9 ≡ serving 0 (words 0x0200 0x0201))
    -- the remembered source comes last, and is served where no other waits
    × (dispatched (words 0x0300 0x0300) 9 ≡ serving 8 (words 0x0200 0x0300))
    × (dispatched (words 0x0200 0x0300) 9 ≡ serving 9 (words 0x0000 0x0300))
    -- a source that is pending and not enabled is passed over
    × (dispatched (words 0x0600 0x0400) 8 ≡ serving 10 (words 0x0200 0x0400))
    -- 15 comes after 14; a number above 15 is read as 15, and stays so where none is enabled and pending
    × (dispatched (words 0x8001 0xffff) 14 ≡ serving 15 (words 0x0001 0xffff))
    × (dispatched (words 0x8001 0xffff) 16 ≡ serving 0 (words 0x8000 0xffff))
    × (dispatched (words 0x00ff 0xff00) 255 ≡ idle 15 (words 0x00ff 0xff00))
    × (dispatched (words 0x00ff 0xff00) 7 ≡ idle 7 (words 0x00ff 0xff00))
unfolding dispatched turn next_after first_from pending_cleared without
rows = (refl, refl, refl, refl, refl, refl, refl, refl, refl, refl)

-- every source enabled, and pending again at each turn
abbrev all : ℕ → List IrqController
all n = replicate n (words 0xffff 0xffff)

-- sixteen is the least: after a turn that served source 9, it is served again at the sixteenth turn, and not before
sixteenth : (map (λ (t : Dispatched). t.served.number.0) (turns (all 16) 9)
    ≡ 10 ∷ 11 ∷ 12 ∷ 13 ∷ 14 ∷ 15 ∷ 0 ∷ 1 ∷ 2 ∷ 3 ∷ 4 ∷ 5 ∷ 6 ∷ 7 ∷ 8 ∷ 9 ∷ [])
    × (served_in 9 (turns (all 15) 9) ≡ false)
    × (served_in 9 (turns (all 16) 9) ≡ true)
unfolding served_in turns dispatched turn next_after first_from pending_cleared without
sixteenth = (refl, refl, refl)

-- and so of every source: fifteen turns are not enough for source k after number k
fifteen : map (λ (k : ℕ). served_in k (turns (all 15) k))
    (0 ∷ 1 ∷ 2 ∷ 3 ∷ 4 ∷ 5 ∷ 6 ∷ 7 ∷ 8 ∷ 9 ∷ 10 ∷ 11 ∷ 12 ∷ 13 ∷ 14 ∷ 15 ∷ []) ≡ replicate 16 false
unfolding served_in turns dispatched turn next_after first_from pending_cleared without
fifteen = refl
