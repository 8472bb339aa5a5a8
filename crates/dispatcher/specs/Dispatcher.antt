-- The rule of S-3, 'Fair turns': one turn of the dispatcher above the controller, and a sequence of turns.
use Rattle.std.specs.Prelude.{ℕ, zero, suc, ◌%◌, ◌^◌, min, Bool, true, false, ◌&&◌, ◌||◌, cond, List, [], ◌∷◌, eqb}
use Rattle.wide.specs.Bits.{bit}
use Rattle.controller.specs.declared.IrqController.{IrqController}
use Rattle.controller.specs.declared.IrqOutput.{IrqOutput}
use Rattle.controller.specs.Controller.{pending_cleared}
use Rattle.dispatcher.specs.declared.Dispatched.{Dispatched}

-- 'It remembers the last number served, 15 when fresh'
abbrev pub fresh_number : ℕ
fresh_number = 15

-- 'A remembered number above 15 is read as 15.'
abbrev pub number_read : ℕ → ℕ
number_read last = min last 15

-- the number after k, 'going round': 0 follows 15
abbrev pub following : ℕ → ℕ
following k = suc k % 16

-- source k is enabled and pending
abbrev pub enabled_pending : ℕ → IrqController → Bool
enabled_pending k c = bit k c.pending && bit k c.enable

-- the first enabled pending source of the n from k on, going round; none is false and 0, as in `irq_output`
unfoldable pub first_from : ℕ → ℕ → IrqController → IrqOutput
first_from zero k c = record { valid = false; number = record { 0 = 0 } }
first_from (suc n) k c =
    cond (enabled_pending k c)
    (record { valid = true; number = record { 0 = k } })
    (first_from n (following k) c)

-- 'the next enabled pending source after it, going round': of all sixteen, that number itself comes last
unfoldable pub next_after : ℕ → IrqController → IrqOutput
next_after last = first_from 16 (following last)

-- 'It clears that pending bit and says the number, or that no enabled one is pending; then the remembered number, read
-- so, stays.': `last` is the number as it is read, `next` the next source
unfoldable pub turn : IrqController → ℕ → IrqOutput → Dispatched
turn c last next =
    cond next.valid
    (record { controller = pending_cleared c (2 ^ next.number.0); served = next; remembered = next.number })
    (record { controller = c; served = next; remembered = record { 0 = last } })

-- one turn, of a controller and the remembered number
unfoldable pub dispatched : IrqController → ℕ → Dispatched
dispatched c last = turn c (number_read last) (next_after (number_read last) c)

-- ---- a sequence of turns

-- a turn for each controller, 'each given the remembered number that the turn before left'
unfoldable pub turns : List IrqController → ℕ → List Dispatched
turns [] last = []
turns (c ∷ cs) last = dispatched c last ∷ turns cs (dispatched c last).remembered.0

-- the turn served source k
abbrev pub serves : ℕ → Dispatched → Bool
serves k t = t.served.valid && eqb t.served.number.0 k

-- one of the turns served source k
unfoldable pub served_in : ℕ → List Dispatched → Bool
served_in k [] = false
served_in k (t ∷ ts) = serves k t || served_in k ts

-- 'A source that stays enabled and pending': source k is so in each of the controllers
unfoldable pub stays : ℕ → List IrqController → Bool
stays k [] = true
stays k (c ∷ cs) = enabled_pending k c && stays k cs

-- the same until a turn has served it, which clears its pending bit
unfoldable pub stays_until_served : ℕ → List IrqController → ℕ → Bool
stays_until_served k [] last = true
stays_until_served k (c ∷ cs) last =
    enabled_pending k c
    && (serves k (dispatched c last) || stays_until_served k cs (dispatched c last).remembered.0)
