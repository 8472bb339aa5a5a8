-- Document 01, 'Ticks reach the channel'.
use Rattle.std.specs.Prelude.{ℕ, zero, suc, ◌+◌, ◌-◌, ◌*◌, ◌/◌, ◌%◌, ◌^◌, min, true, false, cond, ◌&&◌, ◌==◌, nat_le}
use Rattle.std.specs.Prelude.{nat_lt}
use Rattle.wide.specs.Number.{largest}
use Rattle.channel.specs.declared.HardwareTimer.{HardwareTimer}
use Rattle.channel.specs.Channel.{mode_of, with_counter, with_compare, with_flags, set_pending, clear_enable}

-- 'Mode 0: if compare ≤ counter, set pending and clear enable, counter unchanged; else if compare − counter ≤ t,
-- also counter = compare; else counter + t.'
unfoldable pub one_shot : ℕ → HardwareTimer → HardwareTimer
one_shot t h =
    cond (nat_le h.compare h.counter)
    (clear_enable (set_pending h))
    (cond (nat_le (h.compare - h.counter) t)
    (clear_enable (set_pending (with_counter h.compare h)))
    (with_counter (h.counter + t) h))

-- 'floor((counter − compare) / reload) + 1': the points compare, compare + reload, .. up to the counter, counted
abbrev pub points_to : ℕ → ℕ → ℕ → ℕ
points_to counter compare reload = (counter - compare) / reload + 1

-- 'next = compare + (floor((counter − compare) / reload) + 1) × reload'
abbrev pub next_compare : HardwareTimer → ℕ
next_compare h = h.compare + points_to h.counter h.compare h.reload * h.reload

-- 'set pending, then with reload 0 clear enable, else ..; if next > 2^64 − 1 clear enable and leave compare, else
-- compare = next.'
unfoldable pub reloaded : HardwareTimer → HardwareTimer
reloaded h =
    cond (h.reload == 0)
    (clear_enable (set_pending h))
    (cond (nat_lt largest (next_compare h))
    (clear_enable (set_pending h))
    (with_compare (next_compare h) (set_pending h)))

-- 'if compare ≤ counter'
unfoldable pub matched : HardwareTimer → HardwareTimer
matched h = cond (nat_le h.compare h.counter) (reloaded h) h

-- 'Mode 1: counter = min(counter + t, 2^64 − 1)'
unfoldable pub periodic : ℕ → HardwareTimer → HardwareTimer
periodic t h = matched (with_counter (min (h.counter + t) largest) h)

-- 'Mode 2: distance = (compare − counter) modulo 2^64, 0 meaning 2^64'
unfoldable pub distance : ℕ → ℕ → ℕ
distance counter compare =
    cond ((compare + 2 ^ 64 - counter) % 2 ^ 64 == 0) (2 ^ 64) ((compare + 2 ^ 64 - counter) % 2 ^ 64)

-- 'if armed and t ≥ distance, set pending and disarm; always counter + t modulo 2^64.'
unfoldable pub free_running : ℕ → HardwareTimer → HardwareTimer
free_running t h =
    with_counter ((h.counter + t) % 2 ^ 64)
    (cond (h.armed && nat_le (distance h.counter h.compare) t) (with_flags true false h) h)

-- t ticks in each mode. 'Mode 3 does nothing.'
unfoldable pub ticked_in : ℕ → ℕ → HardwareTimer → HardwareTimer
ticked_in zero t h = one_shot t h
ticked_in (suc zero) t h = periodic t h
ticked_in (suc (suc zero)) t h = free_running t h
ticked_in (suc (suc (suc mode))) t h = h

-- 't = 0 does nothing.'
unfoldable pub ticked : ℕ → HardwareTimer → HardwareTimer
ticked t h = cond (t == 0) h (ticked_in (mode_of h.control) t h)
