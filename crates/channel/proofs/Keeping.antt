-- What ticks leave of a channel, and the cases of a byte written to it. Assumes nothing.
use Rattle.std.proofs.Common.{◌≡◌, ℕ, zero, suc, ◌+◌, ◌-◌, ◌*◌, ◌/◌, ◌%◌, ◌^◌, ◌<◌, min, Bool, true, false, ◌&&◌, eqb}
use Rattle.std.proofs.Common.{ltb, leb, refl, ap, suc-le-suc, arith, ltb-false, eqb-true, leb-false}
use Rattle.wide.specs.Number.{largest}
use Rattle.wide.specs.Fields.{with_byte}
use Rattle.wide.proofs.Choices.{choose}
use Rattle.channel.specs.declared.HardwareTimer.{HardwareTimer}
use Rattle.channel.specs.Channel.{
  TimerFits,
  mode_of,
  irq_enabled_of,
  disabled,
  with_counter,
  with_compare,
  with_reload,
  with_flags,
  set_pending,
  clear_enable,
}
use Rattle.channel.specs.Modes.{
  next_compare,
  one_shot,
  reloaded,
  matched,
  periodic,
  distance,
  free_running,
  ticked_in,
  ticked,
}
use Rattle.channel.specs.Registers.{
  control_at,
  count_low_at,
  count_high_at,
  compare_low_at,
  compare_high_at,
  reload_low_at,
  reload_high_at,
  prescaler_at,
  control_written,
  compare_written,
  prescaler_written,
  byte_written,
}

-- ---- a byte written

-- a property of the channel after it, by the field that the register has
pub written_cases : (P : HardwareTimer → Type 0) (register i v : ℕ) (h : HardwareTimer) →
    (register ≡ control_at → (w : ℕ) → P (control_written w h)) →
    ((k : ℕ) → k < 8 → P (with_counter (with_byte k v h.counter) h)) →
    ((k : ℕ) → k < 8 → P (compare_written (with_byte k v h.compare) h)) →
    ((k : ℕ) → k < 8 → P (with_reload (with_byte k v h.reload) h)) →
    ((k : ℕ) → k < 4 → P (prescaler_written (with_byte k v h.prescaler) h)) → P h → P (byte_written register i v h)
unfolding byte_written
written_cases P register i v h control counter compare reload prescaler none =
    choose P (eqb register control_at)
    (λ e. control (eqb-true register control_at e) (with_byte (3 - i) v h.control))
    (λ _. choose P (eqb register count_low_at) (λ _. counter (3 - i) (omega arith))
    (λ _. choose P (eqb register count_high_at) (λ _. counter (7 - i) (omega arith))
    (λ _. choose P (eqb register compare_low_at) (λ _. compare (3 - i) (omega arith))
    (λ _. choose P (eqb register compare_high_at) (λ _. compare (7 - i) (omega arith))
    (λ _. choose P (eqb register reload_low_at) (λ _. reload (3 - i) (omega arith))
    (λ _. choose P (eqb register reload_high_at) (λ _. reload (7 - i) (omega arith))
    (λ _. choose P (eqb register prescaler_at) (λ _. prescaler (3 - i) (omega arith))
    (λ _. none))))))))

-- ---- ticks

irq_kept : (n : ℕ) → irq_enabled_of (disabled n) ≡ irq_enabled_of n
unfolding irq_enabled_of disabled
irq_kept n = ap (λ (k : ℕ). eqb (k % 2) 1) eighths
  where
    eighths : (n / 8 * 8 + n % 4) / 8 ≡ n / 8
    eighths = omega arith

small_kept : (n : ℕ) → n < 16 → disabled n < 16
unfolding disabled
small_kept n h = omega arith

mode_kept : (n : ℕ) → mode_of (disabled n) ≡ mode_of n
unfolding disabled
mode_kept n = omega arith

pub record Kept (h r : HardwareTimer) : Type 0 where
  pub prescaler : r.prescaler ≡ h.prescaler
  pub phase : r.phase ≡ h.phase
  pub irq : irq_enabled_of r.control ≡ irq_enabled_of h.control
  pub mode : mode_of r.control ≡ mode_of h.control
  pub pending : h.pending ≡ true → r.pending ≡ true
  pub fits : TimerFits r
  pub small : h.control < 16 → r.control < 16

module _ (h : HardwareTimer) (f : TimerFits h) where
  -- the counter moves
  moved : (n : ℕ) → n < 2 ^ 64 → Kept h (with_counter n h)
  moved n p =
      record {
        prescaler = refl;
        phase = refl;
        irq = refl;
        mode = refl;
        pending = λ e. e;
        fits = record { counter = p; compare = f.compare; reload = f.reload; prescaler = f.prescaler };
        small = λ e. e;
      }

  -- a match that clears enable
  stopped : (n : ℕ) → n < 2 ^ 64 → Kept h (clear_enable (set_pending (with_counter n h)))
  stopped n p =
      record {
        prescaler = refl;
        phase = refl;
        irq = irq_kept h.control;
        mode = mode_kept h.control;
        pending = λ e. refl;
        fits = record { counter = p; compare = f.compare; reload = f.reload; prescaler = f.prescaler };
        small = small_kept h.control;
      }

  -- a match with another compare point, and one that may disarm
  again : (n m : ℕ) (armed : Bool) → n < 2 ^ 64 → m < 2 ^ 64 →
      Kept h (with_compare m (with_flags true armed (with_counter n h)))
  again n m armed p q =
      record {
        prescaler = refl;
        phase = refl;
        irq = refl;
        mode = refl;
        pending = λ e. refl;
        fits = record { counter = p; compare = q; reload = f.reload; prescaler = f.prescaler };
        small = λ e. e;
      }

  same : Kept h h
  same = moved h.counter f.counter

  one_shot_keeps : (t : ℕ) → Kept h (one_shot t h)
  unfolding one_shot
  one_shot_keeps t =
      choose (Kept h) (leb h.compare h.counter) (λ _. stopped h.counter f.counter)
      (λ e. choose (Kept h) (leb (h.compare - h.counter) t) (λ _. stopped h.compare f.compare)
      (λ d. let a = leb-false h.compare h.counter e in
      let b = leb-false (h.compare - h.counter) t d in
      moved (h.counter + t) (omega arith)))

  periodic_keeps : (t : ℕ) → Kept h (periodic t h)
  unfolding periodic matched reloaded
  periodic_keeps t =
      choose (Kept h) (leb h.compare n)
      (λ _. choose (Kept h) (eqb h.reload 0) (λ _. stopped n below)
      (λ _. choose (Kept h) (ltb largest next) (λ _. stopped n below)
      (λ e. again n next h.armed below (suc-le-suc (ltb-false largest next e)))))
      (λ _. moved n below)
    where
      n : ℕ
      n = min (h.counter + t) largest

      next : ℕ
      next = next_compare (with_counter n h)

      below : n < 2 ^ 64
      below = omega arith

  free_running_keeps : (t : ℕ) → Kept h (free_running t h)
  unfolding free_running
  free_running_keeps t =
      choose (λ (r : HardwareTimer). Kept h (with_counter n r)) (h.armed && leb (distance h.counter h.compare) t)
      (λ _. again n h.compare false (omega arith) f.compare)
      (λ _. moved n (omega arith))
    where
      n : ℕ
      n = (h.counter + t) % 2 ^ 64

  mode_keeps : (mode t : ℕ) → Kept h (ticked_in mode t h)
  unfolding ticked_in
  mode_keeps zero t = one_shot_keeps t
  mode_keeps (suc zero) t = periodic_keeps t
  mode_keeps (suc (suc zero)) t = free_running_keeps t
  mode_keeps (suc (suc (suc mode))) t = same

  pub ticked_keeps : (t : ℕ) → Kept h (ticked t h)
  unfolding ticked
  ticked_keeps t = choose (Kept h) (eqb t 0) (λ _. same) (λ _. mode_keeps (mode_of h.control) t)
