-- A good channel, which is sound and of which each field is within its width, and that every operation keeps it good.
-- Assumes nothing.
use Rattle.std.proofs.Common.{◌≡◌, ℕ, ◌+◌, ◌^◌, ◌<◌, Bool, true, ltb, mod-lt, arith, ltb-true, lt-ltb}
use Rattle.wide.specs.Bits.{bit}
use Rattle.wide.specs.Fields.{with_byte}
use Rattle.wide.proofs.BigEndian.{with_byte_fits}
use Rattle.wide.proofs.Choices.{choose, and_parts, and_join}
use Rattle.channel.specs.declared.HardwareTimer.{HardwareTimer}
use Rattle.channel.specs.Channel.{
  TimerFits,
  fresh_timer,
  divisor,
  sound_timer,
  with_phase,
  with_flags,
}
use Rattle.channel.specs.Prescaler.{runs, ticks_of, phase_after, advanced}
use Rattle.channel.specs.Modes.{ticked}
use Rattle.channel.specs.Registers.{control_written, byte_written}
use Rattle.channel.proofs.Keeping.{Kept, ticked_keeps, written_cases}

pub record GoodTimer (h : HardwareTimer) : Type 0 where
  pub fits : TimerFits h
  pub control : h.control < 16
  pub phase : h.phase < divisor h

-- ---- the facts and the rule say the same

module _ (h : HardwareTimer) where
  pub timer_good : TimerFits h → sound_timer h ≡ true → GoodTimer h
  unfolding sound_timer
  timer_good f e =
      let p = and_parts (ltb h.control 16) (ltb h.phase (divisor h)) e in
      record {
        fits = f;
        control = ltb-true h.control 16 p.0;
        phase = ltb-true h.phase (divisor h) p.1;
      }

  pub timer_sound : GoodTimer h → sound_timer h ≡ true
  unfolding sound_timer
  timer_sound g =
      and_join (ltb h.control 16) (ltb h.phase (divisor h)) (lt-ltb h.control 16 g.control)
      (lt-ltb h.phase (divisor h) g.phase)

-- the facts in their order
made : {h : HardwareTimer} → h.counter < 2 ^ 64 → h.compare < 2 ^ 64 → h.reload < 2 ^ 64 → h.prescaler < 2 ^ 32 →
    h.control < 16 → h.phase < divisor h → GoodTimer h
made c m r p n u =
    record { fits = record { counter = c; compare = m; reload = r; prescaler = p }; control = n; phase = u }

pub fresh_timer_good : GoodTimer fresh_timer
fresh_timer_good = made (omega arith) (omega arith) (omega arith) (omega arith) (omega arith) (omega arith)

-- ---- an advance

module _ (selected : Bool) (c : ℕ) (h : HardwareTimer) (f : TimerFits h) where
  -- the channel with its phase moved
  abbrev pub start : HardwareTimer
  start = with_phase (phase_after c h) h

  pub start_fits : TimerFits start
  start_fits =
      record { counter = f.counter; compare = f.compare; reload = f.reload; prescaler = f.prescaler }

  pub advance-kept : Kept start (ticked (ticks_of c h) start)
  advance-kept = ticked_keeps start start_fits (ticks_of c h)

  pub advance-phase : (ticked (ticks_of c h) start).phase < divisor (ticked (ticks_of c h) start)
  advance-phase = rw (advance-kept.phase, advance-kept.prescaler) (mod-lt (h.phase + c) (omega arith))

pub advanced_good : (selected : Bool) (c : ℕ) (h : HardwareTimer) → GoodTimer h → GoodTimer (advanced selected c h)
unfolding advanced
advanced_good selected c h g =
    let k = advance-kept selected c h g.fits in
    choose GoodTimer (runs selected h)
    (λ _. record { fits = k.fits; control = k.small g.control; phase = advance-phase selected c h g.fits })
    (λ _. g)

-- ---- registers

module _ (h : HardwareTimer) (g : GoodTimer h) where
  abbrev f : TimerFits h
  f = g.fits

  pub flags-good : (pending armed : Bool) → GoodTimer (with_flags pending armed h)
  flags-good pending armed = made f.counter f.compare f.reload f.prescaler g.control g.phase

  control_good : (w : ℕ) → GoodTimer (control_written w h)
  unfolding control_written
  control_good w =
      choose GoodTimer (bit 4 w)
      (λ _. made (omega arith) f.compare f.reload f.prescaler (omega arith) (omega arith))
      (λ _. made f.counter f.compare f.reload f.prescaler (omega arith) g.phase)

  pub byte-good : (register i v : ℕ) → v < 256 → GoodTimer (byte_written register i v h)
  byte-good register i v b =
      written_cases GoodTimer register i v h (λ _. control_good)
      (λ k l. made (word k l f.counter) f.compare f.reload f.prescaler g.control g.phase)
      (λ k l. made f.counter (word k l f.compare) f.reload f.prescaler g.control g.phase)
      (λ k l. made f.counter f.compare (word k l f.reload) f.prescaler g.control g.phase)
      (λ k l. made f.counter f.compare f.reload (with_byte_fits 4 k v h.prescaler l b f.prescaler)
      g.control (omega arith))
      g
    where
      word : (k : ℕ) {n : ℕ} → k < 8 → n < 2 ^ 64 → with_byte k v n < 2 ^ 64
      word k {n} l w = with_byte_fits 8 k v n l b w
