-- The one invariant: a good board, which has the given rate, is sound and of which each field is within its width; and
-- its pieces, which a board has before source 3 is set to the line too. Assumes nothing.
use Prim.Native.Nat.{ℕ, ◌<◌}
use mathlib.Core.Path.{◌≡◌, refl, subst, subst⁻¹, ◌∙◌}
use mathlib.Core.Bool.{true}
use mathlib.Core.List.{List}
use lib.ListN.{length}
use Rattle.channel.specs.declared.HardwareTimer.{HardwareTimer}
use Rattle.channel.specs.Channel.{TimerFits}
use Rattle.channel.proofs.Sound.{GoodTimer}
use Rattle.clock.specs.declared.Clock.{Clock}
use Rattle.clock.specs.Clock.{rate_of}
use Rattle.clock.specs.Sound.{sound_rate, sound_clock}
use Rattle.clock.proofs.Soundness.{GoodClock, clock-good, clock-sound, clock_fits}
use Rattle.controller.specs.declared.IrqController.{IrqController}
use Rattle.controller.specs.Controller.{ControllerFits}
use Rattle.controller.proofs.Widths.{source_fits}
use Rattle.board.specs.declared.Latches.{Latches}
use Rattle.board.specs.declared.Board.{Board}
use Rattle.board.specs.Loops.{All}
use Rattle.board.specs.Fields.{with_timers, with_timer_enable, with_clock, with_latches, with_controller}
use Rattle.board.specs.Kept.{Good}
use Rattle.board.specs.Board.{LatchesFit, BoardFits, line, wired, sound}
use Rattle.board.proofs.Loops.{all_so}
use Rattle.board.proofs.FourChannels.{channels_good, channels-sound}
use Rattle.board.proofs.Soundness.{sound_facts, facts_sound, wired_level}

-- a good board but for the level of source 3
pub record GoodParts (rate : ℕ) (b : Board) : Type 0 where
  pub four : length b.timers ≡ 4
  pub timers : All GoodTimer b.timers
  pub enable : b.timer_enable < 16
  pub known : sound_rate rate ≡ true
  pub clock : GoodClock rate b.clock
  pub latches : LatchesFit b.latches
  pub controller : ControllerFits b.controller

pub good : (b : Board) → BoardFits b → sound b ≡ true → Good (rate_of b.clock) b
good b f s = record { fits = f; sound = s; own = refl }

module _ {rate : ℕ} {b : Board} where
  pub good-sound : Good rate b → sound b ≡ true
  good-sound g = g.sound

  pub good-parts : Good rate b → GoodParts rate b
  good-parts g =
      let facts = sound_facts b g.sound in
      record {
        four = g.fits.four;
        timers = channels_good 0 b.timers g.fits.timers facts.timers;
        enable = facts.enable;
        known = subst (λ (n : ℕ). sound_rate n ≡ true) g.own facts.rate;
        clock =
            clock-good rate b.clock g.fits.clock g.own
            (subst (λ (n : ℕ). sound_clock n b.clock ≡ true) g.own facts.clock);
        latches = g.fits.latches;
        controller = g.fits.controller;
      }

  -- source 3 is set to the line
  pub parts-good : GoodParts rate b → Good rate (wired b)
  unfolding wired
  parts-good p =
      let own = p.clock.parts.own in
      record {
        fits = record {
          four = p.four;
          timers = all_so GoodTimer TimerFits (λ _ g. g.fits) b.timers p.timers;
          clock = clock_fits rate b.clock p.clock;
          latches = p.latches;
          controller = source_fits b.controller p.controller 3 (line b);
        };
        sound = facts_sound (wired b) (record {
          timers = channels-sound 0 b.timers p.timers;
          enable = p.enable;
          rate = subst⁻¹ (λ (n : ℕ). sound_rate n ≡ true) own p.known;
          clock =
              subst⁻¹ (λ (n : ℕ). sound_clock n b.clock ≡ true) own (clock-sound rate b.clock p.clock);
          level = wired_level b;
        });
        own = own;
      }

-- ---- the rate is the board's own

module _ {rate : ℕ} {b : Board} (g : Good rate b) where
  pub own-parts : GoodParts (rate_of b.clock) b
  own-parts = good-parts (good b g.fits (good-sound g))

  -- what is good by it is good by the rate
  pub at-rate : {y : Board} → Good (rate_of b.clock) y → Good rate y
  at-rate h = record { fits = h.fits; sound = h.sound; own = h.own ∙ g.own }

-- ---- one piece changed

module _ {rate : ℕ} {b : Board} (p : GoodParts rate b) where
  pub timers-parts : (ts : List HardwareTimer) → length ts ≡ 4 → All GoodTimer ts → GoodParts rate (with_timers ts b)
  timers-parts ts four h =
      record {
        four = four;
        timers = h;
        enable = p.enable;
        known = p.known;
        clock = p.clock;
        latches = p.latches;
        controller = p.controller;
      }

  pub enable-parts : (n : ℕ) → n < 16 → GoodParts rate (with_timer_enable n b)
  enable-parts n h =
      record {
        four = p.four;
        timers = p.timers;
        enable = h;
        known = p.known;
        clock = p.clock;
        latches = p.latches;
        controller = p.controller;
      }

  pub clock-parts : (k : Clock) → GoodClock rate k → GoodParts rate (with_clock k b)
  clock-parts k h =
      record {
        four = p.four;
        timers = p.timers;
        enable = p.enable;
        known = p.known;
        clock = h;
        latches = p.latches;
        controller = p.controller;
      }

  pub latches-parts : (ls : Latches) → LatchesFit ls → GoodParts rate (with_latches ls b)
  latches-parts ls h =
      record {
        four = p.four;
        timers = p.timers;
        enable = p.enable;
        known = p.known;
        clock = p.clock;
        latches = h;
        controller = p.controller;
      }

  pub controller-parts : (q : IrqController) → ControllerFits q → GoodParts rate (with_controller q b)
  controller-parts q h =
      record {
        four = p.four;
        timers = p.timers;
        enable = p.enable;
        known = p.known;
        clock = p.clock;
        latches = p.latches;
        controller = h;
      }
