-- A fresh controller's words are within their widths, and what a board does to its controller keeps them so.
-- Assumes nothing.
use Prim.Native.Nat.{ℕ, ◌+◌, ◌*◌, ◌/◌, ◌^◌, ◌<◌}
use mathlib.Core.Bool.{Bool, true, not, ◌&&◌}
use native.Mathlib.Omega.{arith}
use borrow.Author.Tests.{ltb-true}
use lib.Dec.{ltb, eqb}
use Rattle.wide.specs.Bits.{bit}
use Rattle.wide.proofs.Choices.{choose}
use Rattle.controller.specs.declared.IrqController.{IrqController}
use Rattle.controller.specs.Controller.{ControllerFits, fresh, source_set, pending_cleared, controller_written}
use Rattle.controller.proofs.Bits.{with_bit_lt, without_lt}

pub fresh_controller_fits : ControllerFits fresh
fresh_controller_fits = record { pending = omega arith; enable = omega arith; levels = omega arith }

module _ (c : IrqController) (f : ControllerFits c) where
  pub source_fits : (k : ℕ) (level : Bool) → ControllerFits (source_set c k level)
  unfolding source_set
  source_fits k level =
      choose ControllerFits (ltb k 16)
      (λ e. record {
        pending =
            choose (λ (n : ℕ). n < 2 ^ 16) (level && not (bit k c.levels))
            (λ _. with_bit_lt 16 k true c.pending (ltb-true k 16 e) f.pending) (λ _. f.pending);
        enable = f.enable;
        levels = with_bit_lt 16 k level c.levels (ltb-true k 16 e) f.levels;
      })
      (λ _. f)

  cleared-fits : (mask : ℕ) → ControllerFits (pending_cleared c mask)
  unfolding pending_cleared
  cleared-fits mask =
      record { pending = without_lt 16 c.pending mask; enable = f.enable; levels = f.levels }

  pub written-fits : (address v : ℕ) → v < 256 → ControllerFits (controller_written c address v)
  unfolding controller_written
  written-fits address v byte =
      choose ControllerFits (eqb address 0) (λ _. cleared-fits (v * 256))
      (λ _. choose ControllerFits (eqb address 1) (λ _. cleared-fits v)
      (λ _. choose ControllerFits (eqb address 4)
      (λ _. record { pending = f.pending; enable = omega arith; levels = f.levels })
      (λ _. choose ControllerFits (eqb address 5)
      (λ _. record { pending = f.pending; enable = low; levels = f.levels })
      (λ _. f))))
    where
      low : c.enable / 256 * 256 + v < 2 ^ 16
      low = let e = f.enable in omega arith
