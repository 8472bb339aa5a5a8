-- What a run keeps of its board, refused or not: it stays sound, its fields stay within their widths, and its rate
-- stays.
-- All three follow from the invariant. Assumes nothing.
use Prim.Native.Nat.{ℕ, ◌<◌}
use native.Mathlib.Omega.{arith}
use mathlib.Core.Path.{◌≡◌, refl}
use mathlib.Core.Bool.{true}
use mathlib.Core.List.{List, []}
use lib.ListN.{get_or}
use Rattle.wide.proofs.Choices.{either}
use Rattle.clock.specs.Clock.{rate_of}
use Rattle.board.specs.declared.Board.{Board}
use Rattle.board.specs.Board.{BoardFits, sound}
use Rattle.board.specs.Kept.{Good}
use Rattle.board.proofs.Good.{good, good-sound}
use Rattle.list.specs.Run.{nothing_done, run_of}
use Rattle.list.proofs.TwoParts.{run_good}

-- a run that is not refused began with a sound board
pub began_sound : (b : Board) (l : List ℕ) (room : ℕ) → (run_of b l room).outcome.refusal ≡ 0 → sound b ≡ true
unfolding run_of
began_sound b l room z =
    either (sound b) (λ s. s) (λ s. let one : ◌≡◌ {A = ℕ} 1 0 = rw s at z in absurd (omega (arith, one)))

module _ (b : Board) (l : List ℕ) (room : ℕ) (f : BoardFits b) (bytes : (i : ℕ) → get_or l i 0 < 256) where
  -- a run over a sound board leaves a good one
  pub run-keeps : sound b ≡ true → Good (rate_of b.clock) (run_of b l room).outcome.board
  unfolding run_of
  run-keeps s = rw s (run_good (rate_of b.clock) 0 l room (nothing_done b 0) [] bytes (good b f s))

  pub run_sound : sound b ≡ true → sound (run_of b l room).outcome.board ≡ true
  run_sound s = good-sound (run-keeps s)

  -- a board that is not sound comes back as it was
  pub run_fits : BoardFits (run_of b l room).outcome.board
  unfolding run_of
  run_fits = either (sound b) (λ s. (run-keeps s).fits) (λ s. rw s f)

  pub run-rate : rate_of (run_of b l room).outcome.board.clock ≡ rate_of b.clock
  unfolding run_of
  run-rate = either (sound b) (λ s. (run-keeps s).own) (λ s. rw s refl)
