-- The invariant of a board: it is sound, has a given rate, and has every field within its width. And that a call
-- keeps it.
use Rattle.std.specs.Prelude.{ℕ, ◌≡◌, true}
use Rattle.clock.specs.Clock.{rate_of}
use Rattle.board.specs.declared.Board.{Board}
use Rattle.board.specs.declared.calls.Call.{Call}
use Rattle.board.specs.Board.{BoardFits, sound}
use Rattle.board.specs.Calls.{effect_of, CallFits, board_after}

-- a sound machine board of a rate
pub record Good (rate : ℕ) (b : Board) : Type 0 where
  pub fits : BoardFits b
  pub sound : sound b ≡ true
  pub own : rate_of b.clock ≡ rate

-- a call keeps it: with arguments within their widths, an accepted call leaves a good board of the same rate
abbrev pub Keeps : Call → Type 0
Keeps call =
    (rate : ℕ) (b : Board) → CallFits call → Good rate b → (effect_of call b).refusal ≡ 0 →
    Good rate (board_after call b)
