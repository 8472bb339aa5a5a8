-- Not sentences of S-6 but how the code compares totals: with the cycles from which on the line is high.
use Rattle.std.specs.Prelude.{ℕ, Bool, false, cond, leb, Option, None, Some}
use Rattle.std.specs.Result.{result_unwrap_or}
use Rattle.channel.specs.declared.Cycles.{Cycles}
use Rattle.board.specs.declared.Board.{Board}
use Rattle.board.specs.Board.{line}
use Rattle.board.specs.Calls.{skip_length}
use Rattle.board.specs.CodeCalls.{length_given}

-- from the first on where it is high, and else from the end of the advance that a skip would make
abbrev pub high_from : Board → Option Cycles
high_from b = cond (line b) (Some (record { 0 = 0 })) (result_unwrap_or (length_given (skip_length b)) None)

-- a total is at least this
abbrev pub reaches : Option Cycles → ℕ → Bool
reaches None total = false
reaches (Some from) total = leb from.0 total
