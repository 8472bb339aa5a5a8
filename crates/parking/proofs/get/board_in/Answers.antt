-- `get::board_in` meets its contract. Assumes nothing.
use mathlib.Core.Bool.{and-false}
use Rattle.parking.proofs.Answers.{formed-is, board-read}
use Rattle.parking.proofs.Forms.{not_there}
use Rattle.parking.proofs.get.board_in.Goals as goal

pub returns-in_err-a : goal.returns-in_err-a
returns-in_err-a c =
    rw (c.from_residual.ensures, ← formed-is _ c.requires, not_there _ _ c.in_err-a.ensures)

pub returns-in_err-b : goal.returns-in_err-b
returns-in_err-b c =
    rw (c.from_residual-in_err-b.ensures, ← formed-is _ c.requires, not_there _ _ c.in_err-b.ensures) (simp and-false)

pub returns-in_err-c : goal.returns-in_err-c
returns-in_err-c c =
    rw (c.from_residual-in_err-c.ensures, ← formed-is _ c.requires, not_there _ _ c.in_err-c.ensures) (simp and-false)

pub returns-in_err-d : goal.returns-in_err-d
returns-in_err-d c =
    rw (c.from_residual-in_err-d.ensures, ← formed-is _ c.requires, not_there _ _ c.in_err-d.ensures) (simp and-false)

pub returns-in_err-timer_enable : goal.returns-in_err-timer_enable
returns-in_err-timer_enable c =
    let none = not_there _ _ c.in_err-timer_enable.ensures in
    rw (c.from_residual-in_err-timer_enable.ensures, ← formed-is _ c.requires, none)
    (simp and-false)

pub returns-in_err-said : goal.returns-in_err-said
returns-in_err-said c =
    rw (c.from_residual-in_err-said.ensures, ← formed-is _ c.requires, not_there _ _ c.in_err-said.ensures)
    (simp and-false)

pub returns-in_err-controller : goal.returns-in_err-controller
returns-in_err-controller c =
    rw (c.from_residual-in_err-controller.ensures, ← formed-is _ c.requires, not_there _ _ c.in_err-controller.ensures)
    (simp and-false)

pub returns : goal.returns
returns c =
    board-read _ c.requires _ _ _ _ _ _ _ _ c.in_ok-a.ensures c.in_ok-b.ensures c.in_ok-c.ensures
    c.in_ok-d.ensures c.in_ok-timer_enable.ensures c.in_ok-said.ensures c.in_ok-controller.ensures
