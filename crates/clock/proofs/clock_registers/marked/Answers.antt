-- `clock_registers::marked` meets its contract. Assumes nothing.
use mathlib.Core.Path.{sym, ◌∙◌}
use native.Mathlib.Omega.{arith}
use Rattle.clock.proofs.Marks.{unit_is, mark-room}
use Rattle.clock.proofs.clock_registers.marked.Goals as goal

pub overflow_add-result : goal.overflow_add-result
overflow_add-result c =
    let a = c.args in
    let room =
    mark-room a.byte a.mask _ (unit_is a.byte c.requires)
    (sym c.has_bit.ensures ∙ c.if-has_bit.false) in
    record { fits = room c.requires (omega arith) }
