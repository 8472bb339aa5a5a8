-- `bare` meets its contract: a value that is refused is not refused for the room. Assumes nothing.
use mathlib.Core.Path.{sym}
use Rattle.std.proofs.lemmas.Result.{err_from_is_err_and}
use Rattle.format.proofs.Decoding.{frame-names}
use Rattle.format.proofs.calls.Front.bare.Goals as goal

pub returns-in_err-check_value-clause-named : goal.returns-in_err-check_value-clause-named
returns-in_err-check_value-clause-named c =
    let p = err_from_is_err_and c.from_residual.result c.from_residual.ensures.1 in
    rw (p.1, p.2) (sym (frame-names _ _ _ c.in_err-check_value.ensures))
