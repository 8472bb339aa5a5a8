-- `write` meets its contract. Assumes nothing.
use mathlib.Core.Path.{sym}
use Rattle.board.specs.declared.calls.Call.TheVariants.{Write}
use Rattle.board.proofs.Answers.{accepted_sound, refused_and, and-answers, answer-accepted}
use Rattle.registers.proofs.Timing.{sound_times}
use Rattle.registers.proofs.write.Goals as goal

pub returns-in-Err : goal.returns-in-Err
returns-in-Err c = let a = c.args in
    rw c.refused.ensures
    (and-answers (Write a.value a.address) a.board _ _ _
    c.check_sound.ensures.refused c.check_address.ensures c.in-Err.ensures)

pub written_at-requires : goal.written_at-requires
written_at-requires c = let b = c.args.board in
    let found = c.check_sound.ensures in
    let z = refused_and b _ _ _ _ found.refused c.check_address.ensures c.in_default.ensures in
    sound_times b found.fits.clock (accepted_sound b _ (sym z))

pub returns : goal.returns
returns c = let a = c.args in
    let z = refused_and a.board _ _ _ _ c.check_sound.ensures.refused c.check_address.ensures c.in_default.ensures in
    rw (
      answer-accepted (Write a.value a.address) a.board (sym z),
      c.wired.ensures,
      c.written_at.ensures,
      c.from.ensures,
    )
