-- `read` meets its contract. Assumes nothing.
use Prim.Native.Nat.{ℕ}
use mathlib.Core.Path.{sym, ap}
use Rattle.board.specs.declared.calls.Call.TheVariants.{Read}
use Rattle.board.specs.Fields.{channel_at}
use Rattle.board.proofs.Answers.{accepted_sound, refused_and, and-answers, answer-accepted}
use Rattle.registers.proofs.Timing.{sound_times}
use Rattle.registers.proofs.CodeReads.{read_parts}
use Rattle.registers.proofs.read.Goals as goal

pub returns-in-Err : goal.returns-in-Err
returns-in-Err c = let a = c.args in
    rw c.refused.ensures
    (and-answers (Read a.address) a.board _ _ _ c.check_sound.ensures.refused c.check_address.ensures c.in-Err.ensures)

pub reading_at-reading-requires : goal.reading_at-reading-requires
reading_at-reading-requires c = let b = c.args.board in
    let found = c.check_sound.ensures in
    let z = refused_and b _ _ _ _ found.refused c.check_address.ensures c.in_default.ensures in (
      sound_times b found.fits.clock (accepted_sound b _ (sym z)),
      ap (λ (n : ℕ). channel_at n b) c.channel_index.ensures.0,
    )

pub returns : goal.returns
returns c = let a = c.args in
    let z = refused_and a.board _ _ _ _ c.check_sound.ensures.refused c.check_address.ensures c.in_default.ensures in
    let p = read_parts a.address a.board in
    rw (
      answer-accepted (Read a.address) a.board (sym z),
      p.0,
      p.1,
      c.wired.ensures,
      c.after_reading.ensures,
      c.reading_at-reading.ensures,
      c.from-offset.ensures,
    )
