-- `preview_parked` meets its contract. Assumes nothing.
use Prim.Native.Nat.{ℕ, ◌<◌}
use native.Mathlib.Omega.{arith}
use lib.ListN.{get_or}
use Rattle.preview.proofs.Answers.{parked-refused, parked_sound, parked-accepted}
use Rattle.preview.proofs.preview_parked.Goals as goal

pub returns-in-Err : goal.returns-in-Err
returns-in-Err c =
    let a = c.args in
    let shown = parked-refused a.image.now a.totals.now a.high.now _ c.in-Err.ensures in
    record { value = shown.0; high_after = shown.1 }

pub put_preview-requires : goal.put_preview-requires
put_preview-requires c =
    let bytes : (i : ℕ) → get_or c.args.image.now i 0 < 256 = λ i. omega (arith, c.type_inv.image i) in
    parked_sound c.args.image.now bytes _ c.in-Ok.ensures

pub returns-in-Ok : goal.returns-in-Ok
returns-in-Ok c =
    let a = c.args in
    let shown =
    parked-accepted a.image.now a.totals.now a.high.now _ c.in-Ok.ensures _ _
    c.put_preview.ensures.value c.put_preview.ensures.high_after in
    record { value = shown.0; high_after = shown.1 }
