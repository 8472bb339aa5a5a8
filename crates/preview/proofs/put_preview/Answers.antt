-- `put_preview` meets its contract. Assumes nothing.
use Prim.Native.Nat.{ℕ, ◌<◌, ◌^◌}
use native.Mathlib.Omega.{arith}
use lib.ListN.{get_or}
use Rattle.std.proofs.lemmas.Result.{err_from_is_err_and}
use Rattle.preview.proofs.Answers.{preview-own, preview-left, preview-written}
use Rattle.preview.proofs.put_preview.Goals as goal

pub returns-in_err-check_preview : goal.returns-in_err-check_preview
returns-in_err-check_preview c =
    let a = c.args in
    let p = err_from_is_err_and c.from_residual.result c.from_residual.ensures.1 in
    let told =
    preview-own a.board a.totals.now a.high.now c.requires.0 _ c.from_host.ensures _ c.in_err-check_preview.ensures in
    record { value = rw (p.1, p.2) told; high_after = preview-left a.board a.totals.now a.high.now _ told }

pub returns : goal.returns
returns c =
    let a = c.args in
    let s = c.requires.0 in
    let words : (i : ℕ) → get_or a.totals.now i 0 < 2 ^ 64 = λ i. omega (arith, c.type_inv.totals i) in
    record {
      value = preview-own a.board a.totals.now a.high.now s _ c.from_host.ensures _ c.in_ok-check_preview.ensures;
      high_after =
          preview-written a.board a.totals.now a.high.now _ c.from_host.ensures c.in_ok-check_preview.ensures s
          c.requires.1 words _ c.high_from.ensures _ c.put_reached.ensures;
    }
