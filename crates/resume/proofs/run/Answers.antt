-- `run` meets its contract. Assumes nothing.
use Prim.Native.Nat.{ℕ, ◌<◌}
use native.Mathlib.Omega.{arith}
use mathlib.Core.Path.{refl}
use borrow.Author.Rules.{rules}
use lib.ListN.{get_or}
use Rattle.board.proofs.Answers.{some_refusal}
use Rattle.resume.proofs.Answers.{resumed-refused, resumed-read}
use Rattle.resume.proofs.run.Goals as goal

pub returns-in-Err : goal.returns-in-Err
returns-in-Err c =
    let r = resumed-refused _ _ _ _ c.in-Err.ensures (some_refusal c.in-Err.refusal) in
    let n = c.default.ensures in
    record { value = rw (n.0, n.1.0, n.1.1) r.0; image_after = r.1.0; answers_after = r.1.1 }

pub returns : goal.returns
returns c =
    let bytes : (i : ℕ) → get_or c.args.image.now i 0 < 256 = λ i. search rules in
    let list-bytes : (i : ℕ) → get_or c.args.list.now i 0 < 256 = λ i. omega (arith, c.type_inv.list i) in
    let r =
    resumed-read _ _ _ bytes list-bytes _ c.in-Ok.ensures refl _ _ _
    c.run-r.ensures.value c.run-r.ensures.answers_after c.park.ensures.buffer_after in
    record { value = r.0; image_after = r.1.0; answers_after = r.1.1 }
