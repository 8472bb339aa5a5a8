-- A buffer that begins with the answers holds them, then old bytes, where its rest is old, and no other does.
use Rattle.std.proofs.Common.{drop, length}
use mathlib.Core.Bool.{false≢true}
use Rattle.std.proofs.lemmas.Slice.Eq.{strip_prefix_is, slice_eq-Decides}
use Rattle.std.proofs.lemmas.Bool.Decides.{Decides-eqb}
use Rattle.list.specs.Run.{over}
use Rattle.std.proofs.lemmas.List.{take_rest}
use Rattle.recording.proofs.Laws.{over_decides}
use Rattle.recording.proofs.holds.Goals as goal

pub returns-in-Some : goal.returns-in-Some
returns-in-Some c =
    let s = strip_prefix_is Decides-eqb c.args.buffer.now c.args.answers.now _ c.strip_prefix.ensures.cases in
    let old = take_rest c.args.old.now (length c.args.answers.now) in
    over_decides _ _ _ _ _ (rw c.in-Some.is at s) (slice_eq-Decides Decides-eqb _ _ _ (rw old at c.eq.ensures))

pub returns-in-None : goal.returns-in-None
unfolding over
returns-in-None c =
    let s = strip_prefix_is Decides-eqb c.args.buffer.now c.args.answers.now _ c.strip_prefix.ensures.cases in
    let old = drop (length c.args.answers.now) c.args.old.now in
    (λ e. absurd (false≢true e), λ h. absurd ((rw c.in-None.is at s) old h))
