-- `writes::acknowledged` meets its contract. Assumes nothing.
use mathlib.Core.Path.{◌≡◌, refl, ap, ◌∙◌}
use borrow.Author.Rules.{rules}
use native.Mathlib.Omega.{arith}
use lib.ListN.{get_or}
use Rattle.wide.specs.Bits.{bit}
use Rattle.channel.specs.Channel.{fresh_timer}
use Rattle.board.proofs.Loops.{map_to, map-goes, map-ends}
use Rattle.board.specs.RegisterWrites.{cleared_by}
use Rattle.regmap.proofs.writes.acknowledged.Goals as goal

pub loop-i-init : goal.loop-i-init
unfolding map_to
loop-i-init c = refl

pub loop-i-preserved : goal.loop-i-preserved
loop-i-preserved c =
    let a = c.args in
    let l = c.loop-i in
    map-goes (λ k h. cleared_by (bit k a.value) h) fresh_timer l.i a.timers l.t-items c.cleared_by.result
    (search rules) l.invariant
    (c.cleared_by.ensures ∙ ap (λ v. cleared_by v (get_or l.t-items l.i fresh_timer)) c.selected.ensures)

pub returns : goal.returns
returns c =
    let a = c.args in
    let l = c.loop-i in
    let e : l.i ≡ 4 = omega arith in
    l.invariant ∙ rw e (map-ends (λ k h. cleared_by (bit k a.value) h) 4 0 a.timers (search rules))
