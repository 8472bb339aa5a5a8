-- `channels::advance_all` meets its contract. Assumes nothing.
use mathlib.Core.Path.{◌≡◌, refl, ◌∙◌, ap}
use mathlib.Core.Bool.{Bool}
use mathlib.Core.List.{List}
use borrow.Author.Rules.{rules}
use native.Mathlib.Omega.{arith}
use lib.ListN.{get_or}
use Rattle.wide.specs.Number.{wide_of}
use Rattle.wide.proofs.Forms.{value_wide}
use Rattle.channel.specs.declared.HardwareTimer.{HardwareTimer}
use Rattle.channel.specs.Channel.{fresh_timer}
use Rattle.channel.specs.Prescaler.{advanced}
use Rattle.channel.specs.Matches.{matches_of}
use Rattle.board.proofs.Loops.{map_to, next_is, map-goes, map-ends, given-starts, given-goes, given-ends}
use Rattle.board.proofs.Phases.{phase_next}
use Rattle.board.proofs.channels.advance_all.Invariants.{after, meets}
use Rattle.board.proofs.channels.advance_all.Goals as goal

pub loop-i-init : goal.loop-i-init
unfolding map_to
loop-i-init c =
    let a = c.args in
    let w = value_wide c.from-matches.result 0 (omega (arith, c.from-matches.type_inv)) c.from-matches.ensures in
    record {
      timers = refl;
      matches = rw w (given-starts (meets a.timer_enable a.cycles.0) (wide_of 0) 0 a.timers (search rules));
    }

pub advance_cycles-after-requires : goal.advance_cycles-after-requires
advance_cycles-after-requires c =
    let l = c.loop-i in
    phase_next (after c.args.timer_enable c.args.cycles.0) c.args.timers l.out l.i (search rules)
    c.requires l.invariant.timers

pub loop-i-preserved : goal.loop-i-preserved
loop-i-preserved c =
    let a = c.args in
    let l = c.loop-i in
    let r = c.advance_cycles-after in
    let e = c.selected-selected.ensures in
    let f = after a.timer_enable a.cycles.0 in
    let g = meets a.timer_enable a.cycles.0 in
    record {
      timers = map-goes f fresh_timer l.i a.timers l.out r.result.timer (search rules) l.invariant.timers
          (r.ensures.0 ∙ ap (λ (v : Bool). advanced v a.cycles.0 (get_or l.out l.i fresh_timer)) e);
      matches = given-goes g (wide_of 0) fresh_timer l.i a.timers l.matches r.result.matches (search rules)
          l.invariant.matches
          (value_wide r.result.matches _ (omega (arith, r.type_inv)) r.ensures.1
          ∙ ap (λ (v : Bool). wide_of (matches_of v a.cycles.0 (get_or l.out l.i fresh_timer))) e
          ∙ ap (λ (h : HardwareTimer). g l.i h)
          (ap (λ (ts : List HardwareTimer). get_or ts l.i fresh_timer) l.invariant.timers
          ∙ next_is f fresh_timer l.i 0 a.timers));
    }

pub returns : goal.returns
returns c =
    let a = c.args in
    let l = c.loop-i in
    let e : l.i ≡ 4 = omega arith in (
      l.invariant.timers ∙ rw e (map-ends (after a.timer_enable a.cycles.0) 4 0 a.timers (search rules)),
      l.invariant.matches
          ∙ rw e (given-ends (meets a.timer_enable a.cycles.0) (wide_of 0) 4 0 a.timers (search rules)),
    )
