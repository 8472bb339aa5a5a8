-- `HardwareTimer::advance` meets its contract. Assumes nothing.
use Rattle.std.proofs.Common.{◌≡◌, ◌≢◌, ◌%◌, sym, ◌∙◌, arith, ne_eqb}
use Rattle.channel.specs.Modes.{ticked, ticked_in}
use Rattle.channel.proofs.Counting.{one-shot-mode, periodic-mode, free-mode, idle-mode}
use Rattle.channel.proofs.HardwareTimer.advance.Goals as goal

pub returns-in-OneShot : goal.returns-in-OneShot
unfolding ticked ticked_in
returns-in-OneShot c =
    let h = c.args.self in
    let n : c.args.ticks.0 ≢ 0 = omega arith in
    let m : h.control % 4 ≡ 0 = sym c.in-OneShot.ensures in
    let r = c.advance_one_shot.ensures in
    (simp (ne_eqb _ _ n, m) r.0, r.1 ∙ sym (one-shot-mode c.args.ticks.0 h n m))

pub returns-in-Periodic : goal.returns-in-Periodic
unfolding ticked ticked_in
returns-in-Periodic c =
    let h = c.args.self in
    let n : c.args.ticks.0 ≢ 0 = omega arith in
    let m : h.control % 4 ≡ 1 = sym c.in-Periodic.ensures in
    let r = c.advance_periodic.ensures in
    (simp (ne_eqb _ _ n, m) r.0, r.1 ∙ sym (periodic-mode c.args.ticks.0 h n m))

pub returns-in-FreeRunning : goal.returns-in-FreeRunning
unfolding ticked ticked_in
returns-in-FreeRunning c =
    let h = c.args.self in
    let n : c.args.ticks.0 ≢ 0 = omega arith in
    let m : h.control % 4 ≡ 2 = sym c.in-FreeRunning.ensures in
    let r = c.advance_free_running.ensures in
    (simp (ne_eqb _ _ n, m) r.0, r.1 ∙ sym (free-mode c.args.ticks.0 h n m))

pub returns-in-Idle : goal.returns-in-Idle
unfolding ticked ticked_in
returns-in-Idle c =
    let h = c.args.self in
    let n : c.args.ticks.0 ≢ 0 = omega arith in
    let m : h.control % 4 ≡ 3 = sym c.in-Idle.ensures in
    let r = c.unmet-in-Idle.ensures in
    (simp (ne_eqb _ _ n, m) r.0, r.1 ∙ sym (idle-mode c.args.ticks.0 h n m))
