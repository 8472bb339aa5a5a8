-- What a sound board's registers ask of it: its clock's time can be read. Assumes nothing.
use mathlib.Core.Path.{◌≡◌, refl}
use mathlib.Core.Bool.{true}
use Rattle.clock.specs.Clock.{rate_of, check_alarm, alarm_reached}
use Rattle.clock.specs.declared.Clock.{Clock}
use Rattle.clock.specs.Sound.{ClockFits, Timed}
use Rattle.clock.proofs.Soundness.{clock-timed}
use Rattle.wide.proofs.Choices.{choose}
use Rattle.board.specs.declared.Board.{Board}
use Rattle.board.specs.Board.{sound}
use Rattle.board.proofs.Soundness.{sound_facts, clock_facts}

pub sound_times : (b : Board) → ClockFits b.clock → sound b ≡ true → Timed (rate_of b.clock) b.clock
sound_times b f s = clock-timed (rate_of b.clock) b.clock (sound_facts b s).rate (clock_facts b f s)

-- the alarm check leaves what the time is made of
pub check_timed : (k : Clock) → Timed (rate_of k) k →
    Timed (rate_of (check_alarm (rate_of k) k)) (check_alarm (rate_of k) k)
unfolding check_alarm
check_timed k t =
    choose (λ (j : Clock). Timed (rate_of j) j) (alarm_reached (rate_of k) k)
    (λ _. record { own = refl; known = t.known; subsecond = t.subsecond; offset = t.offset; host = t.host })
    (λ _. t)
