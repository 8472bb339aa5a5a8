-- 'Every call keeps a sound board sound', of its rate, and its words words: of each call, then of a direct call's
-- answer, refused or accepted. Assumes nothing.
use Prim.Native.Nat.{ℕ, ◌<◌}
use mathlib.Core.Path.{◌≡◌, refl, ◌∙◌}
use mathlib.Core.Bool.{true}
use mathlib.Core.Option.{Option, none, some}
use native.Mathlib.Omega.{arith}
use lib.Dec.{leb, eqb}
use borrow.Author.Tests.{leb-false, eqb-true}
use Rattle.wide.specs.Bits.{bit}
use Rattle.wide.proofs.Choices.{choose, either}
use Rattle.channel.specs.Channel.{TimerFits, fresh_timer, line_of}
use Rattle.channel.specs.Prescaler.{advanced}
use Rattle.channel.proofs.Sound.{fresh_timer_good, timer_sound}
use Rattle.clock.specs.declared.HostTime.{HostTime}
use Rattle.clock.specs.Clock.{rate_of, nanos_per_second, advance_clock}
use Rattle.clock.specs.Fields.{fresh_rate, fresh_clock_at, with_host}
use Rattle.clock.specs.Sound.{sound_rate}
use Rattle.clock.proofs.Rate.{three-rate}
use Rattle.clock.proofs.Soundness.{HostSound, clock-sound, advance_good, host_good, fresh_clock_good}
use Rattle.controller.specs.declared.IrqController.{IrqController}
use Rattle.controller.specs.Controller.{ControllerFits, source_set, controller_written}
use Rattle.controller.proofs.Widths.{fresh_controller_fits, source_fits, written-fits}
use Rattle.board.specs.declared.Board.{Board}
use Rattle.board.specs.declared.calls.Call.{Call}
use Rattle.board.specs.declared.calls.Call.TheVariants.{Deadline, Skip, Source, ControllerRead}
use Rattle.board.specs.declared.calls.Call.TheVariants.{ControllerWrite, Output}
use Rattle.board.specs.Loops.{fold_from}
use Rattle.board.specs.Channels.{advanced_all}
use Rattle.board.specs.Fields.{fresh_board_at, fresh_board, with_controller}
use Rattle.board.specs.Board.{BoardFits, line, wired, sound}
use Rattle.board.specs.Calls.{
  advance_by,
  host_time_to,
  host_time_refusal,
  moved_board,
  advanced_board,
  skip_length,
  moved_by,
  effect_of,
  board_after,
  CallFits,
  DirectAnswer,
  refusal_of,
  answer_of,
  fresh_of,
}
use Rattle.board.proofs.Loops.{map-length}
use Rattle.board.proofs.FourChannels.{channels-kept}
use Rattle.board.proofs.Soundness.{facts_sound, wired_sound}
use Rattle.board.specs.Kept.{Good, Keeps}
use Rattle.board.proofs.Good.{good, good-sound, good-parts, parts-good, own-parts, at-rate}
use Rattle.board.proofs.Good.{timers-parts, clock-parts, controller-parts}

-- ---- fresh boards

-- of any rate: all else is zero, or one
pub fresh_fits : (rate : ℕ) → BoardFits (fresh_board_at rate)
fresh_fits rate =
    record {
      four = refl;
      timers = (fits, (fits, (fits, (fits, tt))));
      clock =
          record {
            seconds = omega arith;
            offset = omega arith;
            alarm = omega arith;
            shadow = omega arith;
            alarm_shadow = omega arith;
            host = omega arith;
          };
      latches = record {
        four = refl;
        counts = (omega arith, (omega arith, (omega arith, (omega arith, tt))));
        low = omega arith;
        high = omega arith;
      };
      controller = fresh_controller_fits;
    }
  where
    fits : TimerFits fresh_timer
    fits = fresh_timer_good.fits

pub fresh_good : (rate : ℕ) → sound_rate rate ≡ true → Good rate (fresh_board_at rate)
unfolding line fold_from line_of
fresh_good rate e =
    record {
      fits = fresh_fits rate;
      sound = facts_sound (fresh_board_at rate) (record {
        timers = rw (timer_sound fresh_timer fresh_timer_good);
        enable = omega arith;
        rate = e;
        clock = clock-sound rate (fresh_clock_at rate) (fresh_clock_good rate (three-rate rate e));
        level = refl;
      });
      own = refl;
    }

pub fresh-sound : sound fresh_board ≡ true
unfolding sound_rate
fresh-sound = good-sound (fresh_good fresh_rate refl)

-- a board that is made is sound, refused or not
pub made_sound : (rate : ℕ) → sound (fresh_of rate).board ≡ true
unfolding fresh_of
made_sound rate =
    choose (λ (a : DirectAnswer). sound a.board ≡ true) (sound_rate rate) (λ e. good-sound (fresh_good rate e))
    (λ _. fresh-sound)

-- ---- each call

module _ {rate : ℕ} {b : Board} (g : Good rate b) where
  -- one that changes nothing
  wired-good : Good rate (wired b)
  wired-good = rw (wired_sound b (good-sound g)) g

  -- one that changes the controller alone
  controller-good : (q : IrqController) → ControllerFits q → Good rate (wired (with_controller q b))
  controller-good q f = parts-good (controller-parts (good-parts g) q f)

  -- an advance
  pub advanced_good : (c : ℕ) → Good rate (advanced_board c b)
  unfolding advanced_board moved_board
  advanced_good c =
      let p = own-parts g in
      let ts = b.timers in
      let e = b.timer_enable in
      at-rate g
      (parts-good
      (clock-parts
      (timers-parts p (advanced_all e c ts) (map-length (λ k h. advanced (bit k e) c h) 0 ts ∙ p.four)
      (channels-kept e c 0 ts p.timers))
      (advance_clock (rate_of b.clock) c b.clock)
      (advance_good (rate_of b.clock) (three-rate (rate_of b.clock) p.known) c b.clock p.clock)))

  -- a host time
  pub hosted-good : (h : HostTime) → HostSound h → Good rate (board_after (host_time_to h) b)
  hosted-good h s =
      let p = good-parts g in
      parts-good (clock-parts p (with_host h b.clock) (host_good rate h b.clock s p.clock))

-- a host time that is not refused
host_small : (h : HostTime) → host_time_refusal h ≡ 0 → h.nanoseconds < nanos_per_second
unfolding host_time_refusal
host_small h z =
    either (leb nanos_per_second h.nanoseconds)
    (λ e. let seven : ◌≡◌ {A = ℕ} 7 0 = rw e at z in absurd (omega arith))
    (λ e. leb-false nanos_per_second h.nanoseconds e)

pub host_time_keeps : (h : HostTime) → Keeps (host_time_to h)
host_time_keeps h rate b f g z = hosted-good g h (record { word = f.1; small = host_small h z })

pub advance_keeps : (c : ℕ) → Keeps (advance_by c)
unfolding advanced_board
advance_keeps c rate b f g z = advanced_good g c

pub deadline_keeps : Keeps Deadline
deadline_keeps rate b f g z = wired-good g

moved_good : {rate : ℕ} (o : Option ℕ) (b : Board) → Good rate b → Good rate (wired (moved_by o b))
unfolding advanced_board
moved_good none b g = wired-good g
moved_good (some n) b g = advanced_good g n

pub skip_keeps : Keeps Skip
skip_keeps rate b f g z = moved_good (skip_length b) b g

pub source_keeps : (number level : ℕ) → Keeps (Source number level)
source_keeps number level rate b f g z =
    controller-good g (source_set b.controller number (eqb level 1))
    (source_fits b.controller g.fits.controller number (eqb level 1))

pub controller_read_keeps : (address : ℕ) → Keeps (ControllerRead address)
controller_read_keeps address rate b f g z = wired-good g

pub controller_write_keeps : (byte address : ℕ) → Keeps (ControllerWrite byte address)
controller_write_keeps byte address rate b f g z =
    controller-good g (controller_written b.controller address byte)
    (written-fits b.controller g.fits.controller address byte f.0)

pub output_keeps : Keeps Output
output_keeps rate b f g z = wired-good g

-- ---- the answer of a direct call, refused or accepted

module _ (call : Call) (k : Keeps call) where
  pub answer-good : (rate : ℕ) (b : Board) → CallFits call → Good rate b → Good rate (answer_of call b).board
  unfolding answer_of
  answer-good rate b f g =
      let s = good-sound g in
      choose (λ (a : DirectAnswer). Good rate a.board) (eqb (refusal_of b (effect_of call b).refusal) 0)
      (λ e. k rate b f g (rw s at (eqb-true (refusal_of b (effect_of call b).refusal) 0 e)))
      (λ _. g)

  pub answer-kept : (b : Board) → CallFits call → BoardFits b → sound b ≡ true → sound (answer_of call b).board ≡ true
  answer-kept b c f s = good-sound (answer-good (rate_of b.clock) b c (good b f s))
