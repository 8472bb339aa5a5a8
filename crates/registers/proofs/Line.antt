-- Where a read and a write leave the line as it was, and that source 3 of the controller then needs no setting.
-- Assumes nothing.
use Prim.Native.Nat.{ℕ}
use native.Mathlib.Omega.{arith}
use mathlib.Core.Path.{◌≡◌, refl, sym, ap, ◌∙◌}
use mathlib.Core.Bool.{Bool, true, false, not, ◌&&◌, ◌||◌, false≢true, beq}
use borrow.Author.Tests.{ltb-false}
use Rattle.wide.specs.Bits.{bit}
use Rattle.wide.proofs.Choices.{choose}
use Rattle.channel.specs.declared.HardwareTimer.{HardwareTimer}
use Rattle.channel.specs.Channel.{fresh_timer, line_of}
use Rattle.channel.specs.Registers.{control_at, byte_written}
use Rattle.channel.proofs.Law.{written_line}
use Rattle.clock.specs.declared.Clock.{Clock}
use Rattle.clock.specs.Clock.{rate_of, check_alarm}
use Rattle.clock.specs.Deadline.{clock_line}
use Rattle.controller.specs.declared.IrqController.{IrqController}
use Rattle.controller.proofs.Laws.{steady}
use Rattle.board.specs.declared.Latches.{Latches}
use Rattle.board.specs.declared.Board.{Board}
use Rattle.board.specs.Channels.{any_line}
use Rattle.board.specs.Fields.{channel_at}
use Rattle.board.specs.Board.{held_of, line, wired, sound}
use Rattle.board.proofs.Soundness.{sound_facts}
use Rattle.board.specs.Registers.{register_of, byte_of, place_of}
use Rattle.board.specs.RegisterWords.{timer_word}
use Rattle.registers.specs.declared.reads.LatchedReading.{LatchedReading}
use Rattle.registers.specs.declared.writes.WritePart.{WritePart}
use Rattle.registers.specs.declared.writes.WritePart.TheVariants.{
  Nothing,
  Enable,
  Acknowledge,
  Channel,
  Clock as ofClock,
}
use Rattle.registers.specs.CodeReads.{
  channel_index,
  filled,
  serving,
  reading_by,
  reading_of,
  offset_reading,
  after_reading,
}
use Rattle.registers.specs.CodeWrites.{written_by, at_control, moves_line}
use Rattle.registers.proofs.Lists.{set_fold}

-- ---- a write

-- an offset that is not at control is in another register
not_control : (o : ℕ) → at_control o ≡ false → register_of (place_of o) ≡ control_at → ⊥
not_control o e h = omega (arith, ltb-false (place_of o) 4 e, h)

pub write_still : (p : WritePart) (o v : ℕ) (b : Board) → moves_line p o ≡ false → line (written_by p o v b) ≡ line b
unfolding line
write_still Nothing o v b n = refl
write_still Enable o v b n = refl
write_still Acknowledge o v b n = absurd (false≢true (sym n))
write_still ofClock o v b n = absurd (false≢true (sym n))
write_still Channel o v b n =
    ap (λ (w : Bool). w || clock_line b.clock)
    (set_fold line_of ◌||◌ false (byte_written (register_of (place_of o)) (byte_of o) v)
    (λ h. written_line (register_of (place_of o)) (byte_of o) v h (not_control o n)) fresh_timer (channel_index o) 0
    b.timers)

-- ---- a read

-- flags that do not differ are the same
not_differ : (v w : Bool) → not (beq v w) ≡ false → v ≡ w
not_differ true true e = refl
not_differ true false e = absurd (false≢true (sym e))
not_differ false true e = absurd (false≢true (sym e))
not_differ false false e = refl

reading_still : (h : HardwareTimer) (shared : ℕ) (k : Clock) (ls : Latches) (o : ℕ) →
    (reading_of h shared k ls o).plain.rose ≡ false → (reading_of h shared k ls o).plain.pending ≡ k.alarm.pending
unfolding reading_of reading_by
reading_still h shared k ls o =
    choose (λ (r : LatchedReading). r.plain.rose ≡ false → r.plain.pending ≡ k.alarm.pending)
    (held_of (serving o (filled o h.counter k ls))) (λ _ _. refl)
    (λ _. not_differ (check_alarm (rate_of k) k).alarm.pending k.alarm.pending)

pub read_still : (o : ℕ) (b : Board) → (offset_reading o b).plain.rose ≡ false →
    line (after_reading (offset_reading o b) b) ≡ line b
unfolding line
read_still o b n =
    ap (λ (v : Bool). any_line b.timers || (v && bit 0 b.clock.alarm.enable))
    (reading_still (channel_at (channel_index o) b) (timer_word (register_of o) b.timer_enable b.timers) b.clock
    b.latches o n)

-- ---- source 3

-- of a board whose line and controller are those of a sound board
pub still_wired : (b y : Board) → sound b ≡ true → line y ≡ line b → y.controller ≡ b.controller → wired y ≡ y
unfolding wired
still_wired b y s e q =
    let level : bit 3 y.controller.levels ≡ line y =
    ap (λ (c : IrqController). bit 3 c.levels) q ∙ (sound_facts b s).level ∙ sym e in
    rw (steady y.controller 3 (line y) level)
