-- A byte written changes one part of the board, by its offset, and the board with that part changed is the rule's.
-- Assumes nothing.
use Prim.Native.Nat.{ℕ, ◌%◌}
use native.Mathlib.Omega.{arith}
use mathlib.Core.Path.{◌≡◌, refl, sym, ap, ◌∙◌}
use mathlib.Core.Bool.{Bool, true, false, ◌&&◌, and-false, false≢true}
use lib.Dec.{eqb}
use borrow.Author.Tests.{eqb-true, ne_eqb, eqb-false}
use Rattle.wide.proofs.Choices.{choose, either}
use Rattle.board.specs.declared.Board.{Board}
use Rattle.board.specs.Registers.{
  timer_enable_at,
  timer_ack_at,
  Inside,
  last_of,
  four_bytes,
  in_register,
  timer_block,
  in_timers,
  clock_block,
  in_clock,
  channel_blocks,
  in_channels,
  register_of,
  channel_of,
}
use Rattle.board.specs.RegisterWrites.{timer_written, written_at}
use Rattle.regmap.proofs.Ranges.{inside, above, bounds}
use Rattle.registers.specs.declared.writes.WritePart.{WritePart}
use Rattle.registers.specs.declared.writes.WritePart.TheVariants.{Nothing, Enable, Acknowledge, Clock, Channel}
use Rattle.registers.specs.CodeReads.{channel_index}
use Rattle.registers.specs.CodeWrites.{part_of, written_by}

module _ (o : ℕ) where
  -- ---- the part

  -- a channel's register is in the channels' blocks
  is_channel : WritePart → Bool
  is_channel Nothing = false
  is_channel Enable = false
  is_channel Acknowledge = false
  is_channel Clock = false
  is_channel Channel = true

  in-channels : part_of o ≡ Channel → in_channels o ≡ true
  unfolding part_of is_channel
  in-channels =
      choose P (in_register timer_enable_at o) (λ _. other Enable refl)
      (λ _. choose P (eqb o (last_of timer_ack_at)) (λ _. other Acknowledge refl)
      (λ _. choose P (in_clock o) (λ _. other Clock refl)
      (λ _. choose P (in_channels o) (λ e _. e) (λ _. other Nothing refl))))
    where
      P : WritePart → Type 0
      P p = p ≡ Channel → in_channels o ≡ true

      other : (p : WritePart) → is_channel p ≡ false → P p
      other p n e = absurd (false≢true (sym n ∙ ap is_channel e))

  pub channel-range : part_of o ≡ Channel → Inside channel_blocks o
  channel-range e = bounds channel_blocks o (in-channels e)

  -- the channel of such an offset
  pub channel-index : part_of o ≡ Channel → channel_index o ≡ channel_of o
  unfolding channel_index
  channel-index e = rw (in-channels e)

  -- ---- the board

  module _ (v : ℕ) (b : Board) where
    -- the other registers of the timers take no byte
    timers-kept : in_register timer_enable_at o ≡ false → eqb o (last_of timer_ack_at) ≡ false → in_timers o ≡ true →
        timer_written (register_of o) (o % 4) v b ≡ b
    unfolding timer_written
    timers-kept p a t =
        let w = bounds timer_block o t in
        let not-enable : eqb (register_of o) timer_enable_at ≡ false =
        ne_eqb (register_of o) timer_enable_at
        (λ h. false≢true (sym p ∙ inside (four_bytes timer_enable_at) o (omega (arith, h)) (omega (arith, h)))) in
        let unacknowledged : (eqb (register_of o) timer_ack_at && eqb (o % 4) 3) ≡ false =
        either (eqb (o % 4) 3)
        (λ e. let h = eqb-true (o % 4) 3 e in
        rw (ne_eqb (register_of o) timer_ack_at (λ g. eqb-false o (last_of timer_ack_at) a (omega (arith, g, h)))))
        (λ e. rw (e, and-false)) in
        rw (not-enable, unacknowledged)

    pub written_is : written_at o v b ≡ written_by (part_of o) o v b
    unfolding written_at part_of timer_written channel_index
    written_is =
        choose P (in_register timer_enable_at o)
        (λ e. let w = bounds (four_bytes timer_enable_at) o e in
        let r : register_of o ≡ timer_enable_at = omega (arith, w.0, w.1) in
        rw (inside timer_block o (omega (arith, w.0)) (omega (arith, w.1)), r))
        (λ p. choose P (eqb o (last_of timer_ack_at)) (λ e. rw (eqb-true o (last_of timer_ack_at) e))
        (λ a. choose P (in_clock o)
        (λ e. rw (above timer_block o (omega (arith, (bounds clock_block o e).0)), e))
        (λ k. choose P (in_channels o)
        (λ e. rw (above timer_block o (omega (arith, (bounds channel_blocks o e).0)), k, e))
        (λ c. either (in_timers o) (λ t. rw t (timers-kept p a t)) (λ t. rw (t, k, c))))))
      where
        P : WritePart → Type 0
        P p = written_at o v b ≡ written_by p o v b
