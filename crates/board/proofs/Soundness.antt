-- What soundness says of a board, clause by clause, and back. Assumes nothing.
use Prim.Native.Nat.{ℕ, suc, ◌<◌}
use native.Mathlib.Omega.{arith}
use mathlib.Core.Path.{◌≡◌, refl, sym, ◌∙◌}
use mathlib.Core.Bool.{Bool, true, false, ◌&&◌, beq, false≢true}
use mathlib.Core.List.{List, [], ◌∷◌}
use lib.Dec.{ltb}
use borrow.Author.Tests.{ltb-true, lt-ltb}
use Rattle.wide.specs.Bits.{bit}
use Rattle.wide.proofs.Choices.{and_parts, and_join}
use Rattle.clock.specs.Clock.{rate_of}
use Rattle.clock.specs.Sound.{ClockFits, sound_rate, sound_clock}
use Rattle.clock.proofs.Soundness.{GoodClock, clock-good}
use Rattle.controller.proofs.Laws.{level_set, steady}
use Rattle.board.specs.Fields.{Latch}
use Rattle.std.specs.Prelude.{None, Some}
use Rattle.board.specs.declared.CountLatch.{CountLatch}
use Rattle.board.specs.declared.Latches.{Latches}
use Rattle.board.specs.declared.Board.{Board}
use Rattle.board.specs.Loops.{fold_from}
use Rattle.board.specs.Channels.{all_sound}
use Rattle.board.specs.Board.{sound_latch, sound_latches, sound_parts, sound_level, sound, line, wired}

-- ---- latches: an empty one has no value but 0

latch_sound : (l : Latch) → sound_latch l ≡ true
latch_sound None = refl
latch_sound (Some v) = refl

counts_sound : (k : ℕ) (ls : List CountLatch) → fold_from (λ _ l. sound_latch l.high) ◌&&◌ true k ls ≡ true
unfolding fold_from
counts_sound k [] = refl
counts_sound k (l ∷ ls) =
    and_join (sound_latch l.high) (fold_from (λ _ m. sound_latch m.high) ◌&&◌ true (suc k) ls)
    (latch_sound l.high)
    (counts_sound (suc k) ls)

pub latches_sound : (ls : Latches) → sound_latches ls ≡ true
latches_sound ls =
    rw (counts_sound 0 ls.counts, latch_sound ls.low, latch_sound ls.high)

-- ---- two flags that are the same

beq_refl : (v : Bool) → beq v v ≡ true
beq_refl true = refl
beq_refl false = refl

beq_true : (v w : Bool) → beq v w ≡ true → v ≡ w
beq_true true true e = refl
beq_true true false e = absurd (false≢true e)
beq_true false true e = absurd (false≢true e)
beq_true false false e = refl

-- ---- the clauses

pub record SoundFacts (b : Board) : Type 0 where
  pub timers : all_sound b.timers ≡ true
  pub enable : b.timer_enable < 16
  pub rate : sound_rate (rate_of b.clock) ≡ true
  pub clock : sound_clock (rate_of b.clock) b.clock ≡ true
  pub level : bit 3 b.controller.levels ≡ line b

module _ (b : Board) where
  abbrev inner : Bool
  inner = sound_clock (rate_of b.clock) b.clock && sound_latches b.latches

  abbrev rated : Bool
  rated = sound_rate (rate_of b.clock) && inner

  abbrev outer : Bool
  outer = ltb b.timer_enable 16 && rated

  pub sound_facts : sound b ≡ true → SoundFacts b
  unfolding sound sound_parts
  sound_facts e =
      let p = and_parts (sound_parts b) (sound_level b) e in
      let q = and_parts (all_sound b.timers) outer p.0 in
      let r = and_parts (ltb b.timer_enable 16) rated q.1 in
      let k = and_parts (sound_rate (rate_of b.clock)) inner r.1 in
      let s = and_parts (sound_clock (rate_of b.clock) b.clock) (sound_latches b.latches) k.1 in
      record {
        timers = q.0;
        enable = ltb-true b.timer_enable 16 r.0;
        rate = k.0;
        clock = s.0;
        level = beq_true (bit 3 b.controller.levels) (line b) p.1;
      }

  pub sound_line : sound b ≡ true → bit 3 b.controller.levels ≡ line b
  sound_line e = (sound_facts e).level

  pub facts_sound : SoundFacts b → sound b ≡ true
  unfolding sound sound_parts
  facts_sound f =
      and_join (sound_parts b) (sound_level b)
      (and_join (all_sound b.timers) outer f.timers
      (and_join (ltb b.timer_enable 16) rated (lt-ltb b.timer_enable 16 f.enable)
      (and_join (sound_rate (rate_of b.clock)) inner f.rate
      (and_join (sound_clock (rate_of b.clock) b.clock) (sound_latches b.latches) f.clock
      (latches_sound b.latches)))))
      (rw f.level (beq_refl (line b)))

  -- the facts of its clock
  pub clock_facts : ClockFits b.clock → sound b ≡ true → GoodClock (rate_of b.clock) b.clock
  clock_facts f e = clock-good (rate_of b.clock) b.clock f refl (sound_facts e).clock

  -- ---- source 3 is set to the line

  -- which stays
  pub wired_line : line (wired b) ≡ line b
  unfolding line wired
  wired_line = refl

  -- and is the level of source 3 then
  pub wired_level : bit 3 (wired b).controller.levels ≡ line (wired b)
  unfolding wired
  wired_level = level_set b.controller 3 (line b) (omega arith) ∙ sym wired_line

  -- source 3 of a sound board is at the line already
  pub wired_sound : sound b ≡ true → wired b ≡ b
  unfolding wired
  wired_sound e = rw (steady b.controller 3 (line b) (sound_facts e).level)
