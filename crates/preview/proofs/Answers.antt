-- What a preview answers and writes, refused or accepted, of a board and of a parked one. Assumes nothing.
use Prim.Native.Nat.{ℕ, ◌<◌, ◌^◌}
use native.Mathlib.Omega.{arith}
use mathlib.Core.Path.{◌≡◌, refl, sym, ap, ◌∙◌, subst}
use mathlib.Core.Bool.{Bool, true, false, cond}
use mathlib.Core.List.{List, [], map, ◌++◌}
use lib.ListN.{length, get_or, drop}
use lib.Dec.{ltb, eqb}
use Rattle.wide.specs.Bits.{flag_of}
use Rattle.clock.specs.Clock.{from_host}
use Rattle.board.specs.declared.Board.{Board}
use Rattle.std.proofs.Common.{Option as Given, Result, Ok, Err}
use Rattle.channel.specs.declared.Cycles.{Cycles}
use Rattle.board.specs.declared.refusal.Refusal.{Refusal}
use Rattle.board.specs.Refusals.{refusal_number, refusal_code}
use Rattle.board.specs.Answers.{answered, no_members}
use Rattle.board.specs.Board.{BoardFits, sound}
use Rattle.board.specs.Calls.{refusal_of}
use Rattle.board.proofs.Answers.{some_refusal, unsound_first}
use Rattle.parking.specs.declared.Parked.{Parked}
use Rattle.parking.specs.Parking.{Reading, buffer_short, reading_of, reading_refusal}
use Rattle.parking.specs.Answers.{reading_said}
use Rattle.format.proofs.Members.{Bytes}
use Rattle.parking.proofs.RoundTrip.{refusal_is, accepted_sound, accepted-fits}
use Rattle.preview.specs.Preview.{
  clock_in_realtime,
  preview_refusal,
  preview_byte,
  preview_of,
  previewed_buffer,
  parked_preview_refusal,
  parked_preview_buffer,
}
use Rattle.preview.specs.CodeReach.{high_from, reaches}
use Rattle.preview.proofs.Shown.{skip_shows}
use Rattle.preview.proofs.Bytes.{map_words}

-- ---- of a board

-- no refusal of its own: the clock does not run from host time, and the buffer is not short
own_none : (host short : Bool) → cond host clock_in_realtime (cond short buffer_short 0) ≡ 0 →
    (host ≡ false) × (short ≡ false)
own_none true short e = absurd (omega arith)
own_none false true e = absurd (omega arith)
own_none false false e = (refl, refl)

module _ (b : Board) (totals old : List ℕ) where
  -- 1 comes first
  pub preview-unsound : (d : Refusal) → refusal_number d ≡ refusal_of b 0 →
      refusal_number d ≡ preview_refusal b (length totals) (length old)
  unfolding preview_refusal
  preview-unsound d e = unsound_first b _ d e

  -- then what refuses a sound board
  pub preview-own : sound b ≡ true → (host : Bool) → host ≡ from_host b.clock.control → (r : ℕ) →
      r ≡ cond host clock_in_realtime (cond (ltb (length old) (length totals)) buffer_short 0) →
      r ≡ preview_refusal b (length totals) (length old)
  unfolding preview_refusal
  preview-own s host from r e = rw (e, from, s) refl

  -- refused
  pub preview-left : (d : Refusal) → refusal_number d ≡ preview_refusal b (length totals) (length old) →
      old ≡ previewed_buffer b totals old
  unfolding previewed_buffer
  preview-left d e = rw (← e, some_refusal d) refl

  -- accepted: host is what the code finds, whether the clock runs from host time
  module _ (host : Bool) (from : host ≡ from_host b.clock.control)
      (e : 0 ≡ cond host clock_in_realtime (cond (ltb (length old) (length totals)) buffer_short 0)) where
    -- p is from how many cycles on the line is high
    module _ (s : sound b ≡ true) (f : BoardFits b) (words : (i : ℕ) → get_or totals i 0 < 2 ^ 64)
        (p : Given Cycles) (q : p ≡ high_from b) where
      byte-is : (t : ℕ) → t < 2 ^ 64 → flag_of (reaches p t) ≡ preview_byte b t
      byte-is t l =
          ap (λ (x : Bool). flag_of x)
          (skip_shows b f s (sym from ∙ (own_none host (ltb (length old) (length totals)) (sym e)).0) p q t
          (omega (arith, l)))

      pub preview-written : (new : List ℕ) →
          new ≡ map (λ t. flag_of (reaches p t)) totals ++ drop (length totals) old →
          new ≡ previewed_buffer b totals old
      unfolding previewed_buffer
      preview-written new w =
          rw (← preview-own s host from 0 e)
          (w ∙ ap (λ (x : List ℕ). x ++ drop (length totals) old)
          (map_words _ (preview_byte b) (2 ^ 64) byte-is totals words))

-- a preview's answer has no members
pub preview_answers : (b : Board) (count room : ℕ) (r : Result (Unit {0}) Refusal) →
    refusal_code r ≡ preview_refusal b count room →
    answered no_members (record { board = b; answer = r }) ≡ preview_of b count room
unfolding preview_of
preview_answers b count room (Ok _) e = ap (λ (n : ℕ). record { board = b; refusal = n; members = [] }) e
preview_answers b count room (Err d) e = ap (λ (n : ℕ). record { board = b; refusal = n; members = [] }) e

-- ---- of a parked board

-- the board that is read is sound and within its widths
pub parked_sound : (image : List ℕ) → Bytes image → (p : Parked) → reading_said (Ok p) ≡ reading_of image →
    (sound p.board ≡ true) × BoardFits p.board
parked_sound image bytes p e =
    let z : (reading_of image).refusal ≡ 0 = sym (ap (λ (x : Reading). x.refusal) e) in
    subst (λ (b : Board). (sound b ≡ true) × BoardFits b) (sym (ap (λ (x : Reading). x.board) e))
    (accepted_sound image z, accepted-fits image bytes z)

module _ (image totals old : List ℕ) where
  pub parked-refused : (d : Refusal) → reading_said (Err d) ≡ reading_of image →
      (refusal_number d ≡ parked_preview_refusal image (length totals) (length old))
      × (old ≡ parked_preview_buffer image totals old)
  unfolding parked_preview_refusal parked_preview_buffer
  parked-refused d e =
      let same : refusal_number d ≡ reading_refusal image = refusal_is image (reading_said (Err d)) e in
      let k : eqb (reading_refusal image) 0 ≡ false = rw (← same) (some_refusal d) in
      (rw k same, rw k refl)

  pub parked-accepted : (p : Parked) → reading_said (Ok p) ≡ reading_of image → (r : ℕ) (new : List ℕ) →
      r ≡ preview_refusal p.board (length totals) (length old) → new ≡ previewed_buffer p.board totals old →
      (r ≡ parked_preview_refusal image (length totals) (length old))
      × (new ≡ parked_preview_buffer image totals old)
  unfolding parked_preview_refusal parked_preview_buffer
  parked-accepted p e r new f g =
      let k : eqb (reading_refusal image) 0 ≡ true = rw (← refusal_is image (reading_said (Ok p)) e) refl in
      let board : p.board ≡ (reading_of image).board = ap (λ (x : Reading). x.board) e in (
        rw k (f ∙ ap (λ (x : Board). preview_refusal x (length totals) (length old)) board),
        rw k (g ∙ ap (λ (x : Board). previewed_buffer x totals old) board),
      )
