-- What a run over a parked board answers, where the image is refused and where it is read. Assumes nothing.
use Prim.Native.Nat.{ℕ, ◌<◌}
use native.Mathlib.Omega.{arith}
use mathlib.Core.Path.{◌≡◌, refl, sym, ap, ap₂, ◌∙◌}
use mathlib.Core.Bool.{true, false}
use mathlib.Core.List.{List, [], append-nil}
use lib.ListN.{length, get_or, drop, drop_of_length-le}
use lib.Dec.{eqb}
use borrow.Author.Tests.{eq-eqb, le-ltb}
use Rattle.clock.specs.Clock.{rate_of}
use Rattle.board.specs.declared.Board.{Board}
use Rattle.board.specs.Board.{sound}
use Rattle.image.specs.declared.Form.{Form}
use Rattle.image.specs.Image.{image_length, image_of}
use Rattle.parking.specs.Parking.{Reading, form_takes, buffer_after, reading_refusal, reading_of}
use Rattle.parking.proofs.RoundTrip.{refusal_is, accepted_sound, accepted-long, accepted-rate, accepted-fits}
use Rattle.list.specs.Run.{Outcome, run_of, over}
use Rattle.list.proofs.Kept.{run_sound, run-rate}
use Rattle.resume.specs.Resumed.{Resumed, run_parked, resumed_of, image_after, answers_after}

-- nothing done, with a refusal
abbrev nothing : ℕ → Resumed
nothing n = record { refusal = n; calls = 0; used = 0; written = 0 }

-- ---- a refused image

module _ (image l a : List ℕ) (r : Reading) (e : r ≡ reading_of image) (n : eqb r.refusal 0 ≡ false) where
  refused : eqb (reading_refusal image) 0 ≡ false
  refused = ap (λ (k : ℕ). eqb k 0) (sym (refusal_is image r e)) ∙ n

  pub resumed-refused : (nothing r.refusal ≡ resumed_of image l (length a))
      × ((image ≡ image_after image l (length a)) × (a ≡ answers_after image l a))
  unfolding resumed_of image_after answers_after
  resumed-refused =
      (ap nothing (refusal_is image r e) ∙ sym (rw refused refl), (sym (rw refused refl), sym (rw refused refl)))

-- ---- an image that is read

-- the board that the run left is written over the whole image
written_over : (f : Form) (b : Board) (image : List ℕ) → sound b ≡ true → form_takes f (rate_of b.clock) ≡ true →
    length image ≡ image_length f → buffer_after f b image ≡ image_of f b
unfolding buffer_after
written_over f b image s t n =
    let none : drop (image_length f) image ≡ [] = drop_of_length-le image {i = image_length f} (omega (arith, n)) in
    rw (s, t, le-ltb (length image) (image_length f) (omega (arith, n)), none) (append-nil (image_of f b))

module _ (image l a : List ℕ) (bytes : (i : ℕ) → get_or image i 0 < 256) (list-bytes : (i : ℕ) → get_or l i 0 < 256)
    (r : Reading) (e : r ≡ reading_of image) (z : r.refusal ≡ 0) where
  accepted : (reading_of image).refusal ≡ 0
  accepted = sym (ap (λ (x : Reading). x.refusal) e) ∙ z

  taken : eqb (reading_refusal image) 0 ≡ true
  taken = eq-eqb (reading_refusal image) 0 (sym (refusal_is image r e) ∙ z)

  -- the board that the run leaves is sound
  left-sound : sound (run_parked image l (length a)).outcome.board ≡ true
  left-sound =
      run_sound (reading_of image).board l (length a) (accepted-fits image bytes accepted) list-bytes
      (accepted_sound image accepted)

  -- and at the rate of the image's, which its form takes
  left-rate : form_takes (reading_of image).form (rate_of (run_parked image l (length a)).outcome.board.clock) ≡ true
  left-rate =
      ap (form_takes (reading_of image).form)
      (run-rate (reading_of image).board l (length a) (accepted-fits image bytes accepted) list-bytes)
      ∙ accepted-rate image accepted

  module _ (o : Outcome) (x w : List ℕ)
      (ran : o ≡ (run_of r.board l (length a)).outcome)
      (answered : x ≡ over (run_of r.board l (length a)).answers a)
      (written : w ≡ buffer_after r.form o.board image) where
    same_outcome : o ≡ (run_parked image l (length a)).outcome
    same_outcome = ran ∙ ap (λ (y : Reading). (run_of y.board l (length a)).outcome) e

    same-answers : x ≡ over (run_parked image l (length a)).answers a
    same-answers = answered ∙ ap (λ (y : Reading). over (run_of y.board l (length a)).answers a) e

    same-image : w ≡ image_of (reading_of image).form (run_parked image l (length a)).outcome.board
    same-image =
        written
        ∙ ap₂ (λ (f : Form) (y : Outcome). buffer_after f y.board image)
        (ap (λ (y : Reading). y.form) e) same_outcome
        ∙ written_over (reading_of image).form (run_parked image l (length a)).outcome.board image left-sound left-rate
        (accepted-long image accepted)

    pub resumed-read :
        (record { refusal = o.refusal; calls = o.calls; used = o.used; written = o.written }
        ≡ resumed_of image l (length a))
        × ((w ≡ image_after image l (length a)) × (x ≡ answers_after image l a))
    unfolding resumed_of image_after answers_after
    resumed-read = (
      ap
          (λ (y : Outcome). record { refusal = y.refusal; calls = y.calls; used = y.used; written = y.written })
          same_outcome
          ∙ sym (rw taken refl),
      (same-image ∙ sym (rw taken refl), same-answers ∙ sym (rw taken refl)),
    )
