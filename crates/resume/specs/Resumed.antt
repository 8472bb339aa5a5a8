-- S-1, 'Parked boards': a run over a parked board, which is written back into the bytes that it was read from.
use Rattle.std.specs.Prelude.{ℕ, cond, List, length, eqb}
use Rattle.image.specs.Image.{image_of}
use Rattle.parking.specs.Parking.{reading_of, reading_refusal}
use Rattle.list.specs.Run.{Run, run_of, over}
use Rattle.board.specs.Refusals.{refusal_code}
use Rattle.resume.specs.declared.Resumed.{Resumed as Said}

-- what a run over a parked board gives: the refusal, of the image or else of the run, 0 for none, and the run's counts:
-- the calls done, the list bytes that they used, and the answer bytes
pub record Resumed : Type 0 where
  pub refusal : ℕ
  pub calls : ℕ
  pub used : ℕ
  pub written : ℕ

-- what the code's result says
abbrev pub resumed_said : Said → Resumed
resumed_said r =
    record {
      refusal = refusal_code r.end;
      calls = r.done.calls;
      used = r.done.used;
      written = r.done.written;
    }

-- document 01's run of a list over the board of an image, with this room for the answers
abbrev pub run_parked : List ℕ → List ℕ → ℕ → Run
run_parked image l room = run_of (reading_of image).board l room

-- a refused image gives its refusal and counts 0; otherwise refusal and counts are the run's
unfoldable pub resumed_of : List ℕ → List ℕ → ℕ → Resumed
resumed_of image l room =
    cond (eqb (reading_refusal image) 0)
    (record {
      refusal = (run_parked image l room).outcome.refusal;
      calls = (run_parked image l room).outcome.calls;
      used = (run_parked image l room).outcome.used;
      written = (run_parked image l room).outcome.written;
    })
    (record { refusal = reading_refusal image; calls = 0; used = 0; written = 0 })

-- the image afterwards: that of the board that the run left, in the form that was read; a refused image stays
unfoldable pub image_after : List ℕ → List ℕ → ℕ → List ℕ
image_after image l room =
    cond (eqb (reading_refusal image) 0) (image_of (reading_of image).form (run_parked image l room).outcome.board)
    image

unfoldable pub answers_after : List ℕ → List ℕ → List ℕ → List ℕ
answers_after image l old =
    cond (eqb (reading_refusal image) 0) (over (run_parked image l (length old)).answers old) old
