-- The calls 01 and 04 that a run carries out one after another are a list of the deadline's promise. Assumes nothing.
use Prim.Native.Nat.{ℕ, ◌-◌, ◌<◌}
use native.Mathlib.Omega.{arith}
use mathlib.Core.Path.{◌≡◌, sym, ap, ◌∙◌}
use mathlib.Core.Bool.{false}
use mathlib.Core.List.{List, ◌++◌, append_assoc}
use lib.ListN.{length, take, get_or}
use Rattle.clock.specs.Clock.{rate_of, from_host}
use Rattle.board.specs.declared.Board.{Board}
use Rattle.board.specs.declared.calls.Call.{Call}
use Rattle.board.specs.Loops.{All}
use Rattle.board.specs.Board.{BoardFits, line}
use Rattle.board.specs.Demand.{PassesTime, after_all}
use Rattle.board.specs.Kept.{Good}
use Rattle.board.proofs.Good.{good-sound}
use Rattle.board.proofs.Demand3.{demand_3}
use Rattle.list.specs.Run.{Run, run_of, joined}
use Rattle.list.specs.Demand.{ListIs}
use Rattle.list.proofs.TwoParts.{two-parts}
use Rattle.list.proofs.Kept.{began_sound, run-keeps}
use Rattle.list.proofs.Demand.{bytes_before, bytes_behind, run_ends}
use Rattle.resume.specs.Carried.{carried_by}
use Rattle.resume.specs.InRuns.{Stretch}
use Rattle.resume.proofs.Carried.{run-carries, carries-first, carries-all, all_take}

-- of a run over b whose list is `first`, `stretch` and `last`, one after another: the calls are those of the stretch
module _ (b : Board) (first stretch last : List ℕ) (room : ℕ) (calls : List Call) where
  abbrev Before : Run
  Before = run_of b first room

  abbrev Through : Run
  Through = run_of b (first ++ stretch) room

  abbrev AtStart : Board
  AtStart = Before.outcome.board

  abbrev CarriedOut : List Call
  CarriedOut = take (Through.outcome.calls - Before.outcome.calls) calls

  -- the stretch by itself, over the board at its start
  abbrev Alone : Run
  Alone = run_of AtStart stretch (room - length Before.answers)

  -- by parts: the run through the stretch is the run up to it, and then the stretch by itself
  module _ (e : Through ≡ joined Before Alone) (g : Good (rate_of b.clock) AtStart)
      (bytes : (i : ℕ) → get_or stretch i 0 < 256) (h : ListIs stretch calls) where
    abbrev Left : ℕ
    Left = room - length Before.answers

    alone-calls : Alone.outcome.calls ≡ Through.outcome.calls - Before.outcome.calls
    alone-calls = omega (arith, ap (λ (q : Run). q.outcome.calls) e)

    carried-are : carried_by AtStart stretch Left ≡ CarriedOut
    carried-are =
        carries-first AtStart stretch Left g.fits (good-sound g) bytes calls h
        ∙ ap (λ (n : ℕ). take n calls) alone-calls

    ends_at : Through.outcome.board ≡ after_all CarriedOut AtStart
    ends_at =
        ap (λ (q : Run). q.outcome.board) e
        ∙ (run-carries AtStart stretch Left g.fits (good-sound g) bytes).board
        ∙ ap (λ (cs : List Call). after_all cs AtStart) carried-are

    all-carried : Through.outcome.refusal ≡ 0 → CarriedOut ≡ calls
    all-carried z =
        sym carried-are
        ∙ carries-all AtStart stretch Left g.fits (good-sound g) bytes calls h
        (sym (ap (λ (q : Run). q.outcome.refusal) e) ∙ z)

  -- what is promised of the deadline holds of every stretch of calls 01 and 04 of a run, whatever stands before it and
  -- behind it
  pub run-demand-3 : BoardFits b → ((i : ℕ) → get_or (first ++ stretch) i 0 < 256) → All PassesTime calls →
      ListIs stretch calls → Before.outcome.refusal ≡ 0 → line AtStart ≡ false →
      from_host AtStart.clock.control ≡ false → Stretch b first stretch last room calls
  run-demand-3 f bytes w h z low o =
      let few = bytes_before first stretch bytes in
      let those = bytes_behind first stretch bytes in
      let g = run-keeps b first room f few (began_sound b first room z) in
      let e = two-parts b first stretch room f few z in
      record {
        board = ends_at e g those h;
        all = all-carried e g those h;
        promise = demand_3 AtStart g.fits (good-sound g) low o CarriedOut
            (all_take PassesTime (Through.outcome.calls - Before.outcome.calls) calls w);
        goes_on = two-parts b (first ++ stretch) last room f bytes;
        ends = λ r.
            ap (λ (l : List ℕ). run_of b l room) (append_assoc first stretch last)
            ∙ two-parts b first (stretch ++ last) room f few z
            ∙ ap (joined Before)
            (run_ends AtStart stretch last (room - length Before.answers) calls (good-sound g) h
            (λ y. r (ap (λ (q : Run). q.outcome.refusal) e ∙ y)))
            ∙ sym e;
      }
