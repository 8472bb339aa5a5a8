-- The record's list and answers stand behind its numbers, and the other bytes behind them.
use Rattle.std.proofs.Common.{◌≡◌, ◌+◌, drop, arith, ap, ◌∙◌, add_assoc}
use lib.Seq.{drop-drop}
use Rattle.std.proofs.lemmas.List.{take_rest}
use Rattle.recording.proofs.Record.first.Goals as goal

pub returns : goal.returns
returns c =
    let h = c.header_at-header.result in
    let s = c.args.s.now in
    let back : c.split_at.result.1.now ≡ drop (12 + h.list) s =
    c.split_at.ensures.back ∙ ap (drop h.list) (take_rest s 12) ∙ drop-drop h.list 12 s in (
      omega arith,
      rw (← c.header_at-header.ensures) (c.fits.ensures.0 c.if-not-fits.false),
      c.header_at-header.ensures,
      simp take_rest at c.split_at.ensures.front,
      rw back at c.split_at-2.ensures.front,
      c.split_at-2.ensures.back ∙ ap (drop h.results.done.written) back
          ∙ rw add_assoc at (drop-drop h.results.done.written (12 + h.list) s),
    )
