-- The line of one answer more is put, and bytes that are no whole answer have none.
use mathlib.Core.Path.{sym, ap, ◌∙◌}
use mathlib.Core.List.{◌++◌, append_assoc, append-nil}
use Rattle.listing.proofs.Lines.{last_line}
use Rattle.listing.proofs.Puts.{put_is, put_then, counted-next}
use Rattle.listing.proofs.Answers.{next_record}
use Rattle.listing.proofs.Text.put_answers.Goals as goal

pub put_line-requires : goal.put_line-requires
put_line-requires c =
    let h = c.loop-record.invariant in
    let w = c.in-Some.ensures in
    counted-next h.put _ _ (h.all ∙ ap (λ t. h.done ++ t) (next_record c.loop-record.left.now w.0 w.1 w.2)) c.requires

pub loop-record-preserved : goal.loop-record-preserved
loop-record-preserved c =
    let h = c.loop-record.invariant in
    let w = c.in-Some.ensures in
    record {
      done = _;
      put = put_then h.put c.put_line.ensures;
      all =
          h.all ∙ ap (λ t. h.done ++ t) (next_record c.loop-record.left.now w.0 w.1 w.2)
          ∙ sym (append_assoc h.done _ _);
    }

pub returns : goal.returns
returns c =
    let h = c.loop-record.invariant in
    let none = last_line c.loop-record.left.now c.in_default.ensures in
    put_is (sym (h.all ∙ ap (λ t. h.done ++ t) none ∙ append-nil h.done)) h.put
