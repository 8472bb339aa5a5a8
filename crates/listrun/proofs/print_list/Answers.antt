-- The buffer has room for the text of either case.
use Rattle.std.proofs.Common.{arith}
use Rattle.listing.specs.Listing.{ascii}
use Rattle.listrun.proofs.Texts.{text_is, printed_long, printed_run}
use Rattle.listrun.proofs.print_list.Goals as goal
use Rattle.listrun.proofs.print_list.Goals.{then-list-gt-LIST_LIMIT, else-list-gt-LIST_LIMIT}

pub returns : goal.returns
unfolding ascii
returns c =
    let old = c.args.text.now in
    elim c.if-list-gt-LIST_LIMIT.branch [
      | then-list-gt-LIST_LIMIT w ↦
          let put = w.put_text-length.ensures in
          rw (w.length-is, w.text-is)
          (text_is _ _ old _ _ (printed_long _ w.if-list-gt-LIST_LIMIT.true) put.value put.text_after
          (omega (arith, c.fits-text)))
      | else-list-gt-LIST_LIMIT w ↦
          let ran = w.run_list-length.ensures in
          rw (w.length-is, w.text-is)
          (text_is _ _ old _ _ (printed_run _ _ w.if-list-gt-LIST_LIMIT.false (omega (arith, c.fits-answers))) ran.value
          ran.text_after (omega (arith, ran.value, ran.upper_bound, c.fits-text, c.fits-answers)))
    ]
