-- The listing is the answers' lines and the last line, and its length is one of the machine's.
use native.Mathlib.Omega.{arith}
use Rattle.listing.specs.Listing.{listing_of}
use Rattle.listing.proofs.Lines.{lines-length, end-length}
use Rattle.listing.proofs.Puts.{put_then, put_text}
use Rattle.listing.proofs.listing.Goals as goal
use Rattle.std.proofs.Common.{rules}

pub put_answers-requires : goal.put_answers-requires
put_answers-requires c =
    record { fits = omega (arith, lines-length c.args.answers.now (λ i. (c.type_inv.answers i).fits) 0) }

pub put_end-requires : goal.put_end-requires
put_end-requires c =
    record {
      fits = omega (
        arith,
        lines-length c.args.answers.now (λ i. (c.type_inv.answers i).fits) 0,
        end-length c.args.calls c.args.refusal c.args.used c.ranges.calls.fits (omega arith) c.ranges.used.fits,
      );
    }

pub returns-clause-value : goal.returns-clause-value
unfolding listing_of
returns-clause-value c = omega (arith, (put_then c.put_answers.ensures c.put_end.ensures).ends)

pub returns-clause-text_after : goal.returns-clause-text_after
unfolding listing_of
returns-clause-text_after c =
    let p = (put_then c.put_answers.ensures c.put_end.ensures).stores in
    rw (← put_text) (search (rules, p))

pub returns-clause-upper_bound : goal.returns-clause-upper_bound
returns-clause-upper_bound c =
    omega (
      arith,
      lines-length c.args.answers.now (λ i. (c.type_inv.answers i).fits) 0,
      end-length c.args.calls c.args.refusal c.args.used c.ranges.calls.fits (omega arith) c.ranges.used.fits,
    )
