-- 'Each answer prints': every call that a run carries out has its line in the listing, and nothing else has one.
-- Assumes nothing.
use Prim.Native.Nat.{ℕ, zero, suc, ◌-◌, ◌<◌}
use native.Mathlib.Omega.{arith}
use mathlib.Core.Path.{◌≡◌, refl, sym, ap, ◌∙◌}
use mathlib.Core.List.{List, [], ◌∷◌, ◌++◌, append_assoc, append-nil}
use lib.ListN.{length, length-append}
use Rattle.wide.proofs.Choices.{choose}
use Rattle.board.specs.declared.Board.{Board}
use Rattle.board.specs.Board.{sound}
use Rattle.board.specs.Calls.{not_sound, effect_of}
use Rattle.format.specs.Format.{answer_bytes, record_of}
use Rattle.format.specs.Codec.{tag_of, call_at}
use Rattle.format.proofs.Frames.{tag_below, answer-below, answer-length}
use Rattle.list.specs.Run.{Outcome, Result, done, refused, result_of, stepped, Run, run_on, nothing_done, run_of}
use Rattle.list.proofs.Results.{done_placed}
use Rattle.listing.specs.Listing.{answer_line, lines_on, answer_lines}
use Rattle.listing.proofs.Records.{record-listed}

-- the tag and the value of an answer, which a record can hold
pub record Tagged : Type 0 where
  pub tag : ℕ
  pub value : List ℕ
  pub small : (tag < 256) × (length value < 65536)

-- the records and the lines of some answers, one after another
unfoldable pub records_of : List Tagged → List ℕ
records_of [] = []
records_of (a ∷ more) = record_of a.tag a.value ++ records_of more

unfoldable pub lines_of : List Tagged → List ℕ
lines_of [] = []
lines_of (a ∷ more) = answer_line a.tag a.value ++ lines_of more

lines_are : (all : List Tagged) → answer_lines (records_of all) ≡ lines_of all
unfolding records_of lines_of lines_on
lines_are [] = refl
lines_are (a ∷ more) =
    record-listed a.tag a.value (records_of more) a.small.0 a.small.1
    ∙ ap (λ (l : List ℕ). answer_line a.tag a.value ++ l) (lines_are more)

records-end : (all : List Tagged) (a : Tagged) →
    records_of (all ++ (a ∷ [])) ≡ records_of all ++ record_of a.tag a.value
unfolding records_of
records-end [] a = append-nil (record_of a.tag a.value)
records-end (x ∷ more) a =
    ap (λ (l : List ℕ). record_of x.tag x.value ++ l) (records-end more a)
    ∙ sym (append_assoc (record_of x.tag x.value) (records_of more) (record_of a.tag a.value))

-- ---- along a run

-- as many answers as calls are done, their records are the bytes written, and the bytes are counted
record Given (s : Outcome) (bytes : List ℕ) : Type 0 where
  answers : List Tagged
  counted : s.calls ≡ length answers
  records : bytes ≡ records_of answers
  written : s.written ≡ length bytes

-- one call more
one_more : (l : List ℕ) (s : Outcome) (out : List ℕ) (room : ℕ) (b : Board) (n : ℕ) (a : List ℕ) →
    result_of s.board l room ≡ done b n a → Given s out → Given (stepped s (done b n a)) (out ++ a)
unfolding stepped
one_more l s out room b n a e g =
    let call = call_at l in
    let members = (effect_of call s.board).members in
    let y : Tagged = record {
      tag = tag_of call;
      value = answer_bytes (tag_of call) members;
      small = (tag_below call, omega (arith, answer-below call, answer-length (tag_of call) members));
    } in
    record {
      answers = g.answers ++ (y ∷ []);
      counted = omega (arith, g.counted, length-append g.answers (y ∷ []));
      records =
          ap (λ (o : List ℕ). o ++ a) g.records
          ∙ ap (λ (o : List ℕ). records_of g.answers ++ o) (done_placed s.board l room b n a e).1.1.1.1
          ∙ sym (records-end g.answers y);
      written = omega (arith, g.written, length-append out a);
    }

-- a refused call adds nothing
no_more : (s : Outcome) (out : List ℕ) (n : ℕ) → Given s out → Given (stepped s (refused n)) out
unfolding stepped
no_more s out n g = record {
  answers = g.answers;
  counted = g.counted;
  records = g.records;
  written = g.written;
}

abbrev GivenBy : Run → Type 0
GivenBy r = Given r.outcome r.answers

next_given : (x : ℕ) (l : List ℕ) (room : ℕ) (s : Outcome) (out : List ℕ) → Given s out →
    ((k : ℕ) (o : Outcome) (a : List ℕ) → Given o a → GivenBy (run_on k l room o a)) →
    (t : Result) → result_of s.board (x ∷ l) (room - length out) ≡ t → GivenBy (run_on 0 (x ∷ l) room s out)
unfolding run_on
next_given x l room s out g next (done b n a) e =
    rw (e, run_on)
    (next (n - 1) (stepped s (done b n a)) (out ++ a) (one_more (x ∷ l) s out (room - length out) b n a e g))
next_given x l room s out g next (refused n) e = rw (e, run_on) (no_more s out n g)

given_on : (k : ℕ) (l : List ℕ) (room : ℕ) (s : Outcome) (out : List ℕ) → Given s out →
    GivenBy (run_on k l room s out)
unfolding run_on
given_on k [] room s out g = g
given_on (suc k) (x ∷ l) room s out g = given_on k l room s out g
given_on zero (x ∷ l) room s out g =
    next_given x l room s out g (λ k o a. given_on k l room o a)
    (result_of s.board (x ∷ l) (room - length out)) refl

none_given : (b : Board) (n : ℕ) → Given (nothing_done b n) []
unfolding records_of
none_given b n = record { answers = []; counted = refl; records = refl; written = refl }

given_by : (b : Board) (l : List ℕ) (room : ℕ) → GivenBy (run_of b l room)
unfolding run_of
given_by b l room =
    choose GivenBy (sound b) {x = run_on 0 l room (nothing_done b 0) []}
    {y = record { outcome = nothing_done b not_sound; answers = [] }}
    (λ _. given_on 0 l room (nothing_done b 0) [] (none_given b 0)) (λ _. none_given b not_sound)

-- ---- of every run

-- the answer bytes that it counts are those that it wrote
pub written_is : (b : Board) (l : List ℕ) (room : ℕ) →
    (run_of b l room).outcome.written ≡ length (run_of b l room).answers
written_is b l room = (given_by b l room).written

-- as many answers as calls done, whose records are the answer bytes and whose lines are those that are listed
pub record Listed (r : Run) : Type 0 where
  pub answers : List Tagged
  pub counted : r.outcome.calls ≡ length answers
  pub records : r.answers ≡ records_of answers
  pub lines : answer_lines r.answers ≡ lines_of answers

pub run_listed : (b : Board) (l : List ℕ) (room : ℕ) → Listed (run_of b l room)
run_listed b l room =
    let g = given_by b l room in
    record {
      answers = g.answers;
      counted = g.counted;
      records = g.records;
      lines = ap answer_lines g.records ∙ lines_are g.answers;
    }
