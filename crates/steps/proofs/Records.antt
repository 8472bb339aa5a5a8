-- The record of an answer, as the code's steps write it: whole, or of an advance the counts one by one over counts
-- of 0
-- and then the header and the line, or of a skip the cycles and then the header and the line. Assumes nothing.
use Prim.Native.Nat.{ℕ, ◌+◌, ◌*◌, ◌<◌}
use mathlib.Core.Path.{◌≡◌, refl, sym, ap, ◌∙◌}
use mathlib.Core.Bool.{Bool, true, false, false≢true}
use mathlib.Core.List.{List, [], ◌∷◌, ◌++◌, append_assoc, append-nil}
use lib.ListN.{length, get_or, set, length-append}
use lib.Seq.{sets, length-sets}
use Rattle.wide.specs.Fields.{be}
use Rattle.wide.proofs.BigEndian.{length-be}
use Rattle.board.proofs.Loops.{by_four}
use Rattle.format.specs.Format.{answer_length, members_bytes, answer_bytes, record_of}
use Rattle.format.specs.CodeAnswers.{header_bytes, wides}
use Rattle.format.proofs.Frames.{sets_then, answer-length}
use Rattle.format.proofs.Stores.{sets_behind, wides_set, wides_zero, wides-over}
use Rattle.steps.specs.CodeSteps.{counts_at, count_put, passed_put, other_put}

-- ---- a record that is written whole

-- tag, length and value of an answer are its record
record-start : (tag : ℕ) (ms : List ℕ) →
    header_bytes tag (answer_length tag) ++ answer_bytes tag ms ≡ record_of tag (answer_bytes tag ms)
unfolding record_of
record-start tag ms = ap (λ (n : ℕ). header_bytes tag n ++ answer_bytes tag ms) (sym (answer-length tag ms))

pub other_record : (tag at : ℕ) (value ms buf : List ℕ) → value ≡ answer_bytes tag ms →
    other_put tag at value buf ≡ sets buf at (record_of tag (answer_bytes tag ms))
other_record tag at value ms buf e =
    ap (λ (v : List ℕ). sets buf at (header_bytes tag (answer_length tag) ++ v)) e
    ∙ ap (sets buf at) (record-start tag ms)

-- ---- the counts of a pass, where it has them

-- a buffer with these counts
unfoldable pub counts_put : Bool → ℕ → List ℕ → List ℕ → List ℕ
counts_put true at ns buf = sets buf (counts_at at) (wides ns)
counts_put false at ns buf = buf

pub counts_length : (counted : Bool) (at : ℕ) (ns buf : List ℕ) → length (counts_put counted at ns buf) ≡ length buf
unfolding counts_put
counts_length true at ns buf = length-sets buf (counts_at at) (wides ns)
counts_length false at ns buf = refl

-- one count after another
pub counts_goes : (counted : Bool) (at : ℕ) (buf ns : List ℕ) (i n : ℕ) → i < length ns →
    count_put counted at i n (counts_put counted at ns buf) ≡ counts_put counted at (set ns i n) buf
unfolding counts_put count_put
counts_goes true at buf ns i n h = wides_set ns i n h buf (counts_at at)
counts_goes false at buf ns i n h = refl

-- a count that is 0 so far
pub counts_zero : (counted : Bool) (at : ℕ) (buf ns : List ℕ) (i : ℕ) → i < length ns → get_or ns i 0 ≡ 0 →
    counted ≡ true →
    sets (counts_put counted at ns buf) (counts_at at + 16 * i) (be 16 0) ≡ counts_put counted at ns buf
unfolding counts_put
counts_zero true at buf ns i h z e = wides_zero ns i h z buf (counts_at at)
counts_zero false at buf ns i h z e = absurd (false≢true e)

-- all counts over others
pub counts_over : (counted : Bool) (at : ℕ) (buf ms ns : List ℕ) → length ms ≡ length ns →
    counts_put counted at ns (counts_put counted at ms buf) ≡ counts_put counted at ns buf
unfolding counts_put
counts_over true at buf ms ns e = wides-over ms ns e buf (counts_at at)
counts_over false at buf ms ns e = refl

-- ---- the record of a pass

-- of an advance, the line in front of its counts
advance_start : (v : ℕ) (ns : List ℕ) → length ns ≡ 4 →
    (header_bytes 4 65 ++ be 1 v) ++ wides ns ≡ header_bytes 4 65 ++ answer_bytes 4 (v ∷ ns)
unfolding members_bytes wides be
advance_start v =
    by_four (λ ns. (header_bytes 4 65 ++ be 1 v) ++ wides ns ≡ header_bytes 4 65 ++ answer_bytes 4 (v ∷ ns))
    (λ _ _ _ _. refl)

pub advance-record : (v at : ℕ) (ns buf : List ℕ) → length ns ≡ 4 →
    passed_put true v at (counts_put true at ns buf) ≡ sets buf at (record_of 4 (answer_bytes 4 (v ∷ ns)))
unfolding be counts_put passed_put
advance-record v at ns buf e =
    sets_behind buf at (header_bytes 4 65 ++ be 1 v) (wides ns)
    ∙ ap (sets buf at) (advance_start v ns e ∙ record-start 4 (v ∷ ns))

-- of a skip, the header in front of its cycles, and the line behind them
pub skip_record : (c v at : ℕ) (buf : List ℕ) →
    passed_put false v at (sets buf (at + 3) (be 8 c)) ≡ sets buf at (record_of 6 (answer_bytes 6 (c ∷ v ∷ [])))
unfolding members_bytes passed_put
skip_record c v at buf =
    ap (λ (x : List ℕ). sets x (at + 11) (be 1 v)) (front (header_bytes 6 9) header)
    ∙ sets_then buf at 11 (header_bytes 6 9 ++ be 8 c) (be 1 v) eleven
    ∙ ap (sets buf at) (append_assoc (header_bytes 6 9) (be 8 c) (be 1 v) ∙ whole ∙ record-start 6 (c ∷ v ∷ []))
  where
    header : length (header_bytes 6 9) ≡ 3
    header = rw (length-append (be 1 6) (be 2 9), length-be 1 6, length-be 2 9) refl

    front : (h : List ℕ) → length h ≡ 3 → sets (sets buf (at + 3) (be 8 c)) at h ≡ sets buf at (h ++ be 8 c)
    front h n = rw (← n) (sets_behind buf at h (be 8 c))

    eleven : length (header_bytes 6 9 ++ be 8 c) ≡ 11
    eleven = rw (length-append (header_bytes 6 9) (be 8 c), length-be 8 c, header) refl

    whole : header_bytes 6 9 ++ (be 8 c ++ be 1 v) ≡ header_bytes 6 9 ++ answer_bytes 6 (c ∷ v ∷ [])
    whole = ap (λ (x : List ℕ). header_bytes 6 9 ++ (be 8 c ++ x)) (sym (append-nil (be 1 v)))
