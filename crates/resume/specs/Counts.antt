-- S-4: the counts in the answers of advances, as they are read out of a run's answers.
use Rattle.std.specs.Prelude.{ℕ, zero, suc, ◌+◌, ◌*◌, List, drop}
use Rattle.wide.specs.Fields.{be_at}

-- 'Call 04 answers the line and four 16-byte counts, channel 0 first': the count of channel i in the record of an
-- advance's answer, behind tag, length and line
abbrev pub count_in : ℕ → List ℕ → ℕ
count_in i answer = be_at answer (4 + 16 * i) 16

-- the bytes of such a record
abbrev pub advance_record : ℕ
advance_record = 68

-- the counts of channel i in n such records, one after another, added
unfoldable pub counts_in : ℕ → ℕ → List ℕ → ℕ
counts_in i zero answers = 0
counts_in i (suc n) answers = count_in i answers + counts_in i n (drop advance_record answers)
