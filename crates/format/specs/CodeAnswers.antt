-- Not document 01's sentences: the pieces in which the code writes a record. The rule is `record_of` of Format.
use Rattle.std.specs.Prelude.{ℕ, Bool, true, false, List, [], ◌∷◌, ◌++◌}
use Rattle.wide.specs.Fields.{be}
use Rattle.format.specs.declared.Answer.{Answer}
use Rattle.format.specs.declared.Answer.TheVariants.{Empty, Byte, Deadline, Skip, Output}
use Rattle.format.specs.declared.Answer.TheVariants.{DeadlineMembers, SkipMembers, Pair}
use Rattle.format.specs.Format.{answer_length}

-- a record's tag and the length of its value
abbrev pub header_bytes : ℕ → ℕ → List ℕ
header_bytes tag size = be 1 tag ++ be 2 size

-- those of the record of an answer to a call of this tag
abbrev pub header_of : ℕ → List ℕ
header_of tag = header_bytes tag (answer_length tag)

-- numbers of sixteen bytes, one after another
unfoldable pub wides : List ℕ → List ℕ
wides [] = []
wides (n ∷ ns) = be 16 n ++ wides ns

-- whether an answer is its members as numbers. Of the others no two have the same bytes
abbrev pub as_numbers : Answer → Bool
as_numbers Empty = false
as_numbers (Byte v) = false
as_numbers (Deadline given) = false
as_numbers (Skip skip) = false
as_numbers (Output output) = false
as_numbers (DeadlineMembers present exact word) = true
as_numbers (SkipMembers passed line) = true
as_numbers (Pair a b) = true
