-- Not document 01's sentences but what the code computes: a text is put into a buffer from an index on, as much of it
-- as fits, and the index after it is kept.
use Rattle.std.specs.Prelude.{ℕ, ◌+◌, ◌^◌, ◌<◌, ◌≡◌, List, length}
use Rattle.std.proofs.lemmas.List.Edits.{sets}
use Rattle.listing.specs.declared.Text.{Text}

-- the index after the text fits in a word
pub record Counted (text : List ℕ) (at : ℕ) : Type 0 where
  pub fits : at + length text < 2 ^ 64

-- the text stands in the same buffer from the old index on, and the new index is behind it; a store outside the buffer
-- does nothing
pub record Put (text : List ℕ) (old new : Text) : Type 0 where
  pub same : new.buf.ghost_name ≡ old.buf.ghost_name
  pub ends : new.at ≡ old.at + length text
  pub stores : new.buf.now ≡ sets old.buf.now old.at text
