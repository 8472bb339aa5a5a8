-- A fresh board at a rate is parked, as the C interface does it: S-7's '15, another rate, before all else when a board
-- is made', and S-8's writing in the new form.
use Rattle.std.specs.Prelude.{ℕ, cond, List, eqb}
use Rattle.board.specs.Calls.{fresh_of}
use Rattle.parking.specs.Parking.{Writing, default_form, writing_of, buffer_after}

-- what it answers, with this room for the image
unfoldable pub fresh_writing : ℕ → ℕ → Writing
fresh_writing rate room =
    cond (eqb (fresh_of rate).refusal 0) (writing_of default_form (fresh_of rate).board room)
    (record { board = (fresh_of rate).board; refusal = (fresh_of rate).refusal; written = 0 })

-- what the buffer then holds
unfoldable pub fresh_buffer : ℕ → List ℕ → List ℕ
fresh_buffer rate old =
    cond (eqb (fresh_of rate).refusal 0) (buffer_after default_form (fresh_of rate).board old) old
