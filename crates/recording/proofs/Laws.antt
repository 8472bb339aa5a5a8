-- What the buffer after a run is compared with. Assumes nothing.
use Rattle.std.proofs.Common.{◌≡◌, ℕ, Bool, List, ◌++◌, length, drop, sym, ap, ◌∙◌}
use Rattle.std.specs.Bool.{Decides}
use Rattle.std.proofs.lemmas.List.{append_cancel_left}
use Rattle.list.specs.Run.{over}

-- a buffer that begins with the answers holds them, then old bytes, exactly where its rest is old
pub over_decides : (buffer answers old rest : List ℕ) (b : Bool) → buffer ≡ answers ++ rest →
    Decides b (rest ≡ drop (length answers) old) → Decides b (buffer ≡ over answers old)
unfolding over
over_decides buffer answers old rest b e d = (
  λ t. e ∙ ap (λ (l : List ℕ). answers ++ l) (d.0 t),
  λ h. d.1 (append_cancel_left answers rest (drop (length answers) old) (sym e ∙ h)),
)
