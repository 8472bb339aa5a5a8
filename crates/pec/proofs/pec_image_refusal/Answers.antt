-- `pec_image_refusal` meets its contract. Assumes nothing.
use mathlib.Core.Path.{◌∙◌}
use Rattle.parking.proofs.RoundTrip.{refusal_is}
use Rattle.pec.proofs.Parked.{reading_is}
use Rattle.pec.proofs.pec_image_refusal.Goals as goal

pub returns : goal.returns
returns c = c.code.ensures ∙ reading_is c.unpark.result ∙ refusal_is _ _ c.unpark.ensures
