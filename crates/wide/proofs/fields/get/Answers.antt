-- `fields::get` meets its contract. Assumes nothing.
use Rattle.std.proofs.Common.{refl, ◌∙◌, drop, arith}
use Rattle.std.proofs.lemmas.List.{get_or-drop, get_or-take}
use Rattle.wide.specs.Fields.{be_at}
use Rattle.wide.proofs.BigEndian.{be_at_more, room_64, room_more}
use Rattle.wide.proofs.fields.get.Goals as goal

pub loop-byte-init : goal.loop-byte-init
unfolding be_at
loop-byte-init c = (omega arith, refl)

pub overflow_mul-v : goal.overflow_mul-v
overflow_mul-v c = omega (arith, room_64 c.loop-byte.byte-index (omega arith))

pub overflow_add-v : goal.overflow_add-v
overflow_add-v c = omega (arith, room_64 c.loop-byte.byte-index (omega arith))

pub loop-byte-preserved : goal.loop-byte-preserved
loop-byte-preserved c = (
  omega (arith, room_more c.loop-byte.byte-index),
  (
      let s = c.args.s.now in
      let at = c.args.at in
      let i = c.loop-byte.byte-index in
      let read = c.from.ensures ∙ get_or-take _ (drop at s) i 0 (omega arith) ∙ get_or-drop at s i 0 in
      omega (arith, read, be_at_more s at i)
      ),
)
