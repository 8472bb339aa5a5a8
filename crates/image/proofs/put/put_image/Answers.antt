-- `put::put_image` meets its contract. Assumes nothing.
use Rattle.image.proofs.Fields.{image-stored}
use Rattle.image.proofs.put.put_image.Goals as goal

pub returns : goal.returns
returns c =
    let stored = c.put_old.ensures in
    let front = c.put_front-at in
    image-stored c.args.form c.args.board _ _ c.requires _ front.ensures.value front.ensures.buf_after _
    stored
