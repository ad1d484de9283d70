-- `moving::image::write_image` meets its contract: what was written from its end stands from the start on.
-- Assumes nothing.
use Rattle.std.proofs.lemmas.Result.{err_from_is_err_and}
use Rattle.moving.proofs.ImageLaws.{image_short, image_headed, image_written}
use Rattle.moving.proofs.image.write_image.Goals as goal

pub returns-in_err-next : goal.returns-in_err-next
returns-in_err-next c =
    let p = err_from_is_err_and c.from_residual.result c.from_residual.ensures.1 in
    rw (p.1, p.2) (image_short _ _ _ _ c.in_err-next.ensures)

pub returns-in_err-write_record : goal.returns-in_err-write_record
returns-in_err-write_record c = absurd (image_headed _ _ _ _ c.requires c.in_ok-next.ensures c.in_err-write_record.ensures)

pub returns : goal.returns
returns c = image_written _ _ _ _ c.requires c.in_ok-next.ensures c.in_ok-write_record.ensures
