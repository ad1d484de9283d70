-- `moving::image::write_old` meets its contract: the head's body without the highest, and the rest of the image.
-- Assumes nothing.
use mathlib.Core.Path.{ap, ◌∙◌}
use Rattle.records.specs.Results.{written}
use Rattle.records.specs.Writing.{write_bytes}
use Rattle.moving.proofs.ImageLaws.{part_few, old_is}
use Rattle.moving.proofs.image.write_old.Goals as goal

pub write_image-requires : goal.write_image-requires
write_image-requires c = part_few _ _ c.body.ensures

pub returns : goal.returns
returns c = c.write_image.ensures ∙ ap (λ image. written (write_bytes c.args.out.now 0 image)) (old_is _ c.body.ensures c.body-2.ensures)
