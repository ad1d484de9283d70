-- `moving::image::write_new` meets its contract: the head's body with the highest behind it, and the rest of the image.
-- Assumes nothing.
use mathlib.Core.Path.{ap, ◌∙◌}
use Rattle.records.specs.Results.{written}
use Rattle.records.specs.Writing.{write_bytes}
use Rattle.moving.proofs.ImageLaws.{new_is}
use Rattle.moving.proofs.image.write_new.Goals as goal

pub returns : goal.returns
returns c = c.write_image.ensures ∙ ap (λ image. written (write_bytes c.args.out.now 0 image)) (new_is _ _ c.to_le_bytes.ensures c.body.ensures c.requires)
