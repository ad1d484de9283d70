-- Whether the right is there is what the test says.
use mathlib.Core.Path.{◌∙◌}
use Rattle.engine.specs.Inner.Cells.{holds_at}
use Rattle.engine.proofs.CellLaws.{holds_same}
use Rattle.engine.proofs.cells.holds.Goals as goal

pub returns : goal.returns
unfolding holds_at
returns c = holds_same _ _ ∙ rw (c.has-there.ensures, c.cell_at.ensures, c.place_at.ensures)
