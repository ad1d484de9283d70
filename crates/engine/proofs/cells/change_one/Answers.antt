-- What the calls give is what `cells_by` says of the code.
use mathlib.Core.Path.{◌∙◌}
use Rattle.engine.specs.Inner.Cells.{change_at, cells_by}
use Rattle.engine.proofs.cells.change_one.Goals as goal

pub returns-in-Enter : goal.returns-in-Enter
unfolding cells_by change_at
returns-in-Enter c = c.put_cell.ensures ∙ rw (c.in-Enter.is, c.enter.ensures, c.cell_at.ensures, c.place_at-k.ensures)

pub returns-in-Delete : goal.returns-in-Delete
unfolding cells_by change_at
returns-in-Delete c = c.put_cell-in-Delete.ensures ∙ rw (c.in-Delete.is, c.delete.ensures, c.cell_at-in-Delete.ensures, c.place_at-k.ensures)

pub returns-in-Create : goal.returns-in-Create
unfolding cells_by
returns-in-Create c = rw c.in-Create.is

pub returns-in-Destroy : goal.returns-in-Destroy
unfolding cells_by
returns-in-Destroy c =
    c.blank_seat.ensures ∙ rw (c.seat_at.ensures, c.in-Destroy.is)
