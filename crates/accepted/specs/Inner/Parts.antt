-- The parts that the checks of a command are made of.
-- Assumes nothing.
use Rattle.std.specs.Prelude.{List, length}
use Rattle.laws.specs.Check.{Fault, ◌or_else◌, must}
use Rattle.rights.specs.Numberings.{right_below, parameter_below}
use Rattle.rights.specs.declared.Right.{Right}
use Rattle.rights.specs.declared.ThingType.{ThingType}
use Rattle.rights.specs.declared.Parameter.{Parameter}
use Rattle.model.specs.Accepted.{row_fault}
use Rattle.model.specs.declared.Head.{Head}

-- what a test, an enter and a delete say of a cell
abbrev pub cell_fault : Head → List ThingType → Right → Parameter → Parameter → Fault
cell_fault h types right row column =
    must (right_below right h.rights) 5 or_else row_fault h types row or_else must (parameter_below column (length types)) 5
