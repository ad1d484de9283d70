-- The walk over the operations in use: what is left of them, on the cells so far, gives what all of them give on the first.
use mathlib.Core.Path.{◌≡◌}
use lib.ListN.{length}
use Rattle.laws.proofs.Walks.{Walk}
use Rattle.model.specs.Scheme.{operations_of}
use Rattle.engine.specs.Inner.Cells.{cells_after}
use Rattle.engine.proofs.cells.change_all.Given as goal

abbrev pub invariant-loop-one : goal.invariant-loop-one
invariant-loop-one l =
    (length l.cells ≡ 2304)
    × Walk (λ j os. cells_after l.spots os l.cells) l.fn.o.list l.fn.o.count (cells_after l.spots (operations_of l.fn.o) l.initial.cells) l.one-index
