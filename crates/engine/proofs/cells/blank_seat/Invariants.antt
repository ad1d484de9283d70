-- `blank` of the cells stays what it was, and after j turns the seat's cells at columns and rows below j are 0.
use mathlib.Core.Path.{◌≡◌}
use lib.ListN.{length}
use Rattle.model.specs.Seats.{blank}
use Rattle.engine.proofs.CellLaws.{Clear}
use Rattle.engine.proofs.cells.blank_seat.Given as goal

abbrev pub invariant-loop-j : goal.invariant-loop-j
invariant-loop-j l = (length l.cells ≡ 2304) × (blank l.p 0 l.cells ≡ blank l.p 0 l.initial.cells) × Clear l.p l.j l.cells
