-- After i turns the first i rows are the converted ones.
use Rattle.convert.proofs.CellLaws.{Converting}
use Rattle.convert.proofs.matrix.convert_cells.Given as goal

abbrev pub invariant-loop-i : goal.invariant-loop-i
invariant-loop-i l = Converting l.h l.th l.initial.cells l.cells l.i
