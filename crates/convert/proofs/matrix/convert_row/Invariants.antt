-- After j turns the first j cells of the row are the converted ones.
use Rattle.convert.proofs.CellLaws.{RowConverting}
use Rattle.convert.proofs.matrix.convert_row.Given as goal

abbrev pub invariant-loop-j : goal.invariant-loop-j
invariant-loop-j l = RowConverting l.n l.ids l.initial.row l.row l.j
