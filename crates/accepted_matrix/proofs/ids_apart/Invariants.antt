-- Each id passed that isn't 0 was found at its own seat; the first that isn't shows that two are one.
use Rattle.accepted_matrix.proofs.MatrixLaws.{OnceTo}
use Rattle.accepted_matrix.proofs.ids_apart.Given as goal

abbrev pub invariant-loop-i : goal.invariant-loop-i
invariant-loop-i l = OnceTo l.fn.ids l.i
