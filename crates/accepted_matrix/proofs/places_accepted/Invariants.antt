-- The walk over the places carries along whether all were accepted.
use Rattle.accepted_matrix.proofs.MatrixLaws.{Places}
use Rattle.accepted_matrix.proofs.places_accepted.Given as goal

abbrev pub invariant-loop-k : goal.invariant-loop-k
invariant-loop-k l = Places l.h l.th l.cells l.fine l.k
