-- The walk over the tests in use stops at the first that doesn't hold.
use Rattle.laws.proofs.Walks.{Walk}
use Rattle.model.specs.Scheme.{tests_of}
use Rattle.engine.proofs.CellLaws.{tested_from}
use Rattle.engine.proofs.cells.test_all.Given as goal

abbrev pub invariant-loop-place : goal.invariant-loop-place
invariant-loop-place l = Walk (tested_from l.cells l.spots) l.fn.t.list l.fn.t.count (tested_from l.cells l.spots 0 (tests_of l.fn.t)) l.place
