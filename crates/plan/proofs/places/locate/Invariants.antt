-- The walk over the places: what is left of them, on the spots so far, decides the answer.
use Prim.Native.Nat.{min}
use mathlib.Core.Path.{◌≡◌}
use lib.ListN.{length}
use Rattle.laws.proofs.Walks.{Walk}
use Rattle.model.specs.Scheme.{parameters_of, operations_of}
use Rattle.plan.specs.Locate.{located}
use Rattle.plan.proofs.PlaceLaws.{located_from}
use Rattle.plan.proofs.places.locate.Given as goal

abbrev pub invariant-loop-i : goal.invariant-loop-i
invariant-loop-i l =
    (length l.found ≡ 8)
    × Walk (located_from l.th (operations_of l.o) l.ids l.found) l.p.types (min l.p.count 8) (located l.th (operations_of l.o) (parameters_of l.p) l.ids) l.i
