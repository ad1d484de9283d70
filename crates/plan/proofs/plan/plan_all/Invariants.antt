-- The walk over the operations in use: what is left of them, on the plan so far, decides the answer.
use Rattle.laws.proofs.Walks.{Walk}
use Rattle.model.specs.Scheme.{parameters_of, operations_of}
use Rattle.plan.proofs.PlanLaws.{planned_from}
use Rattle.plan.proofs.plan.plan_all.Given as goal

abbrev pub invariant-loop-place : goal.invariant-loop-place
invariant-loop-place l =
    Walk (planned_from (parameters_of l.p) l.ids l.plan) l.fn.o.list l.n (planned_from (parameters_of l.p) l.ids l.initial.plan 0 (operations_of l.fn.o)) l.place
