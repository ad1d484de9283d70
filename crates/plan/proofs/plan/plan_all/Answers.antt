-- The walk over the operations in use: what is left of them, on the plan so far, decides the answer.
use mathlib.Core.Path.{◌≡◌, ap}
use native.Mathlib.Omega.{arith}
use lib.ListN.{length}
use Rattle.laws.proofs.Walks.{long, start, on, out, end, take_least}
use Rattle.model.specs.Scheme.{parameters_of, no_operation}
use Rattle.plan.specs.Plan.{plan_all, plan_of, planned_into}
use Rattle.plan.proofs.PlanLaws.{planned_from, plan_on, plan_stop}
use Rattle.std.proofs.lemmas.Result.{err_from_is_err_and}
use lib.Seq.{get_or-take}
use borrow.Author.Rules.{rules}
use Rattle.plan.proofs.plan.plan_all.Goals as goal

pub loop-place-init : goal.loop-place-init
loop-place-init c =
    let a = c.args in
    let room : length a.o.list ≡ 32 = search (rules, long) in
    start 32 room (omega (arith, c.min-n.ensures))
    (rw c.min-n.ensures (ap (planned_from (parameters_of a.p) a.ids.now (plan_of a.things.now a.spots.now) 0) (take_least a.o.list 32 a.o.count room)))

pub returns-in_err-plan_one : goal.returns-in_err-plan_one
returns-in_err-plan_one c =
    let p = err_from_is_err_and c.from_residual.result c.from_residual.ensures.1 in
    let one = get_or-take c.min-n.result c.args.o.list c.loop-place.place no_operation (omega arith) in
    rw (p.1, p.2)
    (ap (planned_into c.args.things.now)
    (out c.loop-place.invariant no_operation _ (omega arith) (plan_stop _ _ _ _ _ _ _ (rw one at c.in_err-plan_one.ensures))))

pub loop-place-preserved : goal.loop-place-preserved
loop-place-preserved c =
    let one = get_or-take c.min-n.result c.args.o.list c.loop-place.place no_operation (omega arith) in
    on c.loop-place.invariant no_operation (omega arith) (plan_on _ _ _ _ _ _ (rw one at c.in_ok-plan_one.ensures))

pub returns : goal.returns
unfolding plan_all
returns c = ap (planned_into c.args.things.now) (end c.loop-place.invariant (omega arith))
