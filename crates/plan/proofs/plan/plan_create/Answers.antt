-- Each way out is one case of `plan_create`.
use Rattle.plan.proofs.PlanLaws.{create_taken, create_full, create_done}
use Rattle.plan.proofs.plan.plan_create.Goals as goal

pub returns-then-x-plan : goal.returns-then-x-plan
returns-then-x-plan c = create_taken _ _ _ _ _ c.if-x-plan.true

pub returns-in_default : goal.returns-in_default
returns-in_default c = create_full _ _ _ _ _ c.if-x-plan.false c.in_default.ensures

pub returns : goal.returns
returns c =
    rw (c.put_thing-plan.ensures, c.put_spot.ensures)
    (create_done _ _ _ _ _ c.if-x-plan.false _ c.in-Some.ensures)
