-- Each way out of the code is one of `planned`: the laws are over what the functions called have given.
-- Assumes nothing.
use Rattle.std.proofs.lemmas.Result.{err_from_is_err_and}
use Rattle.engine.proofs.CarryLaws.{stops_11, stops_place, stops_test, stops_plan, carries}
use Rattle.engine.proofs.step.carry_out.Goals as goal

pub returns-then-ids-c : goal.returns-then-ids-c
returns-then-ids-c c = stops_11 c.args.c _ _ c.if-ids-c.true

pub returns-in_err-locate : goal.returns-in_err-locate
returns-in_err-locate c =
    let p = err_from_is_err_and c.from_residual.result c.from_residual.ensures.1 in
    rw (p.1, p.2) (stops_place c.args.c _ _ c.if-ids-c.false _ _ c.in_err-locate.ensures)

pub returns-in_err-test_all : goal.returns-in_err-test_all
returns-in_err-test_all c =
    let p = err_from_is_err_and c.from_residual-in_err-test_all.result c.from_residual-in_err-test_all.ensures.1 in
    rw (p.1, p.2) (stops_test c.args.c _ _ c.if-ids-c.false _ c.in_ok-locate.ensures _ c.in_err-test_all.ensures)

pub returns-in_err-plan_all : goal.returns-in_err-plan_all
returns-in_err-plan_all c =
    let p = err_from_is_err_and c.from_residual-in_err-plan_all.result c.from_residual-in_err-plan_all.ensures.1 in
    rw (p.1, p.2) (stops_plan c.args.c _ _ c.if-ids-c.false _ c.in_ok-locate.ensures c.in_ok-test_all.ensures _ _ _ c.in_err-plan_all.ensures)

pub returns : goal.returns
returns c = carries c.args.c _ _ c.if-ids-c.false _ c.in_ok-locate.ensures c.in_ok-test_all.ensures _ _ c.in_ok-plan_all.ensures _ c.change_all.ensures
