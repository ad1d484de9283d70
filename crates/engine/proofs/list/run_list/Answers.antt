-- What is not accepted is answered 27 and replies that don't fit 9, before anything is carried out; the rest is `run_all`'s, whose replies then all fit.
-- Assumes nothing.
use native.Mathlib.Omega.{arith}
use mathlib.Core.Path.{sym, ◌∙◌}
use Rattle.engine.proofs.StepLaws.{both_accepted}
use Rattle.engine.proofs.ListLaws.{list_27, list_9, list_runs}
use Rattle.engine.proofs.list.run_list.Goals as goal

pub returns-then-not-all_accepted : goal.returns-then-not-all_accepted
returns-then-not-all_accepted c = list_27 c.args.s _ _ (sym c.all_accepted.ensures ∙ c.if-not-all_accepted.true) _

pub returns-then-out-count_requests : goal.returns-then-out-count_requests
returns-then-out-count_requests c =
    list_9 c.args.s _ _ (sym c.all_accepted.ensures ∙ c.if-not-all_accepted.false) _
    (omega (arith, c.count_requests.ensures, c.if-out-count_requests.true))

pub run_all-requires : goal.run_all-requires
run_all-requires c = both_accepted _ _ (sym c.all_accepted.ensures ∙ c.if-not-all_accepted.false)

pub returns : goal.returns
returns c =
    list_runs c.args.s _ _ (sym c.all_accepted.ensures ∙ c.if-not-all_accepted.false) _ _ c.run_all.ensures
    (omega (arith, c.count_requests.ensures, c.if-out-count_requests.false))
