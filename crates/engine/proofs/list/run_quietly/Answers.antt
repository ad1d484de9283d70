-- What is not accepted is answered 27; the rest is `run_all`'s, in whose buffer no reply has room.
-- Assumes nothing.
use mathlib.Core.Path.{sym, ◌∙◌}
use Rattle.engine.proofs.StepLaws.{both_accepted}
use Rattle.engine.proofs.ListLaws.{quiet_27, quiet_runs}
use Rattle.engine.proofs.list.run_quietly.Goals as goal

pub returns-then-not-all_accepted : goal.returns-then-not-all_accepted
returns-then-not-all_accepted c = quiet_27 c.args.s _ _ (sym c.all_accepted.ensures ∙ c.if-not-all_accepted.true)

pub run_all-requires : goal.run_all-requires
run_all-requires c = both_accepted _ _ (sym c.all_accepted.ensures ∙ c.if-not-all_accepted.false)

pub returns : goal.returns
returns c = quiet_runs c.args.s _ _ (sym c.all_accepted.ensures ∙ c.if-not-all_accepted.false) _ _ c.run_all.ensures
