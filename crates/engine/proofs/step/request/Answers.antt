-- What is not accepted is answered 27; what is, is a step.
-- Assumes nothing.
use mathlib.Core.Path.{sym, ◌∙◌}
use Rattle.engine.proofs.StepLaws.{both_accepted, no_steps_27, refuses_27, request_step}
use Rattle.engine.proofs.step.request.Goals as goal

pub reply-requires : goal.reply-requires
reply-requires c = no_steps_27

pub returns-then-not-all_accepted : goal.returns-then-not-all_accepted
returns-then-not-all_accepted c = refuses_27 c.args.s _ _ _ (sym c.all_accepted.ensures ∙ c.if-not-all_accepted.true) _ c.reply.ensures

pub step_on-requires : goal.step_on-requires
step_on-requires c = both_accepted c.args.s _ (sym c.all_accepted.ensures ∙ c.if-not-all_accepted.false)

pub returns : goal.returns
returns c = request_step c.args.s _ _ _ (sym c.all_accepted.ensures ∙ c.if-not-all_accepted.false) _ _ c.step_on.ensures
