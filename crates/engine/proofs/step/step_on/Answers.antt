-- A command number below the count names a command that is accepted, as its scheme is; one at or above it is answered 10.
-- Assumes nothing.
use borrow.Author.Rules.{rules}
use Rattle.engine.proofs.PlanIsStep.{counted}
use Rattle.engine.proofs.StepLaws.{no_command_lem, asks_for_none, few_commands, command_ready, command_step, asks_for_all, told_few, told_step, no_steps_10}
use Rattle.engine.proofs.step.step_on.Goals as goal

pub reply-requires : goal.reply-requires
reply-requires c = no_steps_10

pub returns-then-s-command : goal.returns-then-s-command
returns-then-s-command c =
    let a = c.args in
    told_step a.s.now _ a.command _ _ _ (no_command_lem a.s.now _ a.command _ (search rules)) _ (asks_for_none a.s.now a.command (search rules)) _ c.reply.ensures

pub bounds-s-command : goal.bounds-s-command
bounds-s-command c =
    let few = few_commands c.args.s.now c.requires.0 in
    search rules

pub carry_out-answer-requires : goal.carry_out-answer-requires
carry_out-answer-requires c =
    counted _ _ (command_ready c.args.s.now c.requires.0 _ c.requires.1 c.args.command (search rules) _)

pub reply-requires-2 : goal.reply-requires-2
reply-requires-2 c =
    let s = c.args.s.now in
    let e = command_step s c.requires.0 _ c.requires.1 c.args.command (search rules) _ _ _ c.carry_out-answer.ensures in
    told_few s _ c.args.command _ _ _ e _ (asks_for_all s c.requires.0 _ c.requires.1 c.args.command (search rules) _) c.requires.0

pub returns : goal.returns
returns c =
    let s = c.args.s.now in
    let e = command_step s c.requires.0 _ c.requires.1 c.args.command (search rules) _ _ _ c.carry_out-answer.ensures in
    told_step s _ c.args.command _ _ _ e _ (asks_for_all s c.requires.0 _ c.requires.1 c.args.command (search rules) _) _ c.reply-2.ensures
