-- Each arm is a case of `answer_of`; a refusal counts no operation behind its own.
use native.Mathlib.Omega.{arith}
use Rattle.model.specs.Request.{number}
use Rattle.model.specs.Answers.{steps_of, test_place, reply_of}
use Rattle.engine.proofs.replies.reply.Goals as goal

pub overflow_add-result : goal.overflow_add-result
unfolding steps_of
overflow_add-result c = let few = rw c.in-Ok.is at c.requires in omega (arith, few)

pub refusal_reply-requires : goal.refusal_reply-requires
unfolding steps_of
refusal_reply-requires c = rw c.in-Err.is at c.requires

pub returns-in-Ok : goal.returns-in-Ok
unfolding reply_of steps_of number test_place
returns-in-Ok c = rw c.in-Ok.is

pub returns-in-Err : goal.returns-in-Err
unfolding reply_of steps_of number test_place
returns-in-Err c = rw c.in-Err.is c.refusal_reply.ensures
