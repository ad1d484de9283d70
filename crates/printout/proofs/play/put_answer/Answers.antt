-- `play::put_answer` meets its contract: the line of the first reply, or nothing.
-- Assumes nothing.
use native.Mathlib.Omega.{arith}
use mathlib.Core.Path.{sym, ap, ◌∙◌}
use Rattle.lines.specs.Put.{put_text}
use Rattle.lines.proofs.PutLaws.{put_none}
use Rattle.model.specs.Answers.{replies_in}
use Rattle.model.proofs.ReplyLaws.{replies_behind}
use Rattle.printout.proofs.RequestLaws.{has_line, no_line, none_behind}
use Rattle.printout.proofs.play.put_answer.Goals as goal

pub returns-in-None-clause-put : goal.returns-in-None-clause-put
returns-in-None-clause-put c =
    let a = c.args in
    sym (put_none _ _ (omega arith)) ∙ ap (put_text _ _) (no_line a.columns a.n _ a.replies.now c.in-None.ensures.cases)

pub returns-in-None-clause-behind : goal.returns-in-None-clause-behind
returns-in-None-clause-behind c = none_behind _ c.in-None.ensures.cases

pub returns-in-Some-clause-put : goal.returns-in-Some-clause-put
returns-in-Some-clause-put c =
    let a = c.args in
    let e = c.in-Some.ensures.cases in
    c.put_request.ensures ∙ ap (put_text _ _) (has_line a.columns a.n _ a.replies.now (omega (arith, e.2)) _ e.0)

pub returns-in-Some-clause-behind : goal.returns-in-Some-clause-behind
returns-in-Some-clause-behind c = let e = c.in-Some.ensures.cases in ap replies_in e.1 ∙ replies_behind c.args.replies.now
