-- `play::put_requests` meets its contract: a turn puts a request's line, and what is left are the lines from the next request on.
-- Assumes nothing.
use native.Mathlib.Omega.{arith}
use mathlib.Core.Path.{◌≡◌, refl, sym, ap, ◌∙◌}
use Rattle.std.specs.Prelude.{Ok}
use Rattle.request_bytes.specs.Read.{read_request}
use Rattle.request_bytes.specs.Outcome.RequestReading.{Done}
use Rattle.request_bytes.proofs.Answered.{Taken, taken}
use Rattle.request_bytes.proofs.ResultLaws.{ended_back, request_back}
use Rattle.printout.proofs.RequestLaws.{printing_start, printing_end, printing_cut, printing_on}
use Rattle.printout.proofs.play.put_requests.Goals as goal
use Rattle.printout.proofs.play.put_requests.Goals.{In-Ok-Some}

pub loop-next-init : goal.loop-next-init
loop-next-init c = printing_start _ _ _ _ _ (omega arith)

-- the request that was read
read : (c : In-Ok-Some) → read_request c.args.bytes.now c.loop-next.p ≡ record { answer = Done c.in-Ok-Some.next; request = c.read_request.new.request }
read c = request_back _ c.in-Ok-Some.ensures (ap Ok c.in-Ok-Some.field-0-is)

there : (c : In-Ok-Some) → Taken c.args.bytes.now c.loop-next.p c.in-Ok-Some.next c.read_request.new.request
there c = taken _ _ _ (sym (read c)) _ refl

pub loop-next-smaller : goal.loop-next-smaller
loop-next-smaller c = let t = there (goal.at.loop-next-smaller c).In-Ok-Some in omega (arith, t.on, t.inside)

pub loop-next-preserved : goal.loop-next-preserved
loop-next-preserved c =
    let d = (goal.at.loop-next-preserved c).In-Ok-Some in
    let t = there d in
    printing_on c.loop-next.invariant (omega (arith, t.on, t.inside)) _ (sym (read d)) _ refl (omega arith)
    c.put_answer.ensures.put c.put_answer.ensures.behind

pub returns-in-Ok-None : goal.returns-in-Ok-None
returns-in-Ok-None c = printing_end c.loop-next.invariant (ended_back _ c.in-Ok-None.ensures ∙ ap Ok c.in-Ok-None.field-0-is)

pub returns-in-Err : goal.returns-in-Err
returns-in-Err c = printing_cut c.loop-next.invariant _ (ended_back _ c.in-Err.ensures) c.put_bad.ensures
