-- What is done and what is left are the whole: each turn is a step of the model, and its reply is stored where there is room.
-- Assumes nothing.
use native.Mathlib.Omega.{arith}
use mathlib.Core.Path.{◌≡◌, refl, sym, ap, ◌∙◌}
use Rattle.std.specs.Prelude.{Ok}
use Rattle.request_bytes.specs.Read.{read_request}
use Rattle.request_bytes.specs.Outcome.RequestReading.{Done}
use Rattle.request_bytes.proofs.Answered.{Taken, taken}
use Rattle.request_bytes.proofs.ResultLaws.{ended_back, request_back}
use borrow.Author.Rules.{rules}
use Rattle.engine.proofs.ListLaws.{turned, running_start, running_on, run_end, run_cut}
use Rattle.engine.proofs.list.run_all.Goals as goal
use Rattle.engine.proofs.list.run_all.Goals.{In-Ok-Some}

pub loop-next-init : goal.loop-next-init
loop-next-init c = record { near = omega arith; running = running_start c.args.s.now _ _ _ c.requires.1 }

-- the request that was read
read : (c : In-Ok-Some) → read_request c.args.bytes.now c.loop-next.p ≡ record { answer = Done c.in-Ok-Some.next; request = c.read_request.new.request }
read c = request_back _ c.in-Ok-Some.ensures (ap Ok c.in-Ok-Some.field-0-is)

there : (c : In-Ok-Some) → Taken c.args.bytes.now c.loop-next.p c.in-Ok-Some.next c.read_request.new.request
there c = taken _ _ _ (sym (read c)) _ refl

pub shared_ref_as_front-step_on : goal.shared_ref_as_front-step_on
shared_ref_as_front-step_on c = let t = there (goal.at.shared_ref_as_front-step_on c).In-Ok-Some in let h = t.few in search rules

pub step_on-told-requires : goal.step_on-told-requires
step_on-told-requires c = (c.requires.0, c.loop-next.invariant.running.held)

pub overflow_add-n : goal.overflow_add-n
overflow_add-n c =
    let t = there (goal.at.overflow_add-n c).In-Ok-Some in
    omega (arith, c.loop-next.invariant.running.counting.few, t.on, t.inside)

pub loop-next-smaller : goal.loop-next-smaller
loop-next-smaller c = let t = there (goal.at.loop-next-smaller c).In-Ok-Some in omega (arith, t.on, t.inside)

pub loop-next-preserved : goal.loop-next-preserved
loop-next-preserved c =
    let d = (goal.at.loop-next-preserved c).In-Ok-Some in
    let t = there d in
    record {
      near = t.inside;
      running =
          running_on c.loop-next.invariant.running c.requires.0 (omega (arith, t.on, t.inside)) _ (sym (read d)) _ refl _ _
          (turned _ _ _ _ _ c.step_on-told.ensures) _ c.put_reply.ensures;
    }

pub returns-in-Ok-None : goal.returns-in-Ok-None
returns-in-Ok-None c = run_end c.loop-next.invariant.running (ended_back _ c.in-Ok-None.ensures ∙ ap Ok c.in-Ok-None.field-0-is)

pub returns-in-Err : goal.returns-in-Err
returns-in-Err c = run_cut c.loop-next.invariant.running c.loop-next.invariant.near _ (ended_back _ c.in-Err.ensures)
