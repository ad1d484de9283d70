-- `request_list::count_requests` meets its contract: what is counted and what is left to count are the whole.
-- Assumes nothing.
use Prim.Native.Nat.{◌<◌}
use native.Mathlib.Omega.{arith}
use mathlib.Core.Path.{◌≡◌, refl, sym, ap, ◌∙◌}
use lib.ListN.{length}
use Rattle.std.specs.Prelude.{Ok, None}
use borrow.Author.Rules.{rules}
use Rattle.request_bytes.specs.Read.{read_request}
use Rattle.request_bytes.specs.Results.{skip_result}
use Rattle.request_bytes.specs.Outcome.RequestReading.{Done}
use Rattle.request_bytes.proofs.Answered.{taken}
use Rattle.request_bytes.proofs.ResultLaws.{skip_back}
use Rattle.request_list.proofs.ListLaws.{counting_start, counting_on, counted_none, counted_err}
use Rattle.request_list.proofs.count_requests.Goals as goal
use Rattle.request_list.proofs.count_requests.Goals.{In-Ok-Some}

pub loop-next-init : goal.loop-next-init
loop-next-init c = (_, counting_start _)

-- the request that was skipped
skipped : (c : In-Ok-Some) → (read_request c.args.bytes.now c.loop-next.p).answer ≡ Done c.in-Ok-Some.next
skipped c = skip_back _ (sym c.in-Ok-Some.ensures ∙ ap Ok c.in-Ok-Some.field-0-is)

more : (c : In-Ok-Some) → c.loop-next.p < length c.args.bytes.now
more c = let t = taken _ _ _ refl _ (skipped c) in omega (arith, t.on, t.inside)

pub overflow_add-n : goal.overflow_add-n
overflow_add-n c =
    let few = c.loop-next.invariant.1.few in
    let t = taken _ _ _ refl _ (skipped (goal.at.overflow_add-n c).In-Ok-Some) in
    search rules

pub loop-next-smaller : goal.loop-next-smaller
loop-next-smaller c = let t = taken _ _ _ refl _ (skipped (goal.at.loop-next-smaller c).In-Ok-Some) in omega (arith, t.on, t.inside)

pub loop-next-preserved : goal.loop-next-preserved
loop-next-preserved c =
    let (rest, k, e) = counting_on c.loop-next.invariant.1 (more c) _ refl _ (skipped c) in
    (rest, k)

pub returns-in_default : goal.returns-in_default
returns-in_default c =
    let end : skip_result (read_request c.args.bytes.now c.loop-next.p).answer ≡ Ok None = cc in
    counted_none c.loop-next.invariant.1 end

pub returns-in_default-2 : goal.returns-in_default-2
returns-in_default-2 c = counted_err c.loop-next.invariant.1 (sym c.skip_request.ensures ∙ c.in_default.is)
