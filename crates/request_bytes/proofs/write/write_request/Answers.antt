-- `request_bytes::write::write_request` meets its contract: what the lent part holds, said of the whole output, is `placed`; a refusal stores nothing.
-- Assumes nothing.
use native.Mathlib.Omega.{arith}
use mathlib.Core.Path.{ap, ◌∙◌}
use Rattle.faults.specs.Numbers.{fault_of}
use Rattle.records.specs.Results.{written}
use Rattle.records.proofs.PlacedLaws.{write_short, write_done}
use Rattle.request_bytes.proofs.Laws.{length_request, ids_many, ids_few}
use Rattle.request_bytes.proofs.write.write_request.Goals as goal

pub returns-then-n-gt-LIMIT : goal.returns-then-n-gt-LIMIT
unfolding fault_of
returns-then-n-gt-LIMIT c = ap written (ids_many _ _ _ _ c.if-n-gt-LIMIT.true)

pub returns-then-out-at : goal.returns-then-out-at
unfolding fault_of
returns-then-out-at c = ap written (write_short _ _ _ (rw length_request (omega arith)) ∙ ids_few _ _ _ _ c.if-n-gt-LIMIT.false)

pub returns : goal.returns
returns c =
    ap written
    (write_done _ _ _ _ _ (rw length_request (omega arith)) (rw length_request (omega arith)) c.put_request.ensures
    ∙ ids_few _ _ _ _ c.if-n-gt-LIMIT.false)
