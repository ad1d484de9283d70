-- `records::write_record` meets its contract: what the lent part holds, said of the whole output, is `placed`; a refusal stores nothing.
-- Assumes nothing.
use native.Mathlib.Omega.{arith}
use mathlib.Core.Path.{ap, ◌∙◌}
use Rattle.faults.specs.Numbers.{fault_of}
use Rattle.records.specs.Results.{written}
use Rattle.records.proofs.BytesLaws.{length_record}
use Rattle.records.proofs.PlacedLaws.{write_short, write_done, record_long, record_fits}
use Rattle.records.proofs.write_record.Goals as goal

pub returns-then-n-gt65535 : goal.returns-then-n-gt65535
unfolding fault_of
returns-then-n-gt65535 c = ap written (record_long _ _ _ _ c.if-n-gt65535.true)

pub returns-then-out-at : goal.returns-then-out-at
unfolding fault_of
returns-then-out-at c = ap written (write_short _ _ _ (rw length_record (omega arith)) ∙ record_fits _ _ _ _ c.if-n-gt65535.false)

pub returns : goal.returns
returns c =
    ap written
    (write_done _ _ _ _ _ (rw length_record (omega arith)) (rw length_record (omega arith)) c.put_record.ensures
    ∙ record_fits _ _ _ _ c.if-n-gt65535.false)
