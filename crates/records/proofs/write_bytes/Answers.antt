-- `records::write_bytes` meets its contract: what the lent part holds, said of the whole output, is `placed`; a refusal stores nothing.
-- Assumes nothing.
use native.Mathlib.Omega.{arith}
use mathlib.Core.Path.{refl, ap}
use Rattle.faults.specs.Numbers.{fault_of}
use Rattle.records.specs.Results.{written}
use Rattle.records.proofs.PlacedLaws.{write_short, write_done}
use Rattle.records.proofs.write_bytes.Goals as goal

pub returns-then-out-at : goal.returns-then-out-at
unfolding fault_of
returns-then-out-at c = let a = c.args in ap written (write_short a.out.now a.at a.bytes.now (omega arith))

pub returns : goal.returns
returns c = ap written (write_done _ _ _ _ _ (omega arith) refl c.put_bytes.ensures)
