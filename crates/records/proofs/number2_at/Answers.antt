-- `records::number2_at` meets its contract: the standard library's number of two bytes is `number2`.
-- Assumes nothing.
use native.Mathlib.Omega.{arith}
use Rattle.records.specs.Bytes.{number2}
use Rattle.records.proofs.number2_at.Goals as goal

pub returns : goal.returns
unfolding number2
returns c = omega (arith, c.from_le_bytes.ensures)
