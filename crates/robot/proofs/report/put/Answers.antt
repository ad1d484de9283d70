-- Behind the report's end nothing is stored.
-- Assumes nothing.
use native.Mathlib.Omega.{arith}
use mathlib.Core.Path.{sym}
use lib.Seq.{set_out}
use Rattle.robot.proofs.report.put.Goals as goal

pub returns-else-i-report : goal.returns-else-i-report
returns-else-i-report c = sym (set_out _ _ _ (omega arith))
