-- The five numbers, one after the other.
-- Assumes nothing.
use Rattle.robot.proofs.report.put_all.Goals as goal

pub returns : goal.returns
returns c = rw (c.put-5.ensures, c.put-4.ensures, c.put-3.ensures, c.put-2.ensures, c.put.ensures)
