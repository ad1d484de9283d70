-- The list is run; where it was not refused as a whole, the matrix afterwards is written.
-- Assumes nothing.
use Rattle.robot.proofs.RunLaws.{run_refused, run_carried}
use Rattle.robot.proofs.run.run_on.Goals as goal

pub returns-in-Ok : goal.returns-in-Ok
returns-in-Ok c = rw c.unwrap_or.ensures (run_carried _ c.requires.0 _ c.requires.1 _ _ _ c.in-Ok.ensures c.requires.2 c.write_matrix_by_head.ensures)

pub returns-in-Err : goal.returns-in-Err
returns-in-Err c = rw c.at_start.ensures (run_refused _ c.requires.0 _ c.requires.1 _ _ _ c.in-Err.ensures)
