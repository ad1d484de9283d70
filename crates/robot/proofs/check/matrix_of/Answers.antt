-- A matrix read against a head, into cells that hold nothing.
-- Assumes nothing.
use Rattle.robot.proofs.CallLaws.{matrix_ok, matrix_err}
use Rattle.robot.proofs.check.matrix_of.Goals as goal

pub returns-in-Ok : goal.returns-in-Ok
returns-in-Ok c = matrix_ok _ _ c.no_things-things.ensures c.requires c.in-Ok.ensures

pub returns-in-Err : goal.returns-in-Err
returns-in-Err c = rw c.at_record.ensures (matrix_err _ _ c.no_things-things.ensures c.requires c.in-Err.ensures)
