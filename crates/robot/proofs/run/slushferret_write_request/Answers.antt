-- A request's bytes, and what the report says of them.
-- Assumes nothing.
use Rattle.robot.specs.Library.{request_bytes}
use Rattle.robot.proofs.CallLaws.{told_filled, wrote_is}
use Rattle.robot.proofs.run.slushferret_write_request.Goals as goal

pub returns : goal.returns
unfolding request_bytes
returns c = told_filled _ _ c.tell.ensures (wrote_is 3 _ c.written.ensures c.write_request.ensures)
