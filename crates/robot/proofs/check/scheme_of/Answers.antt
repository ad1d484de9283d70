-- A scheme read into a table that holds none.
-- Assumes nothing.
use mathlib.Core.Path.{ap, ◌∙◌}
use Rattle.std.specs.Prelude.{Err}
use Rattle.robot.proofs.CallLaws.{scheme_ok, scheme_err}
use Rattle.robot.proofs.check.scheme_of.Goals as goal

pub returns-in-Ok : goal.returns-in-Ok
returns-in-Ok c = scheme_ok _ c.requires c.in-Ok.ensures

pub returns-in-Err : goal.returns-in-Err
returns-in-Err c = ap Err c.at_record.ensures ∙ scheme_err _ c.requires c.in-Err.ensures
