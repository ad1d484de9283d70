-- A matrix is read against a scheme, a thing of it marked, and the matrix with the mark written.
-- Assumes nothing.
use mathlib.Core.Path.{ap, ◌∙◌}
use Rattle.std.proofs.lemmas.Result.{err_from_is_err_and}
use Rattle.hold.specs.Marking.{mark_thing}
use Rattle.robot.specs.Library.{not_written, marked_into, mark_against}
use Rattle.robot.specs.Inner.Calls.{filled}
use Rattle.robot.proofs.CallLaws.{matrix_read, matrix_refused, marked_not, marked_wrote}
use Rattle.robot.proofs.mark_bytes.mark_of.Goals as goal

pub returns-in_err-things : goal.returns-in_err-things
unfolding mark_against
returns-in_err-things c =
    let p = err_from_is_err_and c.from_residual.result c.from_residual.ensures.1 in
    rw (p.1, p.2)
    (ap filled (matrix_refused (not_written _) (λ m k. marked_into _ _ m.cells (mark_thing _ _ m.things)) _ _ c.requires c.in_err-things.ensures))

pub returns-in-Err : goal.returns-in-Err
unfolding mark_against
returns-in-Err c =
    rw c.at_start.ensures (marked_not _ _ _ _ _ c.in-Err.ensures)
    ∙ ap filled (matrix_read (not_written _) (λ m k. marked_into _ _ m.cells (mark_thing _ _ m.things)) _ _ c.requires c.in_ok-things.ensures)

pub returns : goal.returns
unfolding mark_against
returns c =
    marked_wrote _ _ _ _ _ c.in_default.ensures c.written.ensures c.write_matrix.ensures
    ∙ ap filled (matrix_read (not_written _) (λ m k. marked_into _ _ m.cells (mark_thing _ _ m.things)) _ _ c.requires c.in_ok-things.ensures)
