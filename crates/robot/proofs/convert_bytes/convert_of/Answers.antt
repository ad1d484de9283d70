-- A matrix is read against a scheme, then its converted bytes are written.
-- Assumes nothing.
use mathlib.Core.Path.{ap, ◌∙◌}
use Rattle.std.proofs.lemmas.Result.{err_from_is_err_and}
use Rattle.convert.specs.Convert.{convert_matrix_into}
use Rattle.robot.specs.Library.{not_written, wrote, convert_against}
use Rattle.robot.specs.Inner.Calls.{filled}
use Rattle.robot.proofs.CallLaws.{matrix_read, matrix_refused, wrote_is}
use Rattle.robot.proofs.convert_bytes.convert_of.Goals as goal

pub returns-in_err-things : goal.returns-in_err-things
unfolding convert_against
returns-in_err-things c =
    let p = err_from_is_err_and c.from_residual.result c.from_residual.ensures.1 in
    rw (p.1, p.2) (ap filled (matrix_refused (not_written _) (λ m k. wrote 1 (convert_matrix_into _ _ m)) _ _ c.requires c.in_err-things.ensures))

pub returns : goal.returns
unfolding convert_against
returns c =
    wrote_is 1 _ c.written.ensures c.convert_matrix.ensures
    ∙ ap filled (matrix_read (not_written _) (λ m k. wrote 1 (convert_matrix_into _ _ m)) _ _ c.requires c.in_ok-things.ensures)
