-- A matrix is read against a scheme, and its length told.
-- Assumes nothing.
use Rattle.std.proofs.lemmas.Result.{err_from_is_err_and}
use Rattle.robot.specs.Library.{call, not_read, check_against}
use Rattle.robot.proofs.CallLaws.{matrix_read, matrix_refused}
use Rattle.robot.proofs.check.check_of.Goals as goal

pub returns-in_err-next : goal.returns-in_err-next
unfolding check_against
returns-in_err-next c =
    let p = err_from_is_err_and c.from_residual.result c.from_residual.ensures.1 in
    rw (p.1, p.2) (matrix_refused not_read (λ m k. call 0 0 k 0 0) _ _ c.requires c.in_err-next.ensures)

pub returns : goal.returns
unfolding check_against
returns c = rw c.read.ensures (matrix_read not_read (λ m k. call 0 0 k 0 0) _ _ c.requires c.in_ok-next.ensures)
