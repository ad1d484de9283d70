-- A scheme is read, and its length told.
-- Assumes nothing.
use Rattle.std.proofs.lemmas.Result.{err_from_is_err_and}
use Rattle.robot.specs.Library.{call, not_read, check_scheme}
use Rattle.robot.proofs.CallLaws.{scheme_read, scheme_refused}
use Rattle.robot.proofs.check.check_scheme_bytes.Goals as goal

pub returns-in_err-next : goal.returns-in_err-next
unfolding check_scheme
returns-in_err-next c =
    let p = err_from_is_err_and c.from_residual.result c.from_residual.ensures.1 in
    rw (p.1, p.2) (scheme_refused not_read (λ s n. call 0 0 n 0 0) _ c.in_err-next.ensures)

pub returns : goal.returns
unfolding check_scheme
returns c = rw c.read.ensures (scheme_read not_read (λ s n. call 0 0 n 0 0) _ c.in_ok-next.ensures)
