-- A scheme is read, then a matrix against it.
-- Assumes nothing.
use mathlib.Core.Path.{◌∙◌}
use Rattle.std.proofs.lemmas.Result.{err_from_is_err_and}
use Rattle.robot.specs.Library.{not_read, check_against, check_matrix}
use Rattle.robot.proofs.CallLaws.{found_accepted, scheme_read, scheme_refused}
use Rattle.robot.proofs.check.check_matrix_bytes.Goals as goal

pub returns-in_err-scheme_of : goal.returns-in_err-scheme_of
unfolding check_matrix
returns-in_err-scheme_of c =
    let p = err_from_is_err_and c.from_residual.result c.from_residual.ensures.1 in
    rw (p.1, p.2) (scheme_refused not_read (λ s n. check_against _ s) _ c.in_err-scheme_of.ensures)

pub check_of-requires : goal.check_of-requires
check_of-requires c = found_accepted _ (λ i. (c.shared_slice_known-1.given i).fits) c.in_ok-scheme_of.ensures

pub returns : goal.returns
unfolding check_matrix
returns c = c.check_of.ensures ∙ scheme_read not_read (λ s n. check_against _ s) _ c.in_ok-scheme_of.ensures
