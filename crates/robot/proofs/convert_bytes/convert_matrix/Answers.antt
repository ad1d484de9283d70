-- A scheme is read, and then what the function makes of it.
-- Assumes nothing.
use mathlib.Core.Path.{ap, ◌∙◌}
use Rattle.std.proofs.lemmas.Result.{err_from_is_err_and}
use Rattle.robot.specs.Library.{not_written, convert_against, convert_matrix_bytes}
use Rattle.robot.specs.Inner.Calls.{filled}
use Rattle.robot.proofs.CallLaws.{found_accepted, scheme_read, scheme_refused}
use Rattle.robot.proofs.convert_bytes.convert_matrix.Goals as goal

pub returns-in_err-scheme_of : goal.returns-in_err-scheme_of
unfolding convert_matrix_bytes
returns-in_err-scheme_of c =
    let p = err_from_is_err_and c.from_residual.result c.from_residual.ensures.1 in
    rw (p.1, p.2) (ap filled (scheme_refused (not_written _) (λ s n. convert_against _ _ s) _ c.in_err-scheme_of.ensures))

pub convert_of-requires : goal.convert_of-requires
convert_of-requires c = found_accepted _ (λ i. (c.shared_slice_known-1.given i).fits) c.in_ok-scheme_of.ensures

pub returns : goal.returns
unfolding convert_matrix_bytes
returns c = c.convert_of.ensures ∙ ap filled (scheme_read (not_written _) (λ s n. convert_against _ _ s) _ c.in_ok-scheme_of.ensures)
