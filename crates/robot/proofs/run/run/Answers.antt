-- A scheme is read, then a list of requests is run on a matrix against it.
-- Assumes nothing.
use mathlib.Core.Path.{ap, ◌∙◌}
use Rattle.std.proofs.lemmas.Result.{err_from_is_err_and}
use Rattle.robot.specs.Library.{not_run, run_against, run_bytes}
use Rattle.robot.specs.Inner.Calls.{answered}
use Rattle.robot.proofs.CallLaws.{found_accepted, scheme_read, scheme_refused}
use Rattle.robot.proofs.run.run.Goals as goal

pub returns-in_err-scheme_of : goal.returns-in_err-scheme_of
unfolding run_bytes
returns-in_err-scheme_of c =
    let p = err_from_is_err_and c.from_residual.result c.from_residual.ensures.1 in
    rw (p.1, p.2) (ap answered (scheme_refused (not_run _ _) (λ s n. run_against _ _ _ _ s) _ c.in_err-scheme_of.ensures))

pub run_of-requires : goal.run_of-requires
run_of-requires c = found_accepted _ (λ i. (c.shared_slice_known-1.given i).fits) c.in_ok-scheme_of.ensures

pub returns : goal.returns
unfolding run_bytes
returns c = c.run_of.ensures ∙ ap answered (scheme_read (not_run _ _) (λ s n. run_against _ _ _ _ s) _ c.in_ok-scheme_of.ensures)
