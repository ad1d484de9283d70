-- A matrix is read against a scheme; the run is tried first where the output might be too short.
-- Assumes nothing.
use mathlib.Core.Path.{ap, ◌∙◌}
use Rattle.std.proofs.lemmas.Result.{err_from_is_err_and}
use Rattle.robot.specs.Library.{not_run, run_matrix, run_against}
use Rattle.robot.specs.Inner.Calls.{answered}
use Rattle.robot.proofs.CallLaws.{matrix_read, matrix_refused}
use Rattle.robot.proofs.RunLaws.{found_matrix_accepted, always_fits, answers_short, out_short, tried_fits}
use Rattle.robot.proofs.run.run_of.Goals as goal
use Rattle.robot.proofs.run.run_of.Goals.{then-out-lt-LARGEST+else-answers-need+else-out-need, else-out-lt-LARGEST}

pub returns-in_err-things : goal.returns-in_err-things
unfolding run_against
returns-in_err-things c =
    let p = err_from_is_err_and c.from_residual.result c.from_residual.ensures.1 in
    rw (p.1, p.2) (ap answered (matrix_refused (not_run _ _) (λ m k. run_matrix _ m _ _ _) _ _ c.requires c.in_err-things.ensures))

pub trial_of-need-requires : goal.trial_of-need-requires
trial_of-need-requires c =
    (c.requires, found_matrix_accepted _ _ c.requires (λ i. (c.shared_slice_known-1.given i).fits) c.in_ok-things.ensures)

pub returns-then-answers-need : goal.returns-then-answers-need
unfolding run_against
returns-then-answers-need c =
    rw c.at_start.ensures (answers_short _ _ _ _ c.trial_of-need.ensures _ _ c.if-answers-need.true)
    ∙ ap answered (matrix_read (not_run _ _) (λ m k. run_matrix _ m _ _ _) _ _ c.requires c.in_ok-things.ensures)

pub returns-then-out-need : goal.returns-then-out-need
unfolding run_against
returns-then-out-need c =
    rw c.at_start-then-out-need.ensures (out_short _ _ _ _ c.trial_of-need.ensures _ _ c.if-answers-need.false c.if-out-need.true)
    ∙ ap answered (matrix_read (not_run _ _) (λ m k. run_matrix _ m _ _ _) _ _ c.requires c.in_ok-things.ensures)

pub run_on-requires : goal.run_on-requires
run_on-requires c =
    let t = c.requires in
    let u = found_matrix_accepted _ _ t (λ i. (c.shared_slice_known-1.given i).fits) c.in_ok-things.ensures in (
      t,
      u,
      elim c.if-out-lt-LARGEST.branch [
        | then-out-lt-LARGEST+else-answers-need+else-out-need w ↦ tried_fits _ _ _ _ w.trial_of-need.ensures _ w.if-out-need.false
        | else-out-lt-LARGEST w ↦ always_fits _ t _ u _ _ w.if-out-lt-LARGEST.false
      ],
    )

pub returns : goal.returns
unfolding run_against
returns c = c.run_on.ensures ∙ ap answered (matrix_read (not_run _ _) (λ m k. run_matrix _ m _ _ _) _ _ c.requires c.in_ok-things.ensures)
