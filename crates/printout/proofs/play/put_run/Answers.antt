-- `play::put_run` meets its contract: the heading, the lines of the list with the results of the run, and the totals it leaves.
-- Assumes nothing.
use native.Mathlib.Omega.{arith}
use mathlib.Core.Path.{ap, ◌∙◌}
use Rattle.totals.specs.Outcome.{outcome_of}
use Rattle.totals.proofs.Told.{outcome_back}
use Rattle.printout.proofs.PlayLaws.{printed}
use Rattle.printout.proofs.play.put_run.Goals as goal

pub returns : goal.returns
returns c =
    printed c.args.s _ c.requires.0 c.requires.1 _ _ (omega (arith, c.requires)) _ c.run_list.ensures _
    (omega arith) c.put_heading-heading.ensures c.put_requests-lines.ensures _ (ap outcome_of c.totals.ensures ∙ outcome_back _) c.put_end.ensures
