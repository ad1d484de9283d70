-- The five numbers stand in the report, and the call's own is given.
-- Assumes nothing.
use mathlib.Core.Path.{ap, ◌∙◌}
use Rattle.std.proofs.lemmas.List.Edits.{sets}
use Rattle.robot.specs.Library.{reported}
use Rattle.robot.proofs.report.tell.Goals as goal

pub returns : goal.returns
unfolding reported
returns c =
    let stored = c.put_all.ensures ∙ ap (sets c.args.report.now 0) c.numbers_of.ensures in
    λ i. (c.own_number.ensures i, stored i)
