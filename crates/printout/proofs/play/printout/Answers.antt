-- `play::printout` meets its contract: from the start on, the position behind the text is its length.
-- Assumes nothing.
use mathlib.Core.Path.{◌∙◌}
use Rattle.printout.proofs.PlayLaws.{told}
use Rattle.printout.proofs.play.printout.Goals as goal

pub returns-in-Ok : goal.returns-in-Ok
returns-in-Ok c = told _ _ _ _ (rw c.in-Ok.is at c.put_play.ensures)

pub returns-in-Err : goal.returns-in-Err
returns-in-Err c = told _ _ _ _ (c.put_bad.ensures ∙ (rw c.in-Err.is at c.put_play.ensures))
