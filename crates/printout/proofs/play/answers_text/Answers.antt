-- `play::answers_text` meets its contract: the heading, then the lines of the list with the stored results.
-- Assumes nothing.
use native.Mathlib.Omega.{arith}
use Rattle.printout.proofs.PlayLaws.{answers_printed}
use Rattle.printout.proofs.play.answers_text.Goals as goal

pub returns : goal.returns
returns c =
    answers_printed _ _ _ c.input.ensures _ (omega arith) c.put_heading-heading.ensures c.put_requests.ensures
