-- A run on the copies, and the bytes of what it leaves, for which there is always room.
-- Assumes nothing.
use Rattle.robot.proofs.RunLaws.{trial_tells}
use borrow.Author.Rules.{rules}
use Rattle.robot.proofs.run.trial_of.Goals as goal

pub returns : goal.returns
returns c = rw (c.count_of-answers.ensures, c.unwrap_or-bytes.ensures) (trial_tells _ c.requires.0 _ c.requires.1 _ c.run_quietly.ensures _ (search rules) c.write_matrix_by_head.ensures)
