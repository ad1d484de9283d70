-- `matrix_records::read::record_against` meets its contract: the head is asked first.
-- Assumes nothing.
use mathlib.Core.Path.{◌∙◌}
use Rattle.faults.specs.Numbers.{fault_of}
use Rattle.matrix_records.proofs.read.record_against.Goals as goal

pub returns-then-not-head_accepted : goal.returns-then-not-head_accepted
unfolding fault_of
returns-then-not-head_accepted c = rw (← c.if-not-head_accepted.ensures)

pub returns : goal.returns
returns c = c.record_at.ensures ∙ rw (← c.if-not-head_accepted.ensures)
