-- `matrix_bytes::read::read_matrix` meets its contract: of an accepted scheme the head is enough.
-- Assumes nothing.
use mathlib.Core.Path.{sym, ap, ◌∙◌}
use Rattle.faults.specs.Numbers.{fault_of}
use Rattle.laws.proofs.Bools.{from_true}
use Rattle.matrix_bytes.specs.Answers.{matrix_result}
use Rattle.matrix_bytes.proofs.ReadMatrix.{matrix_scheme, by_head}
use Rattle.matrix_bytes.proofs.read.read_matrix.Goals as goal

pub returns-then-not-scheme_accepted : goal.returns-then-not-scheme_accepted
unfolding fault_of
returns-then-not-scheme_accepted c = ap matrix_result (matrix_scheme _ _ _ _ (sym c.if-not-scheme_accepted.ensures))

pub returns : goal.returns
returns c = c.read_matrix_by_head.ensures ∙ ap matrix_result (sym (by_head _ _ _ _ (from_true (sym c.if-not-scheme_accepted.ensures))))
