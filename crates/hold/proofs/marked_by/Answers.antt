-- `hold::marked_by` meets its contract: 27 for what isn't accepted, else the mark.
-- Assumes nothing.
use mathlib.Core.Path.{ap, ◌∙◌}
use borrow.Author.Tests.{not-true, not-false}
use Rattle.faults.specs.Numbers.{fault_of}
use Rattle.hold.specs.Marking.{marked_result}
use Rattle.hold.proofs.MarkLaws.{marked_27, marked_on}
use Rattle.hold.proofs.marked_by.Goals as goal

pub returns-then-not-scheme_accepted-matrix_accepted : goal.returns-then-not-scheme_accepted-matrix_accepted
unfolding fault_of
returns-then-not-scheme_accepted-matrix_accepted c =
    ap marked_result
    (marked_27 _ _ _ _ _ (rw (← c.scheme_accepted.ensures, ← c.matrix_accepted.ensures) (not-true _ c.if-not-scheme_accepted-matrix_accepted.true-raw)))

pub returns : goal.returns
returns c =
    c.mark_thing.ensures
    ∙ ap marked_result
    (marked_on _ _ _ _ _ (rw (← c.scheme_accepted.ensures, ← c.matrix_accepted.ensures) (not-false _ c.if-not-scheme_accepted-matrix_accepted.false-raw)))
