-- `matrix_records::bodies::rights_of` meets its contract: its tests are the last lines of `cell`, in their order.
-- Assumes nothing.
use borrow.Author.Tests.{eq-eqb, ne_eqb, lt-ltb, le-ltb}
use Rattle.std.proofs.lemmas.Result.{err_from_is_err_and}
use Rattle.faults.specs.Numbers.{fault_of}
use Rattle.matrix_records.proofs.BodyLaws.{rights_lines}
use Rattle.matrix_records.proofs.bodies.rights_of.Goals as goal

pub returns-in_err-rights : goal.returns-in_err-rights
returns-in_err-rights c =
    let p = err_from_is_err_and c.from_residual.result c.from_residual.ensures.1 in
    rw (p.1, p.2, rights_lines _ _, ← c.in_err-rights.ensures)

pub returns-then-not-within : goal.returns-then-not-within
unfolding fault_of
returns-then-not-within c = rw (rights_lines _ _, ← c.in_ok-rights.ensures, ← c.if-not-within.ensures)

pub returns-then-rights-eq0 : goal.returns-then-rights-eq0
unfolding fault_of
returns-then-rights-eq0 c = rw (rights_lines _ _, ← c.in_ok-rights.ensures, ← c.if-not-within.ensures, eq-eqb _ _ c.if-rights-eq0.true)

pub returns-then-b-gt12 : goal.returns-then-b-gt12
unfolding fault_of
returns-then-b-gt12 c = rw (rights_lines _ _, ← c.in_ok-rights.ensures, ← c.if-not-within.ensures, ne_eqb _ _ c.if-rights-eq0.false, lt-ltb _ _ c.if-b-gt12.true)

pub returns : goal.returns
returns c = rw (rights_lines _ _, ← c.in_ok-rights.ensures, ← c.if-not-within.ensures, ne_eqb _ _ c.if-rights-eq0.false, le-ltb _ _ c.if-b-gt12.false)
