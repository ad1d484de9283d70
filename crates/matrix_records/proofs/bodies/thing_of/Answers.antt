-- `matrix_records::bodies::thing_of` meets its contract: its tests are the lines of `thing`, in their order.
-- Assumes nothing.
use borrow.Author.Tests.{eq-eqb, ne_eqb, lt-ltb, le-ltb, lt-leb, le-leb}
use Rattle.std.proofs.lemmas.Result.{err_from_is_err_and}
use Rattle.faults.specs.Numbers.{fault_of}
use Rattle.matrix_records.proofs.BodyLaws.{thing_lines}
use Rattle.matrix_records.proofs.bodies.thing_of.Goals as goal

pub returns-in_err-id : goal.returns-in_err-id
returns-in_err-id c =
    let p = err_from_is_err_and c.from_residual.result c.from_residual.ensures.1 in
    rw (p.1, p.2, thing_lines _ _ _ _ _, ← c.in_err-id.ensures)

pub returns-then-id-eq0 : goal.returns-then-id-eq0
unfolding fault_of
returns-then-id-eq0 c = rw (thing_lines _ _ _ _ _, ← c.in_ok-id.ensures, eq-eqb _ _ c.if-id-eq0.true)

pub returns-then-id-last : goal.returns-then-id-last
unfolding fault_of
returns-then-id-last c = rw (thing_lines _ _ _ _ _, ← c.in_ok-id.ensures, ne_eqb _ _ c.if-id-eq0.false, le-ltb _ _ c.if-id-last.true)

pub returns-then-highest-id : goal.returns-then-highest-id
unfolding fault_of
returns-then-highest-id c = rw (thing_lines _ _ _ _ _, ← c.in_ok-id.ensures, ne_eqb _ _ c.if-id-eq0.false, lt-ltb _ _ c.if-id-last.false, lt-leb _ _ c.if-highest-id.true)

pub returns-in_err-field_at : goal.returns-in_err-field_at
returns-in_err-field_at c =
    let p = err_from_is_err_and c.from_residual-in_err-field_at.result c.from_residual-in_err-field_at.ensures.1 in
    rw (p.1, p.2, thing_lines _ _ _ _ _, ← c.in_ok-id.ensures, ne_eqb _ _ c.if-id-eq0.false, lt-ltb _ _ c.if-id-last.false, le-leb _ _ c.if-highest-id.false, ← c.in_err-field_at.ensures)

pub returns-then-b-gt3 : goal.returns-then-b-gt3
unfolding fault_of
returns-then-b-gt3 c = rw (thing_lines _ _ _ _ _, ← c.in_ok-id.ensures, ne_eqb _ _ c.if-id-eq0.false, lt-ltb _ _ c.if-id-last.false, le-leb _ _ c.if-highest-id.false, ← c.in_ok-field_at.ensures, lt-ltb _ _ c.if-b-gt3.true)

pub returns : goal.returns
returns c = rw (thing_lines _ _ _ _ _, ← c.in_ok-id.ensures, ne_eqb _ _ c.if-id-eq0.false, lt-ltb _ _ c.if-id-last.false, le-leb _ _ c.if-highest-id.false, ← c.in_ok-field_at.ensures, le-ltb _ _ c.if-b-gt3.false)
