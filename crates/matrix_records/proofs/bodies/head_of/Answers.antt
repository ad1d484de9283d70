-- `matrix_records::bodies::head_of` meets its contract: its tests are the lines of `head`, in their order.
-- Assumes nothing.
use borrow.Author.Tests.{eq-eqb, ne_eqb, lt-ltb, le-ltb}
use Rattle.std.proofs.lemmas.Result.{err_from_is_err_and}
use Rattle.faults.specs.Numbers.{fault_of}
use Rattle.matrix_records.proofs.BodyLaws.{head_lines}
use Rattle.matrix_records.proofs.bodies.head_of.Goals as goal

pub returns-in_err-rights : goal.returns-in_err-rights
returns-in_err-rights c =
    let p = err_from_is_err_and c.from_residual.result c.from_residual.ensures.1 in
    rw (p.1, p.2, head_lines _ _ _, ← c.in_err-rights.ensures)

pub returns-then-rights-h : goal.returns-then-rights-h
unfolding fault_of
returns-then-rights-h c = rw (head_lines _ _ _, ← c.in_ok-rights.ensures, ne_eqb _ _ c.if-rights-h.true)

pub returns-in_err-count : goal.returns-in_err-count
returns-in_err-count c =
    let p = err_from_is_err_and c.from_residual-in_err-count.result c.from_residual-in_err-count.ensures.1 in
    rw (p.1, p.2, head_lines _ _ _, ← c.in_ok-rights.ensures, eq-eqb _ _ c.if-rights-h.false, ← c.in_err-count.ensures)

pub returns-in_err-highest : goal.returns-in_err-highest
returns-in_err-highest c =
    let p = err_from_is_err_and c.from_residual-in_err-highest.result c.from_residual-in_err-highest.ensures.1 in
    rw (p.1, p.2, head_lines _ _ _, ← c.in_ok-rights.ensures, eq-eqb _ _ c.if-rights-h.false, ← c.in_ok-count.ensures, ← c.in_err-highest.ensures)

pub returns-then-b-gt4 : goal.returns-then-b-gt4
unfolding fault_of
returns-then-b-gt4 c = rw (head_lines _ _ _, ← c.in_ok-rights.ensures, eq-eqb _ _ c.if-rights-h.false, ← c.in_ok-count.ensures, ← c.in_ok-highest.ensures, lt-ltb _ _ c.if-b-gt4.true)

pub returns : goal.returns
returns c = rw (head_lines _ _ _, ← c.in_ok-rights.ensures, eq-eqb _ _ c.if-rights-h.false, ← c.in_ok-count.ensures, ← c.in_ok-highest.ensures, le-ltb _ _ c.if-b-gt4.false)
