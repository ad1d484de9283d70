-- `moving::old::count_in` meets its contract: its tests are the lines of `old_head`, in their order.
-- Assumes nothing.
use borrow.Author.Tests.{eq-eqb, ne_eqb, lt-ltb, le-ltb}
use Rattle.std.proofs.lemmas.Result.{err_from_is_err_and}
use Rattle.faults.specs.Numbers.{fault_of}
use Rattle.moving.proofs.OldReads.{old_lines}
use Rattle.moving.proofs.old.count_in.Goals as goal

pub returns-in_err-rights : goal.returns-in_err-rights
returns-in_err-rights c =
    let p = err_from_is_err_and c.from_residual.result c.from_residual.ensures.1 in
    rw (p.1, p.2, old_lines _ _, ← c.in_err-rights.ensures)

pub returns-then-rights-h : goal.returns-then-rights-h
unfolding fault_of
returns-then-rights-h c = rw (old_lines _ _, ← c.in_ok-rights.ensures, ne_eqb _ _ c.if-rights-h.true)

pub returns-in_err-count : goal.returns-in_err-count
returns-in_err-count c =
    let p = err_from_is_err_and c.from_residual-in_err-count.result c.from_residual-in_err-count.ensures.1 in
    rw (p.1, p.2, old_lines _ _, ← c.in_ok-rights.ensures, eq-eqb _ _ c.if-rights-h.false, ← c.in_err-count.ensures)

pub returns-then-b-gt2 : goal.returns-then-b-gt2
unfolding fault_of
returns-then-b-gt2 c = rw (old_lines _ _, ← c.in_ok-rights.ensures, eq-eqb _ _ c.if-rights-h.false, ← c.in_ok-count.ensures, lt-ltb _ _ c.if-b-gt2.true)

pub returns : goal.returns
returns c = rw (old_lines _ _, ← c.in_ok-rights.ensures, eq-eqb _ _ c.if-rights-h.false, ← c.in_ok-count.ensures, le-ltb _ _ c.if-b-gt2.false)
