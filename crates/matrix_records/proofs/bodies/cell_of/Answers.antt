-- `matrix_records::bodies::cell_of` meets its contract: its tests are the lines of `cell`, in their order.
-- Assumes nothing.
use borrow.Author.Rules.{rules}
use Rattle.std.proofs.lemmas.Result.{err_from_is_err_and}
use Rattle.faults.specs.Numbers.{fault_of}
use Rattle.matrix_records.specs.Answers.{last_of}
use Rattle.matrix_records.proofs.BodyLaws.{cell_lines, seat_near, is_below, is_above}
use Rattle.matrix_records.proofs.bodies.cell_of.Goals as goal

pub returns-in_err-row : goal.returns-in_err-row
returns-in_err-row c =
    let a = c.args in
    let p = err_from_is_err_and c.from_residual.result c.from_residual.ensures.1 in
    rw (p.1, p.2, cell_lines a.b.now a.h a.th a.n (last_of a.over a.by) a.kind (search rules), ← c.in_err-row.ensures)

pub bounds-th-i : goal.bounds-th-i
bounds-th-i c = seat_near c.args.b.now 0 c.args.th c.args.n (search rules) c.in_ok-row.ensures

pub returns-then-not-has : goal.returns-then-not-has
unfolding fault_of
returns-then-not-has c =
    let a = c.args in
    rw (cell_lines a.b.now a.h a.th a.n (last_of a.over a.by) a.kind (search rules), ← c.in_ok-row.ensures, ← c.if-not-has.ensures)

pub returns-in_err-column : goal.returns-in_err-column
returns-in_err-column c =
    let a = c.args in
    let p = err_from_is_err_and c.from_residual-in_err-column.result c.from_residual-in_err-column.ensures.1 in
    rw (p.1, p.2, cell_lines a.b.now a.h a.th a.n (last_of a.over a.by) a.kind (search rules), ← c.in_ok-row.ensures, ← c.if-not-has.ensures, ← c.in_err-column.ensures)

pub returns-then-ge : goal.returns-then-ge
unfolding fault_of
returns-then-ge c =
    let a = c.args in
    rw (cell_lines a.b.now a.h a.th a.n (last_of a.over a.by) a.kind (search rules), ← c.in_ok-row.ensures, ← c.if-not-has.ensures, ← c.in_ok-column.ensures, is_below a.over a.by c.in_ok-row.row c.in_ok-column.column c.if-ge.ensures)

pub returns-in_err-rights : goal.returns-in_err-rights
returns-in_err-rights c =
    let a = c.args in
    let p = err_from_is_err_and c.from_residual-in_err-rights.result c.from_residual-in_err-rights.ensures.1 in
    rw (p.1, p.2, cell_lines a.b.now a.h a.th a.n (last_of a.over a.by) a.kind (search rules), ← c.in_ok-row.ensures, ← c.if-not-has.ensures, ← c.in_ok-column.ensures, is_above a.over a.by c.in_ok-row.row c.in_ok-column.column c.if-ge.ensures, ← c.in_err-rights.ensures)

pub overflow_mul-result : goal.overflow_mul-result
overflow_mul-result c =
    let i = seat_near c.args.b.now 0 c.args.th c.args.n (search rules) c.in_ok-row.ensures in
    search rules

pub overflow_add-result : goal.overflow_add-result
overflow_add-result c =
    let i = seat_near c.args.b.now 0 c.args.th c.args.n (search rules) c.in_ok-row.ensures in
    let j = seat_near c.args.b.now 2 c.args.th c.args.n (search rules) c.in_ok-column.ensures in
    search rules

pub returns : goal.returns
returns c =
    let a = c.args in
    rw (cell_lines a.b.now a.h a.th a.n (last_of a.over a.by) a.kind (search rules), ← c.in_ok-row.ensures, ← c.if-not-has.ensures, ← c.in_ok-column.ensures, is_above a.over a.by c.in_ok-row.row c.in_ok-column.column c.if-ge.ensures, ← c.in_ok-rights.ensures)
