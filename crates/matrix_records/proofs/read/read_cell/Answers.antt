-- `matrix_records::read::read_cell` meets its contract: the record, and then the body of a record that lies in the input.
-- Assumes nothing.
use mathlib.Core.Path.{◌∙◌}
use borrow.Author.Rules.{rules}
use Rattle.std.proofs.lemmas.Result.{err_from_is_err_and}
use Rattle.matrix_records.specs.Answers.{found_cell, read_cell}
use Rattle.matrix_records.proofs.RecordLaws.{record_refused, record_read, against_found}
use Rattle.matrix_records.proofs.read.read_cell.Goals as goal

pub returns-in_err-kind : goal.returns-in_err-kind
unfolding read_cell
returns-in_err-kind c =
    let p = err_from_is_err_and c.from_residual.result c.from_residual.ensures.1 in
    rw (p.1, p.2) (record_refused (found_cell _ _) _ _ _ _ _ c.in_err-kind.ensures)

pub overflow_add-start : goal.overflow_add-start
overflow_add-start c = let f = against_found _ _ _ _ c.in_ok-kind.ensures in search rules

pub returns : goal.returns
unfolding read_cell
returns c = c.item.ensures ∙ record_read (found_cell _ _) _ _ _ _ _ c.in_ok-kind.ensures _ _ c.body.ensures c.cell_of-found.ensures
