-- `records::next_record` meets its contract: the record found lies in the input, so that its end is a position.
-- Assumes nothing.
use mathlib.Core.Path.{sym}
use borrow.Author.Rules.{rules}
use Rattle.std.proofs.lemmas.Result.{err_from_is_err_and}
use Rattle.records.proofs.FrontLaws.{record_found}
use Rattle.records.proofs.ResultLaws.{record_back, next_found, next_passed}
use Rattle.records.proofs.next_record.Goals as goal

pub returns-in_err-found : goal.returns-in_err-found
returns-in_err-found c =
    let p = err_from_is_err_and c.from_residual.result c.from_residual.ensures.1 in
    rw (p.1, p.2) (next_passed _ _ _ (sym c.in_err-found.ensures))

pub overflow_add-result : goal.overflow_add-result
overflow_add-result c = let f = record_found _ _ _ _ _ _ (record_back _ (sym c.in_ok-found.ensures)) in search rules

pub returns : goal.returns
returns c = next_found _ _ _ (sym c.in_ok-found.ensures)
