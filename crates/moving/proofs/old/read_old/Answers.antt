-- `moving::old::read_old` meets its contract: the head, and then what stands behind it, in a matrix that begins with no things.
-- Assumes nothing.
use mathlib.Core.Path.{sym, ap, ◌∙◌}
use borrow.Author.Rules.{rules}
use Rattle.std.proofs.lemmas.Result.{err_from_is_err_and}
use Rattle.records.proofs.FrontLaws.{record_found}
use Rattle.records.proofs.ResultLaws.{record_back}
use Rattle.matrix_bytes.specs.Answers.{matrix_result}
use Rattle.moving.proofs.OldReads.{started, old_no_record, old_no_head, old_opened, not_kept, kept}
use Rattle.moving.proofs.old.read_old.Goals as goal

pub returns-in_err-start : goal.returns-in_err-start
returns-in_err-start c =
    let p = err_from_is_err_and c.from_residual.result c.from_residual.ensures.1 in
    rw (p.1, p.2) (old_no_record _ _ c.in_err-start.ensures)

pub returns-in_err-count : goal.returns-in_err-count
returns-in_err-count c =
    let p = err_from_is_err_and c.from_residual-in_err-count.result c.from_residual-in_err-count.ensures.1 in
    rw (p.1, p.2) (old_no_head _ _ c.in_ok-start.ensures c.body.ensures c.count_in.ensures (sym c.in_err-count.was ∙ started _ c.map_err.ensures.cases))

pub overflow_add-start : goal.overflow_add-start
overflow_add-start c = let found = record_found _ _ _ _ _ _ (record_back _ (sym c.in_ok-start.ensures)) in search rules

pub returns-in_err-read_rest : goal.returns-in_err-read_rest
returns-in_err-read_rest c =
    let p = err_from_is_err_and c.from_residual-in_err-read_rest.result c.from_residual-in_err-read_rest.ensures.1 in
    let opened = old_opened _ _ c.in_ok-start.ensures c.body.ensures c.count_in.ensures (sym c.in_ok-count.was ∙ started _ c.map_err.ensures.cases) c.requires (λ i. (c.type_inv.image i).fits) c.no_things-th.result in
    rw (p.1, p.2) (not_kept _ _ _ _ _ (c.in_err-read_rest.ensures ∙ ap matrix_result opened))

pub returns : goal.returns
returns c =
    let opened = old_opened _ _ c.in_ok-start.ensures c.body.ensures c.count_in.ensures (sym c.in_ok-count.was ∙ started _ c.map_err.ensures.cases) c.requires (λ i. (c.type_inv.image i).fits) c.no_things-th.result in
    kept _ _ _ _ _ (c.in_ok-read_rest.ensures ∙ ap matrix_result opened)
