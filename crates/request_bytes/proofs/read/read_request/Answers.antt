-- `request_bytes::read::read_request` meets its contract: the list's end, or the record that stands there, whose body lies in the list.
-- Assumes nothing.
use mathlib.Core.Path.{◌≡◌, sym, ap, ◌∙◌}
use borrow.Author.Rules.{rules}
use Rattle.std.proofs.lemmas.Result.{err_from_is_err_and}
use Rattle.records.proofs.FieldLaws.{value_back, fault_back}
use Rattle.records.proofs.FrontLaws.{record_found}
use Rattle.records.proofs.ResultLaws.{record_back}
use Rattle.records.specs.Reading.{whole}
use Rattle.request_bytes.specs.Read.{request, request_of, no_request}
use Rattle.request_bytes.specs.Results.{request_lent}
use Rattle.request_bytes.proofs.Laws.{read_end, read_refused, read_fault, read_done}
use Rattle.request_bytes.proofs.Mapped.{erred, passed}
use Rattle.request_bytes.proofs.read.read_request.Goals as goal

pub returns-then-at-s : goal.returns-then-at-s
unfolding no_request request_of
returns-then-at-s c = ap request_lent (read_end _ _ c.if-at-s.true)

pub returns-in_err-found : goal.returns-in_err-found
unfolding no_request request_of
returns-in_err-found c =
    let p = err_from_is_err_and c.from_residual.result c.from_residual.ensures.1 in
    let (k, q, e, f) = read_refused _ _ c.if-at-s.false (sym c.in_err-found.ensures) in
    rw (p.1, p.2, e, ← f)

pub returns-in_err-request : goal.returns-in_err-request
unfolding no_request request_of
returns-in_err-request c =
    let p = err_from_is_err_and c.from_residual-in_err-request.result c.from_residual-in_err-request.ensures.1 in
    let (f, d, m) = erred _ _ c.map_err.ensures.cases c.in_err-request.was in
    let g : c.in_err-request.field-0.0 ≡ record { fault = f; at = c.args.at } = search rules in
    let (k, e, h) = fault_back _ (sym c.request_of.ensures ∙ d) in
    rw (p.1, p.2, g, h, ← (read_fault _ _ c.if-at-s.false _ (sym c.in_ok-found.ensures) k (sym (ap (whole request) c.body.ensures) ∙ e)))

pub overflow_add-result : goal.overflow_add-result
overflow_add-result c = let f = record_found _ _ _ _ _ _ (record_back _ (sym c.in_ok-found.ensures)) in search rules

pub returns : goal.returns
returns c =
    let f = passed _ _ c.map_err.ensures.cases c.in_ok-request.was in
    let (t, e) = value_back _ (sym c.request_of.ensures ∙ f) in
    ap request_lent (read_done _ _ c.if-at-s.false _ (sym c.in_ok-found.ensures) _ t (sym (ap (whole request) c.body.ensures) ∙ e))
