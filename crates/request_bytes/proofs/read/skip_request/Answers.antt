-- `request_bytes::read::skip_request` meets its contract, by the laws of `read_request`.
-- Assumes nothing.
use mathlib.Core.Path.{◌≡◌, sym, ap, ◌∙◌}
use borrow.Author.Rules.{rules}
use Rattle.std.proofs.lemmas.Result.{err_from_is_err_and}
use Rattle.records.proofs.FrontLaws.{record_found}
use Rattle.records.proofs.ResultLaws.{record_back}
use Rattle.records.specs.Reading.{whole}
use Rattle.request_bytes.specs.Read.{request}
use Rattle.request_bytes.specs.Results.{skip_result}
use Rattle.request_bytes.specs.Outcome.RequestAnswer.{RequestAnswer}
use Rattle.request_bytes.proofs.Laws.{read_end, read_refused, read_fault, read_done}
use Rattle.request_bytes.proofs.Skip.{end_back, end_fault}
use Rattle.request_bytes.proofs.Mapped.{erred, passed}
use Rattle.request_bytes.proofs.read.skip_request.Goals as goal

pub returns-then-at-s : goal.returns-then-at-s
returns-then-at-s c = ap (λ (a : RequestAnswer). skip_result a.answer) (read_end _ _ c.if-at-s.true)

pub returns-in_err-found : goal.returns-in_err-found
returns-in_err-found c =
    let p = err_from_is_err_and c.from_residual.result c.from_residual.ensures.1 in
    let (k, q, e, f) = read_refused _ _ c.if-at-s.false (sym c.in_err-found.ensures) in
    rw (p.1, p.2, e, ← f)

pub returns-in_err-map_err : goal.returns-in_err-map_err
returns-in_err-map_err c =
    let p = err_from_is_err_and c.from_residual-in_err-map_err.result c.from_residual-in_err-map_err.ensures.1 in
    let (f, d, m) = erred _ _ c.map_err.ensures.cases c.in_err-map_err.was in
    let g : c.in_err-map_err.field-0.0 ≡ record { fault = f; at = c.args.at } = search rules in
    let (k, e, h) = end_fault _ (sym c.skip_body.ensures ∙ d) in
    rw (p.1, p.2, g, h, ← (read_fault _ _ c.if-at-s.false _ (sym c.in_ok-found.ensures) k (sym (ap (whole request) c.body.ensures) ∙ e)))

pub overflow_add-result : goal.overflow_add-result
overflow_add-result c = let f = record_found _ _ _ _ _ _ (record_back _ (sym c.in_ok-found.ensures)) in search rules

pub returns : goal.returns
returns c =
    let f = passed _ _ c.map_err.ensures.cases c.in_ok-map_err.was in
    let (q, t, e) = end_back _ (sym c.skip_body.ensures ∙ f) in
    ap (λ (a : RequestAnswer). skip_result a.answer) (read_done _ _ c.if-at-s.false _ (sym c.in_ok-found.ensures) q t (sym (ap (whole request) c.body.ensures) ∙ e))
