-- `request_bytes::read::request_of` meets its contract: its tests are the lines of `request`, in their order.
-- Assumes nothing.
use native.Mathlib.Omega.{arith}
use mathlib.Core.Path.{sym}
use borrow.Author.Rules.{rules}
use Rattle.std.proofs.lemmas.Result.{err_from_is_err_and}
use Rattle.faults.specs.Numbers.{fault_of}
use Rattle.records.proofs.FieldLaws.{field_between}
use Rattle.request_bytes.proofs.Laws.{no_command, no_count, no_ids, more_left, none_more}
use Rattle.request_bytes.proofs.read.request_of.Goals as goal

pub returns-in_err-command : goal.returns-in_err-command
returns-in_err-command c =
    let p = err_from_is_err_and c.from_residual.result c.from_residual.ensures.1 in
    rw (p.1, p.2) (no_command _ (sym c.in_err-command.ensures))

pub returns-in_err-count : goal.returns-in_err-count
returns-in_err-count c =
    let p = err_from_is_err_and c.from_residual-in_err-count.result c.from_residual-in_err-count.ensures.1 in
    rw (p.1, p.2) (no_count _ _ (sym c.in_ok-command.ensures) (sym c.in_err-count.ensures))

pub ids_at-requires : goal.ids_at-requires
ids_at-requires c = let h = field_between _ _ _ _ _ (sym c.in_ok-count.ensures) in search rules

pub returns-in_err-ids : goal.returns-in_err-ids
returns-in_err-ids c =
    let p = err_from_is_err_and c.from_residual-in_err-ids.result c.from_residual-in_err-ids.ensures.1 in
    rw (p.1, p.2) (no_ids _ _ (sym c.in_ok-command.ensures) _ (sym c.in_ok-count.ensures) (sym c.in_err-ids.ensures))

pub returns-then-count-b : goal.returns-then-count-b
unfolding fault_of
returns-then-count-b c =
    more_left _ _ (sym c.in_ok-command.ensures) _ (sym c.in_ok-count.ensures) (λ i. (c.type_inv.b i).fits) _ (sym c.in_ok-ids.ensures)
    (omega (arith, c.if-count-b.true))

pub returns : goal.returns
returns c =
    none_more _ _ (sym c.in_ok-command.ensures) _ (sym c.in_ok-count.ensures) (λ i. (c.type_inv.b i).fits) _ (sym c.in_ok-ids.ensures)
    (omega (arith, c.if-count-b.false))
