-- `records::record_at` meets its contract: its tests are those of `record_at`, in their order.
-- Assumes nothing.
use native.Mathlib.Omega.{arith}
use mathlib.Core.Path.{sym, ap, ◌∙◌}
use borrow.Author.Tests.{not-true, not-false}
use Rattle.faults.specs.Numbers.{fault_of}
use Rattle.records.specs.Results.{record_result}
use Rattle.records.proofs.FrontLaws.{record_short, record_kind, record_past, record_whole}
use Rattle.records.proofs.record_at.Goals as goal

pub returns-then-s-at : goal.returns-then-s-at
unfolding fault_of
returns-then-s-at c = ap record_result (record_short _ _ _ (omega arith))

pub returns-then-not-has : goal.returns-then-not-has
unfolding fault_of
returns-then-not-has c =
    ap record_result (record_kind _ _ _ (omega arith) _ c.number2_at-kind.ensures (sym c.has.ensures ∙ not-true _ c.if-not-has.true-raw))

pub returns-then-s-start : goal.returns-then-s-start
unfolding fault_of
returns-then-s-start c =
    let k = c.number2_at-kind.ensures in
    let a = sym c.has.ensures ∙ not-false _ c.if-not-has.false-raw in
    ap record_result (record_past _ _ _ (omega arith) _ k a _ c.number2_at-len.ensures (omega arith))

pub returns : goal.returns
returns c =
    let k = c.number2_at-kind.ensures in
    let a = sym c.has.ensures ∙ not-false _ c.if-not-has.false-raw in
    ap record_result (record_whole _ _ _ (omega arith) _ k a _ c.number2_at-len.ensures (omega arith))
