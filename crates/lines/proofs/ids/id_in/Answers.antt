-- `lines::id_in` meets its contract: what was read are digits that stand for n, and what is left decides the id.
-- Assumes nothing.
use native.Mathlib.Omega.{arith}
use mathlib.Core.Path.{sym, ap, ◌∙◌}
use borrow.Author.Tests.{eqb-true, eqb-false}
use Rattle.std.specs.Prelude.{Some}
use Rattle.laws.specs.Check.{between}
use Rattle.lines.specs.Ids.{is_digit}
use Rattle.lines.proofs.IdLaws.{id_empty, id_long, id_of, read_none, read_on, read_other, read_all}
use Rattle.lines.proofs.ids.id_in.Goals as goal
use Rattle.lines.proofs.ids.id_in.Goals.{then-is_empty-via-then-is_empty, then-is_empty-via-else-is_empty+then-word-gt5}

pub returns-then-is_empty : goal.returns-then-is_empty
returns-then-is_empty c =
    elim c.then-is_empty.branch [ then-is_empty-via-then-is_empty w ↦ sym (id_empty _ (eqb-true _ 0 (sym w.if-is_empty.ensures))) | then-is_empty-via-else-is_empty+then-word-gt5 w ↦ sym (id_long _ w.if-word-gt5.true) ]

pub loop-byte-init : goal.loop-byte-init
loop-byte-init c = let some = eqb-false _ 0 (sym c.if-is_empty.ensures) in read_none _ (omega (arith, some)) (omega arith)

pub returns-then-not-is_ascii_digit : goal.returns-then-not-is_ascii_digit
unfolding is_digit between
returns-then-not-is_ascii_digit c =
    sym (read_other c.loop-byte.invariant c.loop-byte-test.true (sym c.if-not-is_ascii_digit.ensures.value))

pub loop-byte-preserved : goal.loop-byte-preserved
unfolding is_digit between
loop-byte-preserved c = read_on c.loop-byte.invariant c.loop-byte-test.true (sym c.if-not-is_ascii_digit.ensures.value)

pub returns : goal.returns
returns c = ap Some (c.unwrap_or.ensures ∙ id_of _ _ c.try_from.ensures) ∙ sym (read_all c.loop-byte.invariant c.loop-byte-test.false)
