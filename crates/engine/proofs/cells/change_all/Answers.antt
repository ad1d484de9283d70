-- The walk over the operations in use: what is left of them, on the cells so far, gives what all of them give on the first.
use mathlib.Core.Path.{refl, ◌∙◌}
use native.Mathlib.Omega.{arith}
use lib.Seq.{get_or-take}
use borrow.Author.Rules.{rules}
use Rattle.laws.proofs.Walks.{long, start, on, end}
use Rattle.model.specs.Scheme.{no_operation}
use Rattle.engine.specs.Inner.Cells.{cells_after}
use Rattle.engine.proofs.CellLaws.{after_on}
use Rattle.engine.proofs.cells.change_all.Goals as goal

pub loop-one-init : goal.loop-one-init
loop-one-init c = (search rules, start 32 (search (rules, long)) (omega arith) refl)

pub loop-one-preserved : goal.loop-one-preserved
loop-one-preserved c =
    let k = c.change_one in
    let one = get_or-take c.args.o.count c.args.o.list c.loop-one.one-index no_operation (omega arith) in
    (k.auto.cells ∙ c.loop-one.invariant.0, on c.loop-one.invariant.1 no_operation (omega arith) (after_on _ _ _ _ (rw one at k.ensures)))

pub returns : goal.returns
unfolding cells_after
returns c = end c.loop-one.invariant.1 (omega arith)
