-- The walk over the tests in use stops at the first that doesn't hold.
use mathlib.Core.Path.{refl, sym, ◌∙◌}
use native.Mathlib.Omega.{arith}
use lib.Seq.{get_or-take}
use borrow.Author.Rules.{rules}
use Rattle.laws.proofs.Walks.{long, start, on, out, end}
use Rattle.model.specs.Scheme.{no_test}
use Rattle.engine.specs.Inner.Cells.{first_false}
use Rattle.engine.proofs.CellLaws.{tests_on, tests_out}
use Rattle.engine.proofs.cells.test_all.Goals as goal

pub loop-place-init : goal.loop-place-init
loop-place-init c = start 16 (search (rules, long)) (omega arith) refl

pub returns-then-not-holds : goal.returns-then-not-holds
returns-then-not-holds c =
    let one = get_or-take c.args.t.count c.args.t.list c.loop-place.place no_test (omega arith) in
    out c.loop-place.invariant no_test _ (omega arith) (tests_out _ _ _ _ (rw one at (sym c.holds.ensures ∙ c.if-not-holds.true)))

pub loop-place-preserved : goal.loop-place-preserved
loop-place-preserved c =
    let one = get_or-take c.args.t.count c.args.t.list c.loop-place.place no_test (omega arith) in
    on c.loop-place.invariant no_test (omega arith) (tests_on _ _ _ _ (rw one at (sym c.holds.ensures ∙ c.if-not-holds.false)))

pub returns : goal.returns
unfolding first_false
returns c = end c.loop-place.invariant (omega arith)
