-- What is left decides the first fault.
use Rattle.std.proofs.Common.{refl, arith}
use Rattle.laws.specs.Check.{first_fault}
use Rattle.faults.specs.Numbers.{fault_of}
use Rattle.model.specs.Scheme.{parameters_of, tests_of, no_test}
use Rattle.model.specs.Accepted.{test_fault}
use Rattle.accepted.proofs.SchemeLaws.{checks, on, out, end}
use Rattle.accepted.proofs.command.tests_fault.Goals as goal

pub returns-in_err-cell_fault : goal.returns-in_err-cell_fault
unfolding test_fault first_fault fault_of
returns-in_err-cell_fault c =
    let f = test_fault c.args.h (parameters_of c.args.p) in
    let e = out (first_fault f) (tests_of c.args.t) c.loop-one.one-index _ c.loop-one.invariant (first_fault f) _ _ c.cell_fault.ensures no_test (omega arith) (λ ys. refl) _ c.in_err-cell_fault.was in
    grind (arith, checks)

pub loop-one-preserved : goal.loop-one-preserved
unfolding test_fault first_fault
loop-one-preserved c =
    let f = test_fault c.args.h (parameters_of c.args.p) in
    on (first_fault f) (tests_of c.args.t) c.loop-one.one-index _ c.loop-one.invariant (first_fault f) _ _ c.cell_fault.ensures no_test (omega arith) (λ ys. refl) c.in_ok-cell_fault.was

pub returns : goal.returns
unfolding first_fault fault_of
returns c =
    let f = test_fault c.args.h (parameters_of c.args.p) in
    let e = end (first_fault f) (tests_of c.args.t) c.loop-one.one-index _ c.loop-one.invariant (omega arith) refl in
    grind (arith, checks)
