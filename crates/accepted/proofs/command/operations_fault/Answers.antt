-- What is left decides the first fault; those passed are the ones before.
use Rattle.std.proofs.Common.{◌+◌, refl, arith}
use Rattle.faults.specs.Numbers.{fault_of}
use Rattle.model.specs.Scheme.{parameters_of, tests_of, operations_of, no_operation}
use Rattle.model.specs.Accepted.{operations_fault}
use Rattle.accepted.specs.Answers.{before}
use Rattle.accepted.proofs.FormLaws.{next_before}
use Rattle.accepted.proofs.SchemeLaws.{checks, on, out, end}
use Rattle.accepted.proofs.command.operations_fault.Goals as goal

pub returns-in_err-operation_fault : goal.returns-in_err-operation_fault
unfolding operations_fault fault_of
returns-in_err-operation_fault c =
    let a = c.args.c in
    let f = operations_fault c.args.h (parameters_of a.parameters) (tests_of a.tests) in
    let i = c.loop-i.i in
    let next = next_before a.operations a.operations.count i no_operation (omega arith) in
    let e = out (f (before a.operations i)) (operations_of a.operations) i _ c.loop-i.invariant (f (before a.operations (i + 1))) _ _ c.operation_fault.ensures no_operation (omega arith) (λ ys. rw next) _ c.in_err-operation_fault.was in
    grind (arith, checks)

pub loop-i-preserved : goal.loop-i-preserved
unfolding operations_fault
loop-i-preserved c =
    let a = c.args.c in
    let f = operations_fault c.args.h (parameters_of a.parameters) (tests_of a.tests) in
    let i = c.loop-i.i in
    let next = next_before a.operations a.operations.count i no_operation (omega arith) in
    on (f (before a.operations i)) (operations_of a.operations) i _ c.loop-i.invariant (f (before a.operations (i + 1))) _ _ c.operation_fault.ensures no_operation (omega arith) (λ ys. rw next) c.in_ok-operation_fault.was

pub returns : goal.returns
unfolding operations_fault fault_of
returns c =
    let a = c.args.c in
    let f = operations_fault c.args.h (parameters_of a.parameters) (tests_of a.tests) in
    let e = end (f (before a.operations c.loop-i.i)) (operations_of a.operations) c.loop-i.i _ c.loop-i.invariant (omega arith) refl in
    grind (arith, checks)
