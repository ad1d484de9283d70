-- What is left decides the first fault; those passed are the ones before.
use Rattle.std.proofs.Common.{◌≡◌, [], drop}
use Rattle.model.specs.Scheme.{parameters_of, tests_of, operations_of}
use Rattle.model.specs.Accepted.{operations_fault}
use Rattle.accepted.specs.Answers.{before}
use Rattle.accepted.proofs.command.operations_fault.Given as goal

abbrev pub invariant-loop-i : goal.invariant-loop-i
invariant-loop-i l =
    let fault = operations_fault l.h (parameters_of l.c.parameters) (tests_of l.c.tests) in
    fault (before l.c.operations l.i) (drop l.i l.one-items) ≡ fault [] (operations_of l.c.operations)
