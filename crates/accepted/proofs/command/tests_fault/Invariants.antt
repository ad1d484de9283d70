-- What is left decides the first fault.
use Rattle.std.proofs.Common.{◌≡◌, drop}
use Rattle.laws.specs.Check.{first_fault}
use Rattle.model.specs.Scheme.{parameters_of, tests_of}
use Rattle.model.specs.Accepted.{test_fault}
use Rattle.accepted.proofs.command.tests_fault.Given as goal

abbrev pub invariant-loop-one : goal.invariant-loop-one
invariant-loop-one l =
    let fault = test_fault l.h (parameters_of l.p) in
    first_fault fault (drop l.one-index l.one-items) ≡ first_fault fault (tests_of l.fn.t)
