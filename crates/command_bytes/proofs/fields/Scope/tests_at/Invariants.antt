-- `fields::Scope::tests_at` meets its contract: after j turns j tests are read, and stand at the array's start.
-- Assumes nothing.
use Rattle.model.specs.Scheme.{no_test, parameters_of}
use Rattle.command_bytes.specs.Read.{test}
use Rattle.command_bytes.proofs.Fixed.{fixed_test}
use Rattle.command_bytes.proofs.ListLaws.{Filled}
use Rattle.command_bytes.proofs.fields.Scope.tests_at.Given as goal

abbrev pub invariant-loop-j : goal.invariant-loop-j
invariant-loop-j l =
    let types = parameters_of l.self.parameters in
    Filled (λ (u : Unit {0}). test l.self.head types) (λ u t. u) 4 (λ u. fixed_test l.self.head types) no_test 16 l.k tt l.b l.i l.j tt l.list
