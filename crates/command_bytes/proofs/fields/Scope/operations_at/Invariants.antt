-- `fields::Scope::operations_at` meets its contract: after j turns j operations are read, and stand at the array's start; those before the next are the
-- state that the reader carries.
-- Assumes nothing.
use mathlib.Core.List.{[], ◌∷◌, reverse}
use lib.ListN.{take}
use Rattle.model.specs.Scheme.{no_operation, parameters_of, tests_of}
use Rattle.command_bytes.specs.Read.{operation}
use Rattle.command_bytes.proofs.Fixed.{fixed_operation}
use Rattle.command_bytes.proofs.ListLaws.{Filled}
use Rattle.command_bytes.proofs.fields.Scope.operations_at.Given as goal

abbrev pub invariant-loop-j : goal.invariant-loop-j
invariant-loop-j l =
    let types = parameters_of l.self.parameters in
    Filled (operation l.self.head types (tests_of l.t)) (λ before o. o ∷ before) 4 (fixed_operation l.self.head types (tests_of l.t)) no_operation 32 l.k [] l.b
    l.i l.j (reverse (take l.j l.list)) l.list
