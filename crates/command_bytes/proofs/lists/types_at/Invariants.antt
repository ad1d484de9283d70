-- `lists::types_at` meets its contract: after j turns j types are read, and stand at the array's start.
-- Assumes nothing.
use Rattle.model.specs.Scheme.{no_type}
use Rattle.command_bytes.specs.Read.{type_in}
use Rattle.command_bytes.proofs.Fixed.{fixed_type}
use Rattle.command_bytes.proofs.ListLaws.{Filled}
use Rattle.command_bytes.proofs.lists.types_at.Given as goal

abbrev pub invariant-loop-j : goal.invariant-loop-j
invariant-loop-j l = Filled (λ (u : Unit {0}). type_in l.h) (λ u t. u) 1 (λ u. fixed_type l.h) no_type 8 l.k tt l.b l.i l.j tt l.types
