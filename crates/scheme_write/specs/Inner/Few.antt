-- How many bytes a type, a test and an operation of a command take. The laws stand here and not in proofs/, since the impls of `Stored` name them, and of its
-- own crate code may name only what stands in specs/.
-- Assumes nothing.
use Rattle.std.specs.Prelude.{◌≤◌, length}
use Rattle.std.proofs.Common.{arith}
use Rattle.rights.specs.declared.ThingType.{ThingType}
use Rattle.model.specs.declared.Test.{Test}
use Rattle.model.specs.declared.Operation.{Operation}
use Rattle.command_bytes.specs.Write.{type_bytes, test_bytes, operation_bytes}

pub few_in_type : (t : ThingType) → length (type_bytes t) ≤ 4
unfolding type_bytes
few_in_type t = omega arith

pub few_in_test : (t : Test) → length (test_bytes t) ≤ 4
unfolding test_bytes
few_in_test t = omega arith

pub few_in_operation : (o : Operation) → length (operation_bytes o) ≤ 4
unfolding operation_bytes
few_in_operation o = omega arith
