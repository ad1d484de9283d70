-- The bytes of a scheme's head and of a command.
-- Assumes nothing.
use Rattle.std.specs.Prelude.{ℕ, cond, List, [], ◌∷◌, ◌++◌}
use Rattle.rights.specs.Numberings.{right_byte, type_byte, parameter_byte}
use Rattle.rights.specs.declared.ThingType.{ThingType}
use Rattle.model.specs.Scheme.{parameters_of, tests_of, operations_of}
use Rattle.model.specs.declared.Test.{Test}
use Rattle.model.specs.declared.Code.{Code}
use Rattle.model.specs.declared.Code.TheVariants.{Enter, Delete, Create, Destroy}
use Rattle.model.specs.declared.Operation.{Operation}
use Rattle.model.specs.declared.Command.{Command}
use Rattle.model.specs.declared.Head.{Head}
use Rattle.records.specs.Bytes.{little_endian, each_bytes}

unfoldable pub head_bytes : Head → List ℕ
head_bytes h = h.rights ∷ h.types ∷ little_endian 2 h.subjects.0 ++ h.count ∷ []

unfoldable pub type_bytes : ThingType → List ℕ
type_bytes t = type_byte t ∷ []

unfoldable pub test_bytes : Test → List ℕ
test_bytes t = cond t.present 1 0 ∷ right_byte t.right ∷ parameter_byte t.row ∷ parameter_byte t.column ∷ []

abbrev pub code_number : Code → ℕ
code_number Enter = 1
code_number Delete = 2
code_number Create = 3
code_number Destroy = 4

unfoldable pub operation_bytes : Operation → List ℕ
operation_bytes o = code_number o.code ∷ right_byte o.right ∷ parameter_byte o.row ∷ parameter_byte o.column ∷ []

unfoldable pub command_bytes : Command → List ℕ
command_bytes c =
    c.parameters.count ∷ each_bytes type_bytes (parameters_of c.parameters)
    ++ c.tests.count ∷ each_bytes test_bytes (tests_of c.tests)
    ++ c.operations.count ∷ each_bytes operation_bytes (operations_of c.operations)
