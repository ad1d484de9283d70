-- Reading a scheme's head and its commands: the outline, "Bytes" and "Refusal numbers", in field order.
-- Assumes nothing.
use Rattle.std.specs.Prelude.{ℕ, Bool, cond, List, [], ◌∷◌, eqb, leb, length}
use Rattle.rights.specs.Sets.{within}
use Rattle.rights.specs.Numberings.{right, type, parameter}
use Rattle.rights.specs.declared.ThingType.{ThingType}
use Rattle.rights.specs.declared.Parameter.{Parameter}
use Rattle.model.specs.Scheme.{is_subject, type_at, creatable, destroyable}
use Rattle.model.specs.Arrays.{command_of}
use Rattle.model.specs.Accepted.{group, last_group}
use Rattle.model.specs.declared.Test.{Test}
use Rattle.model.specs.declared.Code.{Code}
use Rattle.model.specs.declared.Code.TheVariants.{Enter, Delete, Create, Destroy}
use Rattle.model.specs.declared.Operation.{Operation}
use Rattle.model.specs.declared.Command.{Command}
use Rattle.model.specs.declared.Head.{Head}
pub use Rattle.command_bytes.specs.declared.fields.Named.{Named}
use Rattle.records.specs.Reading.{Reader, Body, ◌>>=◌, ◌>>◌, done, check, steps, field, number}
use Rattle.records.specs.Front.{Refusal, in_record}

-- ---- the head: n (1), m (1), subject types (2), commands (1)
unfoldable pub head : Body Head
head = do
  n ← field 1 65 4
  m ← field 1 17 4
  subjects ← number 2
  check (within m subjects) 6
  count ← field 1 33 4
  done (record { rights = n; types = m; subjects = record { 0 = subjects }; count = count })

-- ---- what a test names behind its sense, and an operation behind its code: `Named`
-- a test, an enter and a delete: a right, a row of a subject type, a column
unfoldable pub named : Head → List ThingType → Body Named
named h types = do
  r ← field 0 h.rights 5
  row ← field 0 (length types) 5
  check (is_subject h (type_at types (parameter row))) 6
  column ← field 0 (length types) 5
  done (record { right = right r; row = parameter row; column = parameter column })

-- create and destroy have right 0 and column 0, and their parameter, which must fit, as row
unfoldable pub thing : List ThingType → (Parameter → Bool) → Body Named
thing types fits = do
  r ← field 0 1 6
  row ← field 0 (length types) 5
  check (fits (parameter row)) 6
  column ← field 0 1 6
  done (record { right = right r; row = parameter row; column = parameter column })

-- ---- a test: sense (1 present, 0 absent), right, row, column
abbrev pub test_of : ℕ → Named → Test
test_of sense n = record { present = eqb sense 1; right = n.right; row = n.row; column = n.column }

unfoldable pub test : Head → List ThingType → Body Test
test h types = do
  sense ← field 0 2 6
  n ← named h types
  done (test_of sense n)

-- ---- an operation: code (1 enter, 2 delete, 3 create, 4 destroy), right, row, column
unfoldable pub code_of : ℕ → Code
code_of c = cond (eqb c 1) Enter (cond (eqb c 2) Delete (cond (eqb c 3) Create Destroy))

abbrev pub operation_of : Code → Named → Operation
operation_of code n = record { code = code; right = n.right; row = n.row; column = n.column }

-- a create of a parameter created or tested before, and a destroy named twice, are faults of form
abbrev pub by_code : Head → List ThingType → List Test → List Operation → Code → Body Named
by_code h types tests before Enter = named h types
by_code h types tests before Delete = named h types
by_code h types tests before Create = thing types (creatable tests before)
by_code h types tests before Destroy = thing types (destroyable before)

-- read behind those before it (the last of them first)
unfoldable pub operation : Head → List ThingType → List Test → List Operation → Body Operation
operation h types tests before = do
  code ← field 1 5 6
  check (leb (last_group before) (group (code_of code))) 6
  n ← by_code h types tests before (code_of code)
  done (operation_of (code_of code) n)

-- ---- a command: k (1), k types (1 each), tests (1), 4 bytes a test, operations (1), 4 bytes an operation
unfoldable pub type_in : Head → Body ThingType
type_in h = do
  t ← field 0 h.types 5
  done (type t)

abbrev pub types_in : Head → ℕ → Body (List ThingType)
types_in h k = steps (λ (u : Unit {0}). type_in h) (λ u t. u) k tt

abbrev pub tests_in : Head → List ThingType → ℕ → Body (List Test)
tests_in h types k = steps (λ (u : Unit {0}). test h types) (λ u t. u) k tt

abbrev pub operations_in : Head → List ThingType → List Test → ℕ → Body (List Operation)
operations_in h types tests k = steps (operation h types tests) (λ before o. o ∷ before) k []

-- the tests and operations behind the parameters
unfoldable pub command_from : Head → List ThingType → Body Command
command_from h types = do
  t ← field 0 17 4
  tests ← tests_in h types t
  o ← field 1 33 4
  operations ← operations_in h types tests o
  done (command_of types tests operations)

unfoldable pub command : Head → Body Command
command h = do
  k ← field 1 9 4
  types ← types_in h k
  command_from h types

-- ---- their records: kind 1 is bit 1, kind 2 bit 2 of the kinds that may stand there
abbrev pub head_at : List ℕ → Reader ℕ Refusal Head
head_at s = in_record s 2 (λ kind. head)

abbrev pub command_at : List ℕ → Head → Reader ℕ Refusal Command
command_at s h = in_record s 4 (λ kind. command h)
