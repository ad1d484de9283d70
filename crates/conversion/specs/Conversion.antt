-- The outline, "Conversion": a scheme that tests no absence, and the matrix that goes with it. For right r the partner is r + n.
-- Assumes nothing.
use Rattle.std.specs.Prelude.{ℕ, suc, ◌*◌, ◌/◌, ◌%◌, Bool, true, cond, List, [], ◌∷◌, ◌++◌, map, leb}
use Rattle.rights.specs.Sets.{converted}
use Rattle.laws.specs.Check.{Fault, ◌or_else◌, must, passes, all}
use Rattle.model.specs.Scheme.{parameters_of, tests_of, operations_of, commands_of, keeps_things}
use Rattle.model.specs.Papers.{State, cell_exists}
use Rattle.model.specs.Seats.{Matrix}
use Rattle.model.specs.Arrays.{command_of, scheme_from}
use Rattle.model.specs.Accepted.{standing}
use Rattle.model.specs.declared.Test.{Test}
use Rattle.model.specs.declared.Code.{Code}
use Rattle.model.specs.declared.Code.TheVariants.{Enter, Delete, Create, Destroy}
use Rattle.model.specs.declared.Operation.{Operation}
use Rattle.model.specs.declared.Command.{Command}
use Rattle.model.specs.declared.Head.{Head}
use Rattle.model.specs.declared.Scheme.{Scheme}
use Rattle.model.specs.declared.Things.{Things}
use Rattle.rights.specs.Numberings.{partner_of}

-- ---- which schemes convert: none that creates or destroys (20), n at most 32 (21), at most 16 operations a command (22), each over all of it
abbrev pub keeps_all : List Operation → Bool
keeps_all os = all (λ o. keeps_things o.code) os

unfoldable pub conversion_fault : Scheme → Fault
conversion_fault s =
    must (all (λ c. keeps_all (operations_of c.operations)) (commands_of s)) 20
    or_else must (leb s.head.rights 32) 21
    or_else must (all (λ c. leb c.operations.count 16) (commands_of s)) 22

unfoldable pub convertible : Scheme → Bool
convertible s = passes (conversion_fault s)

-- ---- a scheme

-- "r absent" becomes "partner present"; "r present" stays
unfoldable pub convert_test : ℕ → Test → Test
convert_test n t = cond t.present t (record { present = true; right = partner_of n t.right; row = t.row; column = t.column })

-- the same cell's partner, entered or deleted
unfoldable pub on_partner : ℕ → Code → Operation → Operation
on_partner n code o = record { code = code; right = partner_of n o.right; row = o.row; column = o.column }

-- "enter r" becomes enter r, delete partner; "delete r" becomes delete r, enter partner
abbrev pub convert_as : ℕ → Operation → Code → List Operation
convert_as n o Enter = o ∷ on_partner n Delete o ∷ []
convert_as n o Delete = o ∷ on_partner n Enter o ∷ []
convert_as n o Create = o ∷ []
convert_as n o Destroy = o ∷ []

unfoldable pub convert_operations : ℕ → List Operation → List Operation
convert_operations n [] = []
convert_operations n (o ∷ os) = convert_as n o o.code ++ convert_operations n os

-- tests and operations keep their order
unfoldable pub convert_command : ℕ → Command → Command
convert_command n c = command_of (parameters_of c.parameters) (map (convert_test n) (tests_of c.tests)) (convert_operations n (operations_of c.operations))

-- 2 × n rights, the same types, the commands in the same order
unfoldable pub convert_scheme : Scheme → Scheme
convert_scheme s =
    scheme_from (2 * s.head.rights) s.head.types s.head.subjects.0 (map (convert_command s.head.rights) (commands_of s))

-- a scheme without absence tests, which is all that the robots' controllers can do
unfoldable pub tests_presence : Scheme → Bool
tests_presence s = all (λ c. all (λ t. t.present) (tests_of c.tests)) (commands_of s)

-- ---- a matrix: it keeps its things; every existing cell, empty ones too, gains the partner of each right it lacks

-- on paper
unfoldable pub convert_state : Head → State → State
convert_state h m = record {
  things = m.things;
  rights = λ x y. cond (cell_exists h m x y) (converted h.rights (m.rights x y)) (m.rights x y);
}

-- in memory; k is the place of the first cell of the list
unfoldable pub convert_cells : Head → Things → ℕ → List ℕ → List ℕ
convert_cells h th k [] = []
convert_cells h th k (c ∷ cs) = cond (standing h th (k / 48) (k % 48)) (converted h.rights c) c ∷ convert_cells h th (suc k) cs

unfoldable pub convert_matrix : Head → Matrix → Matrix
convert_matrix h m = record { things = m.things; cells = convert_cells h m.things 0 m.cells }
