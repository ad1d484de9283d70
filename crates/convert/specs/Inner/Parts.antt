-- What the private functions of `convert` promise of the parts of a command and of a matrix.
-- Assumes nothing.
use Rattle.std.specs.Prelude.{ℕ, ◌*◌, ◌≤◌, Bool, cond, List, [], ◌∷◌, T, eqb}
use Rattle.rights.specs.Sets.{converted}
use Rattle.laws.specs.Check.{padded}
use Rattle.model.specs.Scheme.{operations_of}
use Rattle.model.specs.Accepted.{zero_test, padded_command}
use Rattle.model.specs.declared.Tests.{Tests}
use Rattle.model.specs.declared.Code.{Code}
use Rattle.model.specs.declared.Code.TheVariants.{Enter, Delete, Create, Destroy}
use Rattle.model.specs.declared.Command.{Command}
use Rattle.model.specs.declared.Head.{Head}
use Rattle.conversion.specs.Conversion.{keeps_all}

-- the tests of a padded command
abbrev pub padded_tests : Tests → Bool
padded_tests t = padded zero_test 16 t.count t.list

-- a head with twice the rights
abbrev pub convert_head : Head → Head
convert_head h = record { rights = 2 * h.rights; types = h.types; subjects = h.subjects; count = h.count }

-- what is done to the partner; a create and a destroy have none
abbrev pub opposite_of : Code → Code
opposite_of Enter = Delete
opposite_of Delete = Enter
opposite_of Create = Create
opposite_of Destroy = Destroy

-- a command of an accepted scheme that converts
pub record Convertible (c : Command) : Type 0 where
  pub padding : T (padded_command c)
  pub parameters : c.parameters.count ≤ 8
  pub tests : c.tests.count ≤ 16
  pub operations : c.operations.count ≤ 16
  pub keeps : T (keeps_all (operations_of c.operations))

-- a subject's row: the cells of the columns that have a thing
unfoldable pub convert_row : ℕ → List ℕ → List ℕ → List ℕ
convert_row n [] cells = []
convert_row n (x ∷ ids) [] = []
convert_row n (x ∷ ids) (c ∷ cs) = cond (eqb x 0) c (converted n c) ∷ convert_row n ids cs
