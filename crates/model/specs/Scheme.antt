-- The outline, "The model": a scheme, its commands, and what they say of their parameters.
-- Assumes nothing.
use Rattle.std.specs.Prelude.{ℕ, Bool, true, false, not, ◌&&◌, ◌||◌, List, take, get_or}
use Rattle.rights.specs.Sets.{has}
use Rattle.rights.specs.Numberings.{right, type, parameter, same_parameter}
use Rattle.rights.specs.declared.ThingType.{ThingType}
use Rattle.rights.specs.declared.Parameter.{Parameter}
use Rattle.laws.specs.Check.{any}
use Rattle.model.specs.declared.Parameters.{Parameters}
use Rattle.model.specs.declared.Test.{Test}
use Rattle.model.specs.declared.Tests.{Tests}
use Rattle.model.specs.declared.Code.{Code}
use Rattle.model.specs.declared.Code.TheVariants.{Enter, Delete, Create, Destroy}
use Rattle.model.specs.declared.Operation.{Operation}
use Rattle.model.specs.declared.Operations.{Operations}
use Rattle.model.specs.declared.Command.{Command}
use Rattle.model.specs.declared.Head.{Head}
use Rattle.model.specs.declared.Scheme.{Scheme}

-- the used part of each list
abbrev pub parameters_of : Parameters → List ThingType
parameters_of p = take p.count p.types

abbrev pub tests_of : Tests → List Test
tests_of t = take t.count t.list

abbrev pub operations_of : Operations → List Operation
operations_of o = take o.count o.list

abbrev pub commands_of : Scheme → List Command
commands_of s = take s.head.count s.commands

-- what stands in the places behind it
abbrev pub no_type : ThingType
no_type = type 0

abbrev pub no_test : Test
no_test = record { present = false; right = right 0; row = parameter 0; column = parameter 0 }

abbrev pub no_operation : Operation
no_operation = record { code = Enter; right = right 0; row = parameter 0; column = parameter 0 }

-- a thing is a subject exactly if its type is a subject type
unfoldable pub is_subject : Head → ThingType → Bool
is_subject h t = has h.subjects.0 t.0

-- the type of a parameter, and the id given for it
unfoldable pub type_at : List ThingType → Parameter → ThingType
type_at types p = get_or types p.0 no_type

unfoldable pub id_at : List ℕ → Parameter → ℕ
id_at ids p = get_or ids p.0 0

abbrev pub is_create : Code → Bool
is_create Enter = false
is_create Delete = false
is_create Create = true
is_create Destroy = false

abbrev pub is_destroy : Code → Bool
is_destroy Enter = false
is_destroy Delete = false
is_destroy Create = false
is_destroy Destroy = true

-- enter and delete leave the things as they are; create and destroy don't
abbrev pub keeps_things : Code → Bool
keeps_things Enter = true
keeps_things Delete = true
keeps_things Create = false
keeps_things Destroy = false

-- does the operation create, or destroy, the parameter? does the test name it?
unfoldable pub creates : Parameter → Operation → Bool
creates p o = is_create o.code && same_parameter o.row p

unfoldable pub destroys : Parameter → Operation → Bool
destroys p o = is_destroy o.code && same_parameter o.row p

unfoldable pub names : Parameter → Test → Bool
names p t = same_parameter t.row p || same_parameter t.column p

-- a parameter is new exactly if a create names it
unfoldable pub is_new : List Operation → Parameter → Bool
is_new os p = any (creates p) os

-- a create of a parameter may stand behind these tests and operations if none of them names it or creates it; a destroy, if none of them destroys it
unfoldable pub creatable : List Test → List Operation → Parameter → Bool
creatable tests before p = not (any (names p) tests) && not (any (creates p) before)

unfoldable pub destroyable : List Operation → Parameter → Bool
destroyable before p = not (any (destroys p) before)
