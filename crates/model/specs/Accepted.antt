-- What is accepted: a scheme whose fields pass the outline's checks (count 4, range 5, form 6), taken in field order, with zeros in all that is
-- unused; and a matrix of it. Nothing else may be handed to an entry point (27). Assumes nothing.
use Rattle.std.specs.Prelude.{ℕ, zero, suc, ◌^◌, ◌/◌, ◌%◌, Bool, true, false, not, cond, ◌&&◌, ◌||◌, List, [], ◌∷◌, eqb, leb, ltb, length, get_or}
use Rattle.std.proofs.Math.Option.{none}
use Rattle.rights.specs.Sets.{within}
use Rattle.rights.specs.Numberings.{right_below, type_below, parameter_below, zero_right, zero_type, zero_parameter}
use Rattle.rights.specs.declared.ThingType.{ThingType}
use Rattle.rights.specs.declared.Parameter.{Parameter}
use Rattle.laws.specs.Check.{Fault, ◌or_else◌, must, passes, all, between, first_fault, padded}
use Rattle.model.specs.Scheme.{no_type, parameters_of, tests_of, operations_of, commands_of, is_subject, type_at, creatable, destroyable}
use Rattle.model.specs.Request.{Thing}
use Rattle.model.specs.Seats.{Matrix, among, thing_in}
use Rattle.model.specs.declared.Test.{Test}
use Rattle.model.specs.declared.Code.{Code}
use Rattle.model.specs.declared.Code.TheVariants.{Enter, Delete, Create, Destroy}
use Rattle.model.specs.declared.Operation.{Operation}
use Rattle.model.specs.declared.Command.{Command}
use Rattle.model.specs.declared.Head.{Head}
use Rattle.model.specs.declared.Scheme.{Scheme}
use Rattle.model.specs.declared.Things.{Things}

-- ---- a scheme's head: n (4), m (4), the subject types (6), the number of commands (4)
unfoldable pub head_fault : Head → Fault
head_fault h =
    must (between 1 64 h.rights) 4
    or_else must (between 1 16 h.types) 4
    or_else must (within h.types h.subjects.0) 6
    or_else must (between 1 32 h.count) 4

abbrev pub accepted_head : Head → Bool
accepted_head h = passes (head_fault h)

-- ---- a command: its parameters' number (4) and types (5), its tests, its operations
unfoldable pub type_range : Head → ThingType → Fault
type_range h t = must (type_below t h.types) 5

-- a row is one of the parameters (5), and has a subject type (6)
unfoldable pub row_fault : Head → List ThingType → Parameter → Fault
row_fault h types row = must (parameter_below row (length types)) 5 or_else must (is_subject h (type_at types row)) 6

unfoldable pub test_fault : Head → List ThingType → Test → Fault
test_fault h types t =
    must (right_below t.right h.rights) 5
    or_else row_fault h types t.row
    or_else must (parameter_below t.column (length types)) 5

-- the three groups: creates come first, then enters and deletes, then destroys
abbrev pub group : Code → ℕ
group Create = 0
group Enter = 1
group Delete = 1
group Destroy = 2

-- the group of the operation before, the last of which stands first
abbrev pub last_group : List Operation → ℕ
last_group [] = 0
last_group (o ∷ before) = group o.code

-- enter and delete: a right of the scheme, a row of a subject type, a column
unfoldable pub change_fault : Head → List ThingType → Operation → Fault
change_fault h types o =
    must (right_below o.right h.rights) 5
    or_else row_fault h types o.row
    or_else must (parameter_below o.column (length types)) 5

-- create and destroy: right 0, a parameter (5) that passes, column 0
unfoldable pub thing_fault : List ThingType → Bool → Operation → Fault
thing_fault types fits o =
    must (zero_right o.right) 6
    or_else must (parameter_below o.row (length types)) 5
    or_else must fits 6
    or_else must (zero_parameter o.column) 6

-- a parameter created may not be tested, nor created before; one destroyed may not be destroyed before
unfoldable pub code_fault : Head → List ThingType → List Test → List Operation → Operation → Code → Fault
code_fault h types tests before o Enter = change_fault h types o
code_fault h types tests before o Delete = change_fault h types o
code_fault h types tests before o Create = thing_fault types (creatable tests before o.row) o
code_fault h types tests before o Destroy = thing_fault types (destroyable before o.row) o

unfoldable pub operation_fault : Head → List ThingType → List Test → List Operation → Operation → Fault
operation_fault h types tests before o =
    must (leb (last_group before) (group o.code)) 6 or_else code_fault h types tests before o o.code

unfoldable pub operations_fault : Head → List ThingType → List Test → List Operation → List Operation → Fault
operations_fault h types tests before [] = none
operations_fault h types tests before (o ∷ os) =
    operation_fault h types tests before o or_else operations_fault h types tests (o ∷ before) os

unfoldable pub command_fault : Head → Command → Fault
command_fault h c =
    must (between 1 8 c.parameters.count) 4
    or_else first_fault (type_range h) (parameters_of c.parameters)
    or_else must (leb c.tests.count 16) 4
    or_else first_fault (test_fault h (parameters_of c.parameters)) (tests_of c.tests)
    or_else must (between 1 32 c.operations.count) 4
    or_else operations_fault h (parameters_of c.parameters) (tests_of c.tests) [] (operations_of c.operations)

-- ---- the arrays: as long as they are declared, with zeros behind the used places
unfoldable pub zero_test : Test → Bool
zero_test t = not t.present && zero_right t.right && zero_parameter t.row && zero_parameter t.column

abbrev pub is_enter : Code → Bool
is_enter Enter = true
is_enter Delete = false
is_enter Create = false
is_enter Destroy = false

unfoldable pub zero_operation : Operation → Bool
zero_operation o = is_enter o.code && zero_right o.right && zero_parameter o.row && zero_parameter o.column

unfoldable pub padded_command : Command → Bool
padded_command c =
    padded zero_type 8 c.parameters.count c.parameters.types
    && padded zero_test 16 c.tests.count c.tests.list
    && padded zero_operation 32 c.operations.count c.operations.list

unfoldable pub zero_command : Command → Bool
zero_command c =
    eqb c.parameters.count 0 && eqb c.tests.count 0 && eqb c.operations.count 0 && padded_command c

-- ---- a scheme
unfoldable pub accepted_command : Head → Command → Bool
accepted_command h c = passes (command_fault h c) && padded_command c

unfoldable pub accepted_scheme : Scheme → Bool
accepted_scheme s =
    accepted_head s.head && all (accepted_command s.head) (commands_of s) && padded zero_command 32 s.head.count s.commands

-- ---- a matrix of a scheme

-- no two things have one id; 0 is no thing's
unfoldable pub apart : List ℕ → Bool
apart [] = true
apart (x ∷ xs) = (eqb x 0 || not (among xs x)) && apart xs

-- what sits at a free seat is at zero
unfoldable pub zero_thing : Thing → Bool
zero_thing t = zero_type t.type && not t.on_hold

-- an id from 1 to the highest that there ever was, with a type of the scheme; or a free seat
unfoldable pub accepted_seat : Head → Things → ℕ → Thing → Bool
accepted_seat h th x t = cond (eqb x 0) (zero_thing t) (leb x th.highest && type_below t.type h.types)

-- every number from i on passes, k of them
unfoldable pub all_from : (ℕ → Bool) → ℕ → ℕ → Bool
all_from f i zero = true
all_from f i (suc k) = f i && all_from f (suc i) k

unfoldable pub accepted_things : Head → Things → Bool
accepted_things h th =
    eqb (length th.ids) 48
    && eqb (length th.types) 48
    && eqb (length th.marks) 48
    && leb th.highest 65535
    && apart th.ids
    && all_from (λ i. accepted_seat h th (get_or th.ids i 0) (thing_in th i)) 0 48

-- is there a cell at row seat i and column seat j?
unfoldable pub standing : Head → Things → ℕ → ℕ → Bool
standing h th i j =
    not (eqb (get_or th.ids i 0) 0) && not (eqb (get_or th.ids j 0) 0) && is_subject h (get_or th.types i no_type)

-- a cell holds no right n or above, and a place without a cell is 0; k is the place of the first of the list
unfoldable pub accepted_places : Head → Things → ℕ → List ℕ → Bool
accepted_places h th k [] = true
accepted_places h th k (c ∷ cs) =
    cond (standing h th (k / 48) (k % 48)) (ltb c (2 ^ h.rights)) (eqb c 0) && accepted_places h th (suc k) cs

unfoldable pub accepted_matrix : Head → Matrix → Bool
accepted_matrix h m =
    accepted_things h m.things && eqb (length m.cells) 2304 && accepted_places h m.things 0 m.cells
