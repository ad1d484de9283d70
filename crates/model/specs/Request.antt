-- The outline, "Carrying out one request": the checks 10 to 18 in their order, the operations, and a list of requests.
-- All of it is said once, for any form that a matrix may have: a `View` tells how such a form is asked and changed.
-- Assumes nothing.
use Rattle.std.specs.Prelude.{ℕ, suc, Bool, false, not, cond, ◌&&◌, List, [], ◌∷◌, eqb, leb, length}
use Rattle.std.proofs.Math.Option.{Option, none, some}
use Rattle.std.proofs.Math.ListN.{get_elem?}
use Rattle.rights.specs.Sets.{has}
use Rattle.rights.specs.Numberings.{parameter, same_type}
use Rattle.rights.specs.declared.Right.{Right}
use Rattle.rights.specs.declared.ThingType.{ThingType}
use Rattle.laws.specs.Check.{◌or_else◌, must, is_some}
use Rattle.model.specs.Scheme.{parameters_of, tests_of, operations_of, commands_of, type_at, id_at, is_new}
use Rattle.model.specs.declared.Test.{Test}
use Rattle.model.specs.declared.Code.{Code}
use Rattle.model.specs.declared.Code.TheVariants.{Enter, Delete, Create, Destroy}
use Rattle.model.specs.declared.Operation.{Operation}
use Rattle.model.specs.declared.Command.{Command}
use Rattle.model.specs.declared.Refusal.{Refusal}
use Rattle.model.specs.declared.Scheme.{Scheme}

-- a command number and a list of ids
pub record Request : Type 0 where
  pub command : ℕ
  pub ids : List ℕ

-- an id is a number from 1 to 65535
unfoldable pub is_id : ℕ → Bool
is_id x = leb 1 x && leb x 65535

-- a thing, as far as a request asks for it; and a thing of a type as it is created, not on hold, which is what a place asks for
pub record Thing : Type 0 where
  pub type : ThingType
  pub on_hold : Bool

abbrev pub of_type : ThingType → Thing
of_type t = record { type = t; on_hold = false }

-- what a request asks of a matrix, and what it may do to it; X and Y are ids
pub record View (M : Type 0) : Type 0 where
  -- the thing X, if X exists
  pub thing : M → ℕ → Option Thing
  -- the set of rights in [X, Y]
  pub cell : M → ℕ → ℕ → ℕ
  -- may X be created?
  pub may_create : M → ℕ → Bool
  -- 48 things exist
  pub full : M → Bool
  -- enter r in [X, Y]; delete r from [X, Y]; create X of a type; destroy X
  pub enter : Right → ℕ → ℕ → M → M
  pub delete : Right → ℕ → ℕ → M → M
  pub create : ℕ → ThingType → M → M
  pub destroy : ℕ → M → M

-- a refusal has a number, and the place, from 0, of the test (14) or of the operation (15 to 17) at fault; 0 with every other number
abbrev pub at : ℕ → ℕ → Refusal
at k p = record { number = k; place = p }

-- the matrix afterwards, or the refusal
pub data Outcome (M : Type 0) : Type 0 where
  done : M → Outcome M
  refused : Refusal → Outcome M

-- the answer: none for success, or the refusal
abbrev pub Answer : Type 0
Answer = Option Refusal

unfoldable pub answer : {M : Type 0} → Outcome M → Answer
answer (done m) = none
answer (refused r) = some r

-- the number in the answer, 0 for success
unfoldable pub number : Answer → ℕ
number none = 0
number (some r) = r.number

-- a refused request has no effect at all
unfoldable pub after : {M : Type 0} → M → Outcome M → M
after m (done next) = next
after m (refused r) = m

unfoldable pub unless_fault : {M : Type 0} → Option Refusal → Outcome M → Outcome M
unless_fault none o = o
unless_fault (some r) o = refused r

unfoldable pub and_then : {M : Type 0} → Outcome M → (M → Outcome M) → Outcome M
and_then (done m) f = f m
and_then (refused r) f = refused r

-- a parameter of type t that isn't new must name an existing thing (12) of that type (13) that isn't on hold (18)
unfoldable pub type_fault : ThingType → Option Thing → Option Refusal
type_fault t none = some (at 12 0)
type_fault t (some u) = must (same_type u.type t) (at 13 0) or_else must (not u.on_hold) (at 18 0)

module _ {M : Type 0} (view : View M) where
  -- one place: its id, 0 for none (12); new parameters are checked for no more
  unfoldable pub place_fault : M → Bool → ThingType → ℕ → Option Refusal
  place_fault m new t x = must (is_id x) (at 12 0) or_else cond new none (type_fault t (view.thing m x))

  -- for each place from the first
  unfoldable pub places_fault : M → List Operation → ℕ → List ThingType → List ℕ → Option Refusal
  places_fault m os p [] xs = none
  places_fault m os p (t ∷ ts) [] = none
  places_fault m os p (t ∷ ts) (x ∷ xs) = place_fault m (is_new os (parameter p)) t x or_else places_fault m os (suc p) ts xs

  -- a test, with the ids put in for the parameters
  unfoldable pub holds : M → List ℕ → Test → Bool
  holds m ids t =
      let there = has (view.cell m (id_at ids t.row) (id_at ids t.column)) t.right.0 in
      cond t.present there (not there)

  -- all tests from place p on; the first that doesn't hold is the fault
  unfoldable pub tests_fault : M → List ℕ → ℕ → List Test → Option Refusal
  tests_fault m ids p [] = none
  tests_fault m ids p (t ∷ ts) = must (holds m ids t) (at 14 p) or_else tests_fault m ids (suc p) ts

  -- one operation, at place p: X and Y are its row's and its column's ids, t its row's type
  unfoldable pub act : ℕ → Code → Right → ℕ → ℕ → ThingType → M → Outcome M
  act p Enter r x y t m = done (view.enter r x y m)
  act p Delete r x y t m = done (view.delete r x y m)
  act p Create r x y t m =
      unless_fault (must (view.may_create m x) (at 15 p) or_else must (not (view.full m)) (at 16 p)) (done (view.create x t m))
  act p Destroy r x y t m = unless_fault (must (is_some (view.thing m x)) (at 17 p)) (done (view.destroy x m))

  unfoldable pub operate : List ThingType → List ℕ → ℕ → Operation → M → Outcome M
  operate types ids p o m = act p o.code o.right (id_at ids o.row) (id_at ids o.column) (type_at types o.row) m

  unfoldable pub operate_all : List ThingType → List ℕ → ℕ → List Operation → M → Outcome M
  operate_all types ids p [] m = done m
  operate_all types ids p (o ∷ os) m = and_then (operate types ids p o m) (operate_all types ids (suc p) os)

  -- as many ids as parameters (11), each place (12, 13, 18), the tests on the matrix as it stands (14), then the operations in order (15 to 17)
  unfoldable pub carry_out : M → List ℕ → Command → Outcome M
  carry_out m ids c =
      unless_fault
      (must (eqb (length ids) (length (parameters_of c.parameters))) (at 11 0)
      or_else places_fault m (operations_of c.operations) 0 (parameters_of c.parameters) ids
      or_else tests_fault m ids 0 (tests_of c.tests))
      (operate_all (parameters_of c.parameters) ids 0 (operations_of c.operations) m)

  -- the command exists (10)
  unfoldable pub carry_out_if : M → List ℕ → Option Command → Outcome M
  carry_out_if m ids none = refused (at 10 0)
  carry_out_if m ids (some c) = carry_out m ids c

  unfoldable pub step : Scheme → M → Request → Outcome M
  step s m q = carry_out_if m q.ids (get_elem? (commands_of s) q.command)

  -- a list of requests: the matrix after the last, and the answers
  unfoldable pub run : Scheme → M → List Request → M
  run s m [] = m
  run s m (q ∷ qs) = run s (after m (step s m q)) qs

  unfoldable pub answers : Scheme → M → List Request → List Answer
  answers s m [] = []
  answers s m (q ∷ qs) = answer (step s m q) ∷ answers s (after m (step s m q)) qs
