-- Translation: when a second scheme does on a second matrix what a first scheme does on the first. Conversion is an instance.
--
-- Given is a relation of two sets: what a cell of the first matrix holds, and what the same cell of the second holds. A command becomes another one if
--   * their parameters are the same;
--   * its tests become the other's one by one: each becomes a test of the same cell, with the same verdict on related sets;
--   * its operations become the other's in order: an enter or a delete becomes any number of enters and deletes of its cell (none, one, several), which
--     together keep the relation; a create or a destroy becomes one, of the same parameter and at the same place, if empty sets are related.
-- Let the first scheme be accepted, let its commands become the second's one by one, and let the two matrices have the same things and related cells.
-- Then every list of requests is answered alike, the places of the refusals included, and after each request the matrices are so again.
-- Assumes nothing.
use Rattle.std.specs.Prelude.{ℕ, suc, ◌+◌, ◌≡◌, Bool, true, not, cond, ◌&&◌, T, length, take}
use mathlib.Core.List.{List, [], ◌∷◌, ◌++◌, Forall₂}
use Rattle.rights.specs.Sets.{has, enter_right, delete_right}
use Rattle.rights.specs.Numberings.{same_parameter}
use Rattle.rights.specs.declared.Right.{Right}
use Rattle.rights.specs.declared.Parameter.{Parameter}
use Rattle.laws.specs.Check.{all}
use Rattle.model.specs.Scheme.{parameters_of, tests_of, operations_of, commands_of, keeps_things}
use Rattle.model.specs.Request.{Request, run, answers}
use Rattle.model.specs.Papers.{State, cell_exists, papers}
use Rattle.model.specs.Accepted.{accepted_scheme}
use Rattle.model.specs.declared.Test.{Test}
use Rattle.model.specs.declared.Code.{Code}
use Rattle.model.specs.declared.Code.TheVariants.{Enter, Delete, Create, Destroy}
use Rattle.model.specs.declared.Operation.{Operation}
use Rattle.model.specs.declared.Command.{Command}
use Rattle.model.specs.declared.Head.{Head}
use Rattle.model.specs.declared.Scheme.{Scheme}

-- ---- on the one set that stands in the cell: a test's verdict, and what an enter or a delete, or several, make of it
unfoldable pub verdict : Test → ℕ → Bool
verdict t set = cond t.present (has set t.right.0) (not (has set t.right.0))

unfoldable pub changed_by : Code → Right → ℕ → ℕ
changed_by Enter r set = enter_right r.0 set
changed_by Delete r set = delete_right r.0 set
changed_by Create r set = set
changed_by Destroy r set = set

unfoldable pub changed_by_all : List Operation → ℕ → ℕ
changed_by_all [] set = set
changed_by_all (o ∷ os) set = changed_by_all os (changed_by o.code o.right set)

-- an enter or a delete of [row, column]
unfoldable pub changes_cell : Parameter → Parameter → Operation → Bool
changes_cell row column o = keeps_things o.code && same_parameter o.row row && same_parameter o.column column

-- ---- over a relation of two sets; its first argument tells whether their cell exists
module _ (Rel : Bool → ℕ → ℕ → Type 0) where
  -- the same things, and related sets everywhere
  pub record Related (h : Head) (first second : State) : Type 0 where
    pub same_things : second.things ≡ first.things
    pub cells : (x y : ℕ) → Rel (cell_exists h first x y) (first.rights x y) (second.rights x y)

  -- the same cell, and the same verdict on related sets
  pub record TestBecomes (t t' : Test) : Type 0 where
    pub row : t'.row ≡ t.row
    pub column : t'.column ≡ t.column
    pub same : (u v : ℕ) → Rel true u v → verdict t' v ≡ verdict t u

  -- an enter or a delete: all that it becomes is of its cell, and keeps the relation
  pub record ChangeBecomes (o : Operation) (os : List Operation) : Type 0 where
    pub is_change : T (keeps_things o.code)
    pub same_cell : T (all (changes_cell o.row o.column) os)
    pub keeps : (exists : Bool) (u v : ℕ) → Rel exists u v → Rel exists (changed_by o.code o.right u) (changed_by_all os v)

  -- a create or a destroy: it stays one, of the same parameter; the cells that it empties are related
  pub record ThingBecomes (o o' : Operation) : Type 0 where
    pub is_thing : T (not (keeps_things o.code))
    pub code : o'.code ≡ o.code
    pub row : o'.row ≡ o.row
    pub empty : (exists : Bool) → Rel exists 0 0

  -- i and j are the places of the first operation of either list; where it is a create or a destroy they are the same
  pub data OperationsBecome : ℕ → ℕ → List Operation → List Operation → Type 0 where
    end : {i j : ℕ} → OperationsBecome i j [] []
    change : {i j : ℕ} {o : Operation} {becomes os os' : List Operation} → ChangeBecomes o becomes → OperationsBecome (suc i) (j + length becomes) os os' →
        OperationsBecome i j (o ∷ os) (becomes ++ os')
    thing : {i : ℕ} {o o' : Operation} {os os' : List Operation} → ThingBecomes o o' → OperationsBecome (suc i) (suc i) os os' →
        OperationsBecome i i (o ∷ os) (o' ∷ os')

  pub record CommandBecomes (c c' : Command) : Type 0 where
    pub same_parameters : parameters_of c'.parameters ≡ parameters_of c.parameters
    pub tests : Forall₂ TestBecomes (tests_of c.tests) (tests_of c'.tests)
    pub operations : OperationsBecome 0 0 (operations_of c.operations) (operations_of c'.operations)

  abbrev pub Translates : Scheme → Scheme → Type 0
  Translates s s' = Forall₂ CommandBecomes (commands_of s) (commands_of s')

  -- ---- the promise: the same answers, places included, and after each request related matrices
  pub record Together (s s' : Scheme) (first second : State) (qs : List Request) : Type 0 where
    pub same_answers : answers papers s' second qs ≡ answers papers s first qs
    pub after_each : (k : ℕ) → Related s.head (run papers s first (take k qs)) (run papers s' second (take k qs))

  abbrev pub Translation : Type 0
  Translation = (s s' : Scheme) (first second : State) (qs : List Request) → T (accepted_scheme s) → Translates s s' → Related s.head first second →
      Together s s' first second qs
