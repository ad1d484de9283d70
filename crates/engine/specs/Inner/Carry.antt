-- A command in the order of the code: the parameters' seats, the tests, a plan of the creates and destroys on a copy of the things, which meets every
-- fault, and only then the cells. That this is the model's step is proved.
-- Assumes nothing.
use Rattle.std.specs.Prelude.{ℕ, ◌≤◌, ◌≡◌, List, eqb, length, Result, Ok, Err}
use Rattle.std.proofs.Math.Option.{none, some}
use Rattle.laws.specs.Check.{◌or_else◌, must}
use Rattle.model.specs.Scheme.{parameters_of, tests_of, operations_of}
use Rattle.model.specs.Request.{Request, Outcome, done, refused, at, Answer, answer, after, unless_fault, places_fault, step}
use Rattle.model.specs.Answers.{verdict_of}
use Rattle.model.specs.Seats.{Matrix, matrix_of, seats}
use Rattle.model.specs.declared.Operation.{Operation}
use Rattle.model.specs.declared.Command.{Command}
use Rattle.model.specs.declared.Scheme.{Scheme}
use Rattle.model.specs.declared.Refusal.{Refusal}
use Rattle.plan.specs.Locate.{bare, spots_of}
use Rattle.plan.specs.Plan.{plan_of, plan_all}
use Rattle.plan.specs.declared.plan.Plan.{Plan}
use Rattle.engine.specs.Answers.{Stepped}
use Rattle.engine.specs.Step.{answered}
use Rattle.engine.specs.Inner.Cells.{first_false, cells_after}

-- the answer that a function's result stands for
abbrev pub answer_of : Result (Unit {0}) Refusal → Answer
answer_of (Ok u) = none
answer_of (Err r) = some r

-- what a command that is carried out gives, and the matrix afterwards
abbrev pub Carried : Type 0
Carried = Result (Unit {0}) Refusal × Matrix

abbrev pub carried : Matrix → Outcome Matrix → Carried
carried m o = (verdict_of (answer o), after m o)

-- what the lists of a command and the cells are as long as
pub record Counted (c : Command) (cells : List ℕ) : Type 0 where
  pub tests : c.tests.count ≤ 16
  pub operations : c.operations.count ≤ 32
  pub room : length cells ≡ 2304

-- the cells go by the spots of the finished plan
unfoldable pub carried_by : List ℕ → List Operation → Outcome Plan → Outcome Matrix
carried_by cells os (done plan) = done (matrix_of plan.things (cells_after plan.spots os cells))
carried_by cells os (refused r) = refused r

unfoldable pub planned : Matrix → List ℕ → Command → Outcome Matrix
planned m ids c =
    let types = parameters_of c.parameters in
    let os = operations_of c.operations in
    let spots = spots_of m.things os types ids in
    unless_fault
    (must (eqb (length ids) c.parameters.count) (at 11 0)
    or_else places_fault seats (bare m.things) os 0 types ids
    or_else first_false m.cells spots 0 (tests_of c.tests))
    (carried_by m.cells os (plan_all types ids 0 os (plan_of m.things spots)))

-- a request of an accepted scheme and matrix
abbrev pub step_on : Scheme → Matrix → ℕ → List ℕ → Stepped × List ℕ
step_on s m command ids =
    let q : Request = record { command = command; ids = ids } in
    answered s m q (step seats s m q)
