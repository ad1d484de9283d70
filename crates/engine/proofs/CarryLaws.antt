-- What a command answers at each way out of the code, over plain lists and numbers. The answers that the functions called have given are variables, so
-- that a function's proof names few places of its context. Assumes nothing.
use Prim.Native.Nat.{ℕ}
use mathlib.Core.Path.{◌≡◌, refl, ap}
use mathlib.Core.Option.{Option, none, some}
use mathlib.Core.List.{List}
use lib.ListN.{length}
use borrow.Author.Tests.{eq-eqb, ne_eqb}
use Rattle.rights.specs.declared.ThingType.{ThingType}
use Rattle.laws.specs.Check.{◌or_else◌, must}
use Rattle.model.specs.Answers.{verdict_of}
use Rattle.model.specs.Scheme.{parameters_of, tests_of, operations_of}
use Rattle.model.specs.Request.{Outcome, done, refused, at, answer, after, unless_fault, places_fault}
use Rattle.model.specs.Seats.{Matrix, matrix_of, seats}
use Rattle.model.specs.declared.Operation.{Operation}
use Rattle.model.specs.declared.Command.{Command}
use Rattle.model.specs.declared.Refusal.{Refusal}
use Rattle.model.specs.declared.Things.{Things}
use Rattle.std.specs.Prelude.{Result, Ok, Err}
use Rattle.plan.specs.Locate.{bare, spots_of, unless, located, located_into}
use Rattle.plan.specs.Plan.{plan_of, plan_all, planned_into}
use Rattle.plan.specs.declared.plan.Plan.{Plan}
use Rattle.engine.specs.Inner.Cells.{first_false, cells_after}
use Rattle.engine.specs.Inner.Carry.{Carried, carried, carried_by, planned}

-- ---- what a result says of the fault behind it

verdict_fault : (f : Option Refusal) (r : Refusal) → Err r ≡ verdict_of f → f ≡ some r
verdict_fault none r e = cc
verdict_fault (some q) r e = cc

verdict_none : (f : Option Refusal) → Ok tt ≡ verdict_of f → f ≡ none
verdict_none none e = refl
verdict_none (some q) e = cc

abbrev Located : Result (Unit {0}) Refusal → List ℕ → Result (List ℕ) Refusal → Type 0
Located result found q = ◌≡◌ {A = Result (Unit {0}) Refusal × List ℕ} (result, found) (located_into q)

place_fault : (spots found : List ℕ) (f : Option Refusal) (r : Refusal) → Located (Err r) found (unless spots f) → f ≡ some r
place_fault spots found none r e = cc (ap (λ z. z.0) e)
place_fault spots found (some q) r e = cc (ap (λ z. z.0) e)

place_none : (spots found : List ℕ) (f : Option Refusal) → Located (Ok tt) found (unless spots f) → (f ≡ none) × (found ≡ spots)
place_none spots found none e = (refl, ap (λ z. z.1) e)
place_none spots found (some q) e = cc (ap (λ z. z.0) e)

-- ---- the plan carried out on the cells
module _ (cells : List ℕ) (os : List Operation) (th next : Things) (left : List ℕ) where
  abbrev Planned : Result (Unit {0}) Refusal → Outcome Plan → Type 0
  Planned result q = ◌≡◌ {A = Result (Unit {0}) Refusal × Things × List ℕ} (result, next, left) (planned_into th q)

  carried_stop : (q : Outcome Plan) (r : Refusal) → Planned (Err r) q → (carried_by cells os q ≡ refused r) × (next ≡ th)
  unfolding carried_by
  carried_stop (done p) r e = cc (ap (λ z. z.0) e)
  carried_stop (refused q) r e = (cc (ap (λ z. z.0) e), ap (λ z. z.1) e)

  carried_done : (q : Outcome Plan) → Planned (Ok tt) q → (out : List ℕ) → out ≡ cells_after left os cells
      → carried_by cells os q ≡ done (matrix_of next out)
  unfolding carried_by
  carried_done (done p) e out o =
      let things : next ≡ p.things = ap (λ z. z.1) e in
      let spots : left ≡ p.spots = ap (λ z. z.2) e in
      rw (o, things, spots)
  carried_done (refused q) e out o = cc (ap (λ z. z.0) e)

-- ---- the ways out

module _ (c : Command) (m : Matrix) (ids : List ℕ) where
  abbrev types : List ThingType
  types = parameters_of c.parameters

  abbrev os : List Operation
  os = operations_of c.operations

  abbrev spots : List ℕ
  spots = spots_of m.things os types ids

  -- the first fault of a place, and of a test
  abbrev unplaced : Option Refusal
  unplaced = places_fault seats (bare m.things) os 0 types ids

  abbrev untrue : List ℕ → Option Refusal
  untrue found = first_false m.cells found 0 (tests_of c.tests)

  abbrev Gives : Result (Unit {0}) Refusal → Matrix → Type 0
  Gives result next = ◌≡◌ {A = Carried} (result, next) (carried m (planned m ids c))

  -- a refusal that stops here, with the matrix as it is
  stops : (r : Refusal) → planned m ids c ≡ refused r → Gives (Err r) m
  unfolding answer after
  stops r p = rw p

  pub stops_11 : (length ids ≡ c.parameters.count → ⊥) → Gives (Err (at 11 0)) m
  unfolding planned must ◌or_else◌ unless_fault
  stops_11 h = stops (at 11 0) (rw (ne_eqb (length ids) c.parameters.count h))

  module _ (long : length ids ≡ c.parameters.count) where
    pub stops_place : (r : Refusal) (found : List ℕ) → Located (Err r) found (located m.things os types ids) → Gives (Err r) m
    unfolding planned must ◌or_else◌ unless_fault located
    stops_place r found e = stops r (rw (eq-eqb (length ids) c.parameters.count long, place_fault spots found unplaced r e))

    module _ (found : List ℕ) (place : Located (Ok tt) found (located m.things os types ids)) where
      seated : (unplaced ≡ none) × (found ≡ spots)
      unfolding located
      seated = place_none spots found unplaced place

      pub stops_test : (r : Refusal) → Err r ≡ verdict_of (untrue found) → Gives (Err r) m
      unfolding planned must ◌or_else◌ unless_fault
      stops_test r e = stops r (rw (eq-eqb (length ids) c.parameters.count long, seated.0, verdict_fault (untrue spots) r (rw seated.1 at e)))

      module _ (hold : Ok tt ≡ verdict_of (untrue found)) where
        planned_on : planned m ids c ≡ carried_by m.cells os (plan_all types ids 0 os (plan_of m.things found))
        unfolding planned must ◌or_else◌ unless_fault
        planned_on = rw (eq-eqb (length ids) c.parameters.count long, seated.0, verdict_none (untrue spots) (rw seated.1 at hold), seated.1)

        module _ (next : Things) (left : List ℕ) where
          abbrev Plans : Result (Unit {0}) Refusal → Type 0
          Plans result = Planned m.cells os m.things next left result (plan_all types ids 0 os (plan_of m.things found))

          pub stops_plan : (r : Refusal) → Plans (Err r) → Gives (Err r) (matrix_of next m.cells)
          stops_plan r e =
              let (stop, same) = carried_stop m.cells os m.things next left _ r e in
              rw same (stops r (rw planned_on stop))

          pub carries : Plans (Ok tt) → (out : List ℕ) → out ≡ cells_after left os m.cells → Gives (Ok tt) (matrix_of next out)
          unfolding answer after
          carries e out o = rw (planned_on, carried_done m.cells os m.things next left _ e out o)
