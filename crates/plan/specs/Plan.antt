-- The plan of a request: what the creates and destroys make of the things, and where the created ones sit, or the first fault (15, 16, 17). The model's
-- operations do the same to a whole matrix; here a thing is found by its parameter's seat, and no cell is asked for.
-- Assumes nothing.
use Rattle.std.specs.Prelude.{ℕ, suc, not, List, [], ◌∷◌, eqb, get_or, set, Result, Ok, Err}
use Rattle.rights.specs.declared.ThingType.{ThingType}
use Rattle.rights.specs.declared.Parameter.{Parameter}
use Rattle.laws.specs.Check.{◌or_else◌, must}
use Rattle.model.specs.Scheme.{type_at, id_at, no_type}
use Rattle.model.specs.Request.{Outcome, done, refused, at, of_type, unless_fault, and_then}
use Rattle.model.specs.Seats.{full, seat, may_take, put_thing}
use Rattle.model.specs.declared.Code.{Code}
use Rattle.model.specs.declared.Code.TheVariants.{Enter, Delete, Create, Destroy}
use Rattle.model.specs.declared.Operation.{Operation}
use Rattle.model.specs.declared.Things.{Things}
use Rattle.model.specs.declared.Refusal.{Refusal}
use Rattle.plan.specs.Locate.{no_spots}
use Rattle.plan.specs.declared.plan.Plan.{Plan}

-- where a parameter's thing sits
unfoldable pub seat_at : List ℕ → Parameter → ℕ
seat_at spots p = get_or spots p.0 0

abbrev pub plan_of : Things → List ℕ → Plan
plan_of th spots = record { things = th; spots = spots }

-- X of type t takes the first free seat; `place` is the operation's
unfoldable pub plan_create : ℕ → ℕ → ThingType → Parameter → Plan → Outcome Plan
plan_create place x t p plan =
    unless_fault (must (may_take plan.things x) (at 15 place) or_else must (not (full plan.things)) (at 16 place))
    (done (plan_of (put_thing (seat plan.things 0) x (of_type t) plan.things) (set plan.spots p.0 (seat plan.things 0))))

-- a thing that is already gone no longer sits at its seat
unfoldable pub plan_destroy : ℕ → ℕ → Parameter → Plan → Outcome Plan
plan_destroy place x p plan =
    unless_fault (must (eqb (get_or plan.things.ids (seat_at plan.spots p) 0) x) (at 17 place))
    (done (plan_of (put_thing (seat_at plan.spots p) 0 (of_type no_type) plan.things) plan.spots))

unfoldable pub plan_by : List ThingType → List ℕ → ℕ → Operation → Plan → Code → Outcome Plan
plan_by types ids place o plan Enter = done plan
plan_by types ids place o plan Delete = done plan
plan_by types ids place o plan Create = plan_create place (id_at ids o.row) (type_at types o.row) o.row plan
plan_by types ids place o plan Destroy = plan_destroy place (id_at ids o.row) o.row plan

-- all operations, the first of which stands at `place`
unfoldable pub plan_all : List ThingType → List ℕ → ℕ → List Operation → Plan → Outcome Plan
plan_all types ids place [] plan = done plan
plan_all types ids place (o ∷ os) plan = and_then (plan_by types ids place o plan o.code) (plan_all types ids (suc place) os)

-- the answer, and the things and the spots that were lent: a refused plan leaves the things as they were, and zeros as spots
abbrev pub planned_into : Things → Outcome Plan → Result (Unit {0}) Refusal × Things × List ℕ
planned_into th (done plan) = (Ok tt, plan.things, plan.spots)
planned_into th (refused r) = (Err r, th, no_spots)
