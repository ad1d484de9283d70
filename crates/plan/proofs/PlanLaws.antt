-- What a create, a destroy and each turn of the plan answer, by the tests of the code. Over plain lists and numbers, so that a function's
-- proof names few places of its context. Assumes nothing.
use Prim.Native.Nat.{ℕ, ◌+◌, ◌≤◌, ◌<◌}
use mathlib.Core.Path.{◌≡◌, refl, ap}
use mathlib.Core.Bool.{Bool, true, false, cond}
use mathlib.Core.List.{List, ◌∷◌}
use native.Mathlib.Numerals.{add-one}
use lib.ListN.{length, get_or, set}
use borrow.Author.Tests.{eq-eqb, ne_eqb, lt-ltb, le-ltb}
use Rattle.rights.specs.declared.ThingType.{ThingType}
use Rattle.rights.specs.declared.Parameter.{Parameter}
use Rattle.laws.specs.Check.{◌or_else◌, must}
use Rattle.model.specs.Scheme.{no_type}
use Rattle.model.specs.Request.{Outcome, done, refused, at, of_type, unless_fault, and_then, answer, after}
use Rattle.model.specs.Seats.{find, full, seat, may_take, put_thing}
use Rattle.model.specs.declared.Things.{Things}
use Rattle.model.specs.declared.Operation.{Operation}
use Rattle.model.specs.declared.Refusal.{Refusal}
use Rattle.std.specs.Prelude.{Result, Ok, Err, None, Some}
use Rattle.plan.specs.Plan.{seat_at, plan_of, plan_create, plan_destroy, plan_by, plan_all}
use Rattle.plan.specs.Inner.Change.{changed, free_seat}
use Rattle.plan.specs.declared.plan.Plan.{Plan}
use Rattle.model.proofs.SeatFound.{full_found, free_found}

-- ---- the first free seat
no_seat : (b : Bool) (i : ℕ) → None ≡ cond b None (Some i) → b ≡ true
no_seat true i e = refl
no_seat false i e = cc

some_seat : (b : Bool) (i free : ℕ) → Some free ≡ cond b None (Some i) → (b ≡ false) × (i ≡ free)
some_seat true i free e = cc
some_seat false i free e = (refl, cc)

module _ (th : Things) (room : length th.ids ≡ 48) (i : ℕ) (first : i ≡ find th.ids 0) where
  pub seat_free : i < 48 → Some i ≡ free_seat th
  unfolding free_seat seat
  seat_free h = rw (free_found th room i first h, first)

  pub none_free : 48 ≤ i → None ≡ free_seat th
  unfolding free_seat
  none_free h = rw (full_found th room i first h)

-- ---- a create, by whether the id may take a seat, and by the first free one

module _ (plan : Plan) (place x : ℕ) (t : ThingType) (p : Parameter) where
  abbrev Creates : Result (Unit {0}) Refusal → Plan → Type 0
  Creates answer next = ◌≡◌ {A = Result (Unit {0}) Refusal × Plan} (answer, next) (changed plan (plan_create place x t p plan))

  pub create_taken : x ≤ plan.things.highest → Creates (Err (at 15 place)) plan
  unfolding plan_create may_take must ◌or_else◌ unless_fault answer after
  create_taken h = rw (le-ltb _ _ h)

  module _ (may : plan.things.highest < x) where
    pub create_full : None ≡ free_seat plan.things → Creates (Err (at 16 place)) plan
    unfolding plan_create may_take must ◌or_else◌ unless_fault answer after free_seat
    create_full e = rw (lt-ltb _ _ may, no_seat (full plan.things) _ e)

    pub create_done : (free : ℕ) → Some free ≡ free_seat plan.things →
        Creates (Ok tt) (plan_of (put_thing free x (of_type t) plan.things) (set plan.spots p.0 free))
    unfolding plan_create may_take must ◌or_else◌ unless_fault answer after free_seat
    create_done free e = let (room, first) = some_seat (full plan.things) _ free e in rw (lt-ltb _ _ may, room, first)

-- ---- a destroy, by who sits at the parameter's seat

module _ (plan : Plan) (place x : ℕ) (p : Parameter) (i : ℕ) (sits : i ≡ seat_at plan.spots p) where
  abbrev Destroys : Result (Unit {0}) Refusal → Plan → Type 0
  Destroys answer next = ◌≡◌ {A = Result (Unit {0}) Refusal × Plan} (answer, next) (changed plan (plan_destroy place x p plan))

  pub destroy_gone : (get_or plan.things.ids i 0 ≡ x → ⊥) → Destroys (Err (at 17 place)) plan
  unfolding plan_destroy must unless_fault answer after
  destroy_gone e = rw (← sits, ne_eqb _ _ e)

  pub destroy_done : get_or plan.things.ids i 0 ≡ x → Destroys (Ok tt) (plan_of (put_thing i 0 (of_type no_type) plan.things) plan.spots)
  unfolding plan_destroy must unless_fault answer after
  destroy_done e = rw (← sits, eq-eqb _ _ e)

-- ---- the operations in order

-- what an answer says of the plan behind it
planned : (plan next : Plan) (q : Outcome Plan) → ◌≡◌ {A = Result (Unit {0}) Refusal × Plan} (Ok tt, next) (changed plan q) → q ≡ done next
unfolding answer after
planned plan next (done p) e = cc (ap (λ z. z.1) e)
planned plan next (refused k) e = cc (ap (λ z. z.0) e)

stopped : (plan next : Plan) (k : Refusal) (q : Outcome Plan) → ◌≡◌ {A = Result (Unit {0}) Refusal × Plan} (Err k, next) (changed plan q) → q ≡ refused k
unfolding answer after
stopped plan next k (done p) e = cc (ap (λ z. z.0) e)
stopped plan next k (refused j) e = cc (ap (λ z. z.0) e)

-- what is left at place i gives, on the plan so far
module _ (types : List ThingType) (ids : List ℕ) where
  abbrev pub planned_from : Plan → ℕ → List Operation → Outcome Plan
  planned_from plan i os = plan_all types ids i os plan

  module _ (plan next : Plan) (i : ℕ) (o : Operation) where
    pub plan_on : ◌≡◌ {A = Result (Unit {0}) Refusal × Plan} (Ok tt, next) (changed plan (plan_by types ids i o plan o.code)) →
        (os : List Operation) → planned_from next (i + 1) os ≡ planned_from plan i (o ∷ os)
    unfolding plan_all and_then
    plan_on is os = rw (planned plan next (plan_by types ids i o plan o.code) is, add-one i)

    pub plan_stop : (k : Refusal) → ◌≡◌ {A = Result (Unit {0}) Refusal × Plan} (Err k, next) (changed plan (plan_by types ids i o plan o.code)) →
        (os : List Operation) → refused k ≡ planned_from plan i (o ∷ os)
    unfolding plan_all and_then
    plan_stop k is os = rw (stopped plan next k (plan_by types ids i o plan o.code) is)
