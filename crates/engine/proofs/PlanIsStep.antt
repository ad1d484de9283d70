-- The plan is the step: it makes the same checks, meets the same first fault, and leaves the same things and cells.
-- Assumes nothing.
use Prim.Native.Nat.{ℕ, suc, ◌≤◌, ◌<◌}
use native.Mathlib.Omega.{arith}
use mathlib.Core.Path.{◌≡◌, refl, ◌∙◌}
use mathlib.Core.Logic.{◌≢◌}
use mathlib.Core.Bool.{Bool, true, false, not}
use mathlib.Core.Option.{Option, none, some}
use mathlib.Core.List.{List, [], ◌∷◌}
use lib.Dec.{T, eqb, lit≤, eqb→eq, leb→le}
use lib.ListN.{length, get_or}
use Rattle.rights.specs.Numberings.{zero_type}
use Rattle.rights.specs.Sets.{enter_right, delete_right}
use Rattle.rights.specs.declared.ThingType.{ThingType}
use Rattle.rights.specs.declared.Parameter.{Parameter}
use Rattle.laws.specs.Check.{◌or_else◌, must, passes, between, Each}
use Rattle.laws.proofs.Bools.{and_left, and_right, first_pass, then_pass, must_pass}
use Rattle.laws.proofs.Padded.{used}
use Rattle.model.specs.Scheme.{parameters_of, tests_of, operations_of, id_at, type_at, is_new, no_type}
use Rattle.model.specs.Request.{Outcome, done, refused, at, of_type, unless_fault, and_then, places_fault, holds, tests_fault, act, operate, operate_all, carry_out}
use Rattle.model.specs.Seats.{Matrix, matrix_of, seats, known, full, may_take, place, cell, change, put_thing, add, remove}
use Rattle.model.specs.Accepted.{group, command_fault, zero_test, zero_operation, padded_command, accepted_command, accepted_matrix}
use Rattle.model.specs.declared.Test.{Test}
use Rattle.model.specs.declared.Code.{Code}
use Rattle.model.specs.declared.Code.TheVariants.{Enter, Delete, Create, Destroy}
use Rattle.model.specs.declared.Operation.{Operation}
use Rattle.model.specs.declared.Command.{Command}
use Rattle.model.specs.declared.Head.{Head}
use Rattle.model.specs.declared.Refusal.{Refusal}
use Rattle.model.specs.declared.Things.{Things}
use Rattle.model.proofs.Find.{is_known}
use Rattle.model.proofs.Form.{Names, Fits, Body, no_creates, Tested, Formed, formed_command}
use Rattle.model.proofs.Held.{HeldThings}
use Rattle.model.proofs.HeldLaws.{held}
use Rattle.model.proofs.Simulation.{or_same, places_same}
use Rattle.plan.specs.Locate.{bare, spots_of}
use Rattle.plan.specs.declared.plan.Plan.{Plan}
use Rattle.plan.specs.Plan.{seat_at, plan_of, plan_create, plan_destroy, plan_by, plan_all}
use Rattle.plan.proofs.Seated.{Seated, seat_same, seated_create, seated_later, look_same, seat_known, seated_destroy, ids_nonzero, seated}
use Rattle.engine.specs.Inner.Cells.{place_at, holds_at, first_false, change_at, cells_by, cells_after}
use Rattle.engine.specs.Inner.Carry.{Counted, carried_by, planned}

-- ---- what comes after a check counts only if it passes

unless_same : {M : Type 0} (f g : Option Refusal) (o o' : Outcome M) → f ≡ g → (T (passes g) → o ≡ o') → unless_fault f o ≡ unless_fault g o'
unfolding unless_fault passes
unless_same f g o o' e h = rw e (go g h)
  where
    go : (g : Option Refusal) → (T (passes g) → o ≡ o') → unless_fault g o ≡ unless_fault g o'
    go none h = h tt
    go (some r) h = refl

-- ---- the cells go by the spots of the finished plan: a create needs none, and after the creates they are those of the plan so far

abbrev Keeps : List ℕ → Outcome Plan → Type 0
Keeps spots (done plan) = plan.spots ≡ spots
Keeps spots (refused r) = Unit {0}

carried_create : (cells : List ℕ) (o : Operation) (os : List Operation) (q : Outcome Plan) → o.code ≡ Create
    → carried_by cells (o ∷ os) q ≡ carried_by cells os q
unfolding carried_by cells_after cells_by
carried_create cells o os (done plan) e = rw e
carried_create cells o os (refused r) e = refl

carried_next : (cells spots : List ℕ) (o : Operation) (os : List Operation) (q : Outcome Plan) → Keeps spots q
    → carried_by cells (o ∷ os) q ≡ carried_by (cells_by spots o cells o.code) os q
unfolding carried_by cells_after
carried_next cells spots o os (done plan) e = rw (← e)
carried_next cells spots o os (refused r) e = refl

-- the same check, then the plan or the step
goes_on : (cells : List ℕ) (os : List Operation) (f : Option Refusal) (plan : Plan) (m : Matrix) (g : Plan → Outcome Plan) (h : Matrix → Outcome Matrix)
    → (T (passes f) → carried_by cells os (g plan) ≡ h m) → carried_by cells os (and_then (unless_fault f (done plan)) g) ≡ and_then (unless_fault f (done m)) h
unfolding unless_fault and_then passes carried_by
goes_on cells os none plan m g h e = e tt
goes_on cells os (some r) plan m g h e = refl

module _ (s : Head) (types : List ThingType) (ids : List ℕ) where
  -- only a create stores a seat
  keeps : (k : ℕ) → 1 ≤ k → (p : ℕ) (os : List Operation) → Body s types k os → (plan : Plan) (spots : List ℕ) → plan.spots ≡ spots
      → Keeps spots (plan_all types ids p os plan)
  unfolding plan_all plan_by plan_destroy and_then unless_fault must
  keeps k h p [] b plan spots e = e
  keeps k h p (o ∷ os) (n, b) plan spots e = go o.code n.order (λ plan'. keeps (group o.code) (omega (arith, n.order)) (suc p) os b plan' spots)
    where
      go : (c : Code) → k ≤ group c → ((plan' : Plan) → plan'.spots ≡ spots → Keeps spots (plan_all types ids (suc p) os plan'))
          → Keeps spots (and_then (plan_by types ids p o plan c) (plan_all types ids (suc p) os))
      go Enter l rest = rest plan e
      go Delete l rest = rest plan e
      go Create l rest = absurd (omega arith)
      go Destroy l rest = gone (eqb (get_or plan.things.ids (seat_at plan.spots o.row) 0) (id_at ids o.row))
        where
          next : Plan
          next = plan_of (put_thing (seat_at plan.spots o.row) 0 (of_type no_type) plan.things) plan.spots

          gone : (b : Bool) → Keeps spots (and_then (unless_fault (must b (at 17 p)) (done next)) (plan_all types ids (suc p) os))
          gone true = rest next e
          gone false = tt

  place_same : {k : ℕ} {os : List Operation} {th : Things} {spots : List ℕ} → Seated types ids k os th spots → k ≤ 1 → (i j : Parameter)
      → i.0 < length types → j.0 < length types → is_new os i ≡ false → is_new os j ≡ false → place_at spots i j ≡ place th (id_at ids i) (id_at ids j)
  unfolding place_at place
  place_same seated h i j li lj oi oj = rw (seat_same types ids seated h i li oi, seat_same types ids seated h j lj oj)

  -- ---- one operation

  -- the plan and the step go on alike
  abbrev Alike : ℕ → List Operation → Things → List ℕ → List ℕ → Type 0
  Alike p os th spots cells = carried_by cells os (plan_all types ids p os (plan_of th spots)) ≡ operate_all seats types ids p os (matrix_of th cells)

  module _ (nonzero : (q : Parameter) → q.0 < length types → id_at ids q ≢ 0) (k p : ℕ) (o : Operation) (os : List Operation)
      (b : Body s types (group o.code) os) (th : Things) (spots cells : List ℕ) (seated : Seated types ids k (o ∷ os) th spots)
      (rest : (th' : Things) (spots' cells' : List ℕ) → Seated types ids (group o.code) os th' spots' → Alike (suc p) os th' spots' cells') where
    abbrev m : Matrix
    m = matrix_of th cells

    abbrev x : ℕ
    x = id_at ids o.row

    change_goes : (f : ℕ → ℕ) → 1 ≤ group o.code → k ≤ 1 → k ≤ group o.code → Names s types o.right o.row o.column
        → cells_by spots o cells o.code ≡ change_at f (place_at spots o.row o.column) cells
        → carried_by cells (o ∷ os) (plan_all types ids (suc p) os (plan_of th spots))
        ≡ operate_all seats types ids (suc p) os (change f x (id_at ids o.column) m)
    unfolding change change_at cell
    change_goes f h k1 order n e =
        let old = no_creates s types o os h b in
        carried_next cells spots o os _ (keeps (group o.code) h (suc p) os b _ spots refl)
        ∙ rw (e, place_same seated k1 o.row o.column n.row n.column (old o.row) (old o.column))
        (rest th spots _ (seated_later types ids nonzero seated old order))

    act_goes : (c : Code) → o.code ≡ c → k ≤ group c → Fits s types o c
        → carried_by cells (o ∷ os) (and_then (plan_by types ids p o (plan_of th spots) c) (plan_all types ids (suc p) os))
        ≡ and_then (act seats p c o.right x (id_at ids o.column) (type_at types o.row) m) (operate_all seats types ids (suc p) os)
    unfolding plan_by plan_create plan_destroy cells_by act seats and_then add remove
    act_goes Enter e order f = change_goes (enter_right o.right.0) (rw e (lit≤ tt)) order (rw e order) f (rw e)
    act_goes Delete e order f = change_goes (delete_right o.right.0) (rw e (lit≤ tt)) order (rw e order) f (rw e)
    act_goes Create e order f =
        goes_on cells (o ∷ os) (must (may_take th x) (at 15 p) or_else must (not (full th)) (at 16 p)) _ _ _ _ λ ok.
        carried_create cells o os _ e
        ∙ rest _ _ cells (seated_create types ids nonzero seated e order f (must_pass _ _ (first_pass _ _ ok)) (must_pass _ _ (then_pass _ _ ok)) (type_at types o.row))
    act_goes Destroy e order f = rw (look_same types ids nonzero seated old f, is_known th x)
        (goes_on cells (o ∷ os) (must (known th x) (at 17 p)) _ _ _ _ λ ok.
        carried_next cells spots o os _ (keeps (group o.code) late (suc p) os b _ spots refl)
        ∙ rw (e, seat_known types ids nonzero seated old f (must_pass _ _ ok))
        (rest _ spots _ (seated_destroy types ids nonzero seated old f (rw e (lit≤ tt)))))
      where
        late : 1 ≤ group o.code
        late = rw e (lit≤ tt)

        old : (q : Parameter) → is_new (o ∷ os) q ≡ false
        old = no_creates s types o os late b

  -- ---- all operations, and the tests before them

  operations_go : ((q : Parameter) → q.0 < length types → id_at ids q ≢ 0) → (k p : ℕ) (os : List Operation) → Body s types k os
      → (th : Things) (spots cells : List ℕ) → Seated types ids k os th spots → Alike p os th spots cells
  unfolding plan_all operate_all operate carried_by cells_after
  operations_go nonzero k p [] b th spots cells here = refl
  operations_go nonzero k p (o ∷ os) (n, b) th spots cells here =
      act_goes nonzero k p o os b th spots cells here (operations_go nonzero (group o.code) (suc p) os b) o.code refl n.order n.fits

  tests_same : (m : Matrix) (os : List Operation) (spots : List ℕ) → Seated types ids 0 os m.things spots → (p : ℕ) (ts : List Test)
      → Each (Tested s types os) ts → first_false m.cells spots p ts ≡ tests_fault seats m ids p ts
  unfolding first_false tests_fault holds_at holds seats cell
  tests_same m os spots seated p [] each = refl
  tests_same m os spots seated p (t ∷ ts) (k, each) = rw (
    place_same seated (lit≤ tt) t.row t.column k.cell.row k.cell.column k.old_row k.old_column,
    tests_same m os spots seated (suc p) ts each,
  )

-- ---- a command and a matrix that one head accepts

pub record Ready (c : Command) (m : Matrix) : Type 0 where
  pub head : Head
  pub command : T (accepted_command head c)
  pub matrix : T (accepted_matrix head m)

ruleset passed = (and_left, and_right, first_pass, then_pass, must_pass)

module _ (c : Command) (m : Matrix) (ready : Ready c m) where
  passes_all : T (passes (command_fault ready.head c))
  unfolding accepted_command
  passes_all = let a : T (accepted_command ready.head c) = ready.command in search and_left

  few : c.parameters.count ≤ 8
  unfolding command_fault between
  few = let ok = passes_all in leb→le _ _ (search passed)

  types_used : length (parameters_of c.parameters) ≡ c.parameters.count
  unfolding accepted_command padded_command
  types_used = let a : T (accepted_command ready.head c) = ready.command in used zero_type 8 _ _ (search passed) few

  -- the tests and the operations are as many as it counts
  pub lists_used : (length (tests_of c.tests) ≡ c.tests.count) × (length (operations_of c.operations) ≡ c.operations.count)
  unfolding accepted_command padded_command command_fault between
  lists_used =
      let a : T (accepted_command ready.head c) = ready.command in
      let ok = passes_all in
      (used zero_test 16 _ _ (search passed) (leb→le _ _ (search passed)), used zero_operation 32 _ _ (search passed depth 8) (leb→le _ _ (search passed depth 8)))

  pub counted : Counted c m.cells
  unfolding command_fault between
  counted =
      let ok = passes_all in
      record {
        tests = leb→le _ _ (search passed);
        operations = leb→le _ _ (search passed depth 8);
        room = (held ready.head m ready.matrix).cells.room;
      }

  pub plan_is_step : (ids : List ℕ) → planned m ids c ≡ carry_out seats m ids c
  unfolding planned carry_out seats
  plan_is_step ids =
      unless_same _ _ _ _
      (or_same _ _ _ _ (rw types_used) λ long. or_same _ _ _ _ same_places λ ok.
      tests_same ready.head types ids m os spots (start long ok) 0 (tests_of c.tests) form.tests)
      λ pass.
      let long = first_pass _ _ pass in
      let ok = first_pass _ _ (then_pass _ _ pass) in
      operations_go ready.head types ids (ids_nonzero ready.head m.things things os types ids less (enough long) (bare_ok ok)) 0 0 os form.body
      m.things spots m.cells (start long ok)
    where
      types : List ThingType
      types = parameters_of c.parameters

      os : List Operation
      os = operations_of c.operations

      spots : List ℕ
      spots = spots_of m.things os types ids

      form : Formed ready.head c
      form = formed_command ready.head c ready.command

      things : HeldThings ready.head m.things
      things = (held ready.head m ready.matrix).things

      less : length types ≤ 8
      less = rw types_used few

      same_places : places_fault seats (bare m.things) os 0 types ids ≡ places_fault seats m os 0 types ids
      same_places = places_same seats seats (bare m.things) m (λ x. refl) os os (λ q. refl) 0 types ids

      enough : T (passes (must (eqb (length ids) (length types)) (at 11 0))) → length ids ≡ length types
      enough long = eqb→eq _ _ (must_pass _ _ long)

      bare_ok : T (passes (places_fault seats m os 0 types ids)) → T (passes (places_fault seats (bare m.things) os 0 types ids))
      bare_ok ok = rw same_places ok

      start : T (passes (must (eqb (length ids) (length types)) (at 11 0))) → T (passes (places_fault seats m os 0 types ids))
          → Seated types ids 0 os m.things spots
      start long ok = seated ready.head m.things things os types ids less (enough long) (bare_ok ok)
