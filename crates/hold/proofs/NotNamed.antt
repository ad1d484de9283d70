-- A request that is carried out names no thing that is on hold, as new or otherwise; and one that names it other than as new is refused before its tests.
-- Assumes nothing.
use Prim.Native.Nat.{ℕ, suc, ◌+◌, ◌≤◌, ◌<◌}
use mathlib.Core.Path.{◌≡◌, refl, sym, ◌∙◌}
use mathlib.Core.Logic.{◌≢◌}
use mathlib.Core.Bool.{Bool, true, false, not, cond, ◌&&◌, ◌||◌}
use mathlib.Core.Option.{Option, none, some}
use mathlib.Core.List.{List, [], ◌∷◌, ◌++◌}
use native.Mathlib.Nat.{add-zero, zero-add, add-suc, suc-add}
use native.Mathlib.Decide.{dec_lt}
use native.Mathlib.Omega.{arith}
use lib.Dec.{T, eqb, eqb→eq, ltb, ltb→lt}
use lib.ListN.{length, get_or, get_elem?, get_or-eq_default}
use Rattle.rights.specs.Numberings.{parameter, same_parameter}
use Rattle.rights.specs.declared.ThingType.{ThingType}
use Rattle.rights.specs.declared.Parameter.{Parameter}
use Rattle.laws.specs.Check.{◌or_else◌, must, passes, any, between}
use Rattle.laws.proofs.Bools.{is_false, and_left, and_right, not_both, must_pass, first_pass, then_pass}
use Rattle.laws.proofs.Differ.{constructors_differ}
use Rattle.model.specs.Scheme.{parameters_of, tests_of, operations_of, commands_of, type_at, id_at, is_create, creates, is_new}
use Rattle.model.specs.Request.{Request, Thing, of_type, at, Answer, Outcome, done, answer, unless_fault, places_fault, tests_fault}
use Rattle.model.specs.Request.{carry_out, carry_out_if, step}
use Rattle.model.specs.Papers.{State, papers}
use Rattle.model.specs.NeverAgain.{created_of, created_if, if_done, created_by, created_in, rises_from}
use Rattle.model.specs.declared.Operation.{Operation}
use Rattle.model.specs.declared.Command.{Command}
use Rattle.model.specs.declared.Refusal.{Refusal}
use Rattle.model.specs.declared.Scheme.{Scheme}
use Rattle.model.proofs.Form.{same_parameter_lem}
use Rattle.model.proofs.Simulation.{placed_at}
use Rattle.model.proofs.Refusals.{IfRefused, must_give, places_give}
use Rattle.model.proofs.NeverAgain.{never_again}
use Rattle.hold.specs.OnHold.{names_from, operations_if, takes_part, refused_early, IsOnHold}

-- ---- no place that passed, and isn't new, has it

-- a place asks for a thing that isn't on hold
not_asked : (t : Thing) (type : ThingType) → T t.on_hold → some t ≡ some (of_type type) → ⊥
not_asked t type on e = let off : t.on_hold ≡ false = cc in rw off at on

module _ (m : State) (x : ℕ) (t : Thing) (on : IsOnHold m x t) (os : List Operation) (types : List ThingType) (ids : List ℕ) where
  passed_over : T (passes (must (eqb (length ids) (length types)) (at 11 0))) → T (passes (places_fault papers m os 0 types ids)) →
      (q : Parameter) → q.0 < length ids → is_new os q ≡ false → id_at ids q ≢ x
  passed_over long ok q l old e =
      let many : length ids ≡ length types = eqb→eq _ _ (must_pass _ (at 11 0) long) in
      let asked : m.things.thing (id_at ids q) ≡ some (of_type (type_at types q)) = (placed_at m os types ids long ok q (omega arith)).old old in
      not_asked t (type_at types q) on.on_hold (sym on.there ∙ rw e at asked)

-- ---- a request that names it is refused early

-- a place from p on that isn't new, where X stands
record NamedAt (os : List Operation) (p : ℕ) (ids : List ℕ) (x : ℕ) : Type 0 where
  place : ℕ
  below : place < length ids
  old : is_new os (parameter (p + place)) ≡ false
  is : get_or ids place 0 ≡ x

named_at : (os : List Operation) (p : ℕ) (ids : List ℕ) (x : ℕ) → T (names_from os p ids x) → NamedAt os p ids x
unfolding names_from
named_at os p [] x t = absurd t
named_at os p (y ∷ ys) x t = go (not (is_new os (parameter p)) && eqb y x) refl (named_at os (suc p) ys x) t
  where
    go : (b : Bool) → (not (is_new os (parameter p)) && eqb y x) ≡ b → (T (names_from os (suc p) ys x) → NamedAt os (suc p) ys x) →
        T (b || names_from os (suc p) ys x) → NamedAt os p (y ∷ ys) x
    go true e behind u =
        let here : T (not (is_new os (parameter p)) && eqb y x) = rw e tt in
        record {
          place = 0;
          below = omega arith;
          old = rw (add-zero p) (is_false (is_new os (parameter p)) (λ n. not_both (is_new os (parameter p)) n (search and_left)));
          is = eqb→eq y x (and_right (not (is_new os (parameter p))) (eqb y x) here);
        }
    go false e behind u =
        let later = behind u in
        record {
          place = suc later.place;
          below = omega (arith, later.below);
          old = rw (add-suc p later.place, ← suc-add p later.place) later.old;
          is = later.is;
        }

abbrev Early : Refusal → Type 0
Early r = T (refused_early (some r))

-- of two checks that give early refusals one doesn't pass
early_one : (a b f : Answer) (o : Outcome State) → IfRefused Early a → IfRefused Early b → (T (passes a) → T (passes b) → ⊥) →
    T (refused_early (answer (unless_fault (a or_else b or_else f) o)))
unfolding IfRefused ◌or_else◌ passes unless_fault answer
early_one none none f o h k clash = absurd (clash tt tt)
early_one none (some r) f o h k clash = k
early_one (some r) b f o h k clash = h

early_command : (m : State) (x : ℕ) (t : Thing) → IsOnHold m x t → (ids : List ℕ) (c : Option Command) → T (names_from (operations_if c) 0 ids x) →
    T (refused_early (answer (carry_out_if papers m ids c)))
unfolding operations_if carry_out_if carry_out refused_early between answer
early_command m x t on ids none n = tt
early_command m x t on ids (some c) n =
    let os = operations_of c.operations in
    let types = parameters_of c.parameters in
    let named = named_at os 0 ids x n in
    early_one _ _ _ _ (must_give Early (eqb (length ids) (length types)) (at 11 0) tt)
    (places_give Early papers (record { no_thing = tt; other_type = tt; on_hold = tt }) m os 0 types ids)
    (λ long ok. passed_over m x t on os types ids long ok (parameter named.place) named.below (rw zero-add at named.old) (unfold id_at in named.is))

pub takes_no_part_lem : (s : Scheme) (m : State) (q : Request) (x : ℕ) (t : Thing) → IsOnHold m x t → T (takes_part s q x) →
    T (refused_early (answer (step papers s m q)))
unfolding takes_part step
takes_no_part_lem s m q x t on = early_command m x t on q.ids (get_elem? (commands_of s) q.command)

-- ---- what a request creates is above the highest

created_above : (ids : List ℕ) (q : Parameter) (os : List Operation) (k : ℕ) → T (is_new os q) → T (rises_from k (created_of ids os ++ [])) → k < id_at ids q
unfolding is_new any creates created_of rises_from
created_above ids q [] k new up = absurd new
created_above ids q (o ∷ os) k new up = go (is_create o.code) (same_parameter o.row q) refl (created_above ids q os) new up
  where
    go : (c b : Bool) → same_parameter o.row q ≡ b → ((k : ℕ) → T (is_new os q) → T (rises_from k (created_of ids os ++ [])) → k < id_at ids q) →
        T (c && b || any (creates q) os) → T (rises_from k (cond c (id_at ids o.row ∷ created_of ids os) (created_of ids os) ++ [])) → k < id_at ids q
    go true true e behind new up =
        let same : o.row ≡ q = same_parameter_lem o.row q (rw e tt) in
        rw (← same) (ltb→lt k (id_at ids o.row) (and_left (ltb k (id_at ids o.row)) (rises_from (id_at ids o.row) (created_of ids os ++ [])) up))
    go true false e behind new up =
        let y = id_at ids o.row in
        let first : k < y = ltb→lt k y (and_left (ltb k y) (rises_from y (created_of ids os ++ [])) up) in
        omega (arith, behind y new (and_right (ltb k y) (rises_from y (created_of ids os ++ [])) up))
    go false b e behind new up = behind k new up

-- ---- so what is carried out names it nowhere

pub passed_done : (f : Answer) (o : Outcome State) (n : State) → unless_fault f o ≡ done n → T (passes f) × (o ≡ done n)
unfolding unless_fault passes
passed_done none o n e = (tt, e)
passed_done (some r) o n e = constructors_differ (cc)

rises_by : (s : Scheme) (m n : State) (q : Request) (c : Command) → get_elem? (commands_of s) q.command ≡ some c → step papers s m q ≡ done n →
    T (rises_from m.things.highest (created_of q.ids (operations_of c.operations) ++ []))
unfolding created_in created_by created_if if_done
rises_by s m n q c is e = rw (e, is) at (never_again.rise s m (q ∷ []))

pub not_named : (s : Scheme) (m n : State) (q : Request) (c : Command) (x : ℕ) (t : Thing) → get_elem? (commands_of s) q.command ≡ some c →
    step papers s m q ≡ done n → IsOnHold m x t → x ≢ 0 → x ≤ m.things.highest → (p : Parameter) → id_at q.ids p ≢ x
unfolding step carry_out_if carry_out id_at
not_named s m n q c x t is e on nz low p here = go (dec_lt p.0 (length ids)) (is_new os p) refl
  where
    ids : List ℕ
    ids = q.ids

    os : List Operation
    os = operations_of c.operations

    types : List ThingType
    types = parameters_of c.parameters

    passed : T (passes
        (must (eqb (length ids) (length types)) (at 11 0) or_else places_fault papers m os 0 types ids or_else tests_fault papers m ids 0 (tests_of c.tests)))
    passed = (passed_done _ _ n (rw is at e)).0

    go : Dec (p.0 < length ids) → (new : Bool) → is_new os p ≡ new → ⊥
    go (no far) new is-new = nz (sym here ∙ get_or-eq_default ids 0 (omega arith))
    go (yes l) true is-new = omega (arith, here, created_above ids p os m.things.highest (rw is-new tt) (rises_by s m n q c is e))
    go (yes l) false is-new = passed_over m x t on os types ids (first_pass _ _ passed) (first_pass _ _ (then_pass _ _ passed)) p l is-new here
