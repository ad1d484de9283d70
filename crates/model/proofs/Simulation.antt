-- A form of a matrix that stands for the papers' answers each request as they do, and stands for them afterwards.
-- Both go through the same checks; what is shown here is that each cell tested or changed exists. Assumes nothing.
use Prim.Native.Nat.{ℕ, zero, suc, ◌+◌, ◌≤◌, ◌<◌}
use native.Mathlib.Nat.{not-suc-le-zero, le_of_suc-le-suc, add-zero, zero-add, add-suc, suc-add}
use native.Mathlib.Omega.{arith}
use mathlib.Core.Path.{◌≡◌, refl, ap, ap₂, ◌∙◌}
use mathlib.Core.Logic.{◌≢◌}
use mathlib.Core.Bool.{Bool, true, false, not, cond}
use mathlib.Core.Option.{Option, none, some}
use mathlib.Core.List.{List, [], ◌∷◌}
use lib.Dec.{T, eqb, eqb→eq, eqb_refl, lit≤}
use lib.ListN.{length, get_or, get_elem?}
use Rattle.rights.specs.Sets.{has}
use Rattle.rights.specs.Numberings.{parameter, same_parameter}
use Rattle.rights.specs.declared.Right.{Right}
use Rattle.rights.specs.declared.ThingType.{ThingType}
use Rattle.rights.specs.declared.Parameter.{Parameter}
use Rattle.laws.specs.Check.{◌or_else◌, must, passes, is_some, any, Each}
use Rattle.model.specs.Scheme.{parameters_of, tests_of, operations_of, commands_of, type_at, id_at, creates, is_new}
use Rattle.model.specs.Request.{Request, Thing, of_type, is_id, View, at, Outcome, done, refused, unless_fault, and_then, type_fault, place_fault, places_fault}
use Rattle.model.specs.Request.{holds, tests_fault, act, operate, operate_all, carry_out, carry_out_if, step}
use Rattle.model.specs.Papers.{State, now_is, now_has, reached, born, papers}
use Rattle.model.specs.Accepted.{group, accepted_scheme}
use Rattle.model.specs.declared.Test.{Test}
use Rattle.model.specs.declared.Code.{Code}
use Rattle.model.specs.declared.Code.TheVariants.{Enter, Delete, Create, Destroy}
use Rattle.model.specs.declared.Operation.{Operation}
use Rattle.model.specs.declared.Command.{Command}
use Rattle.model.specs.declared.Head.{Head}
use Rattle.model.specs.declared.Scheme.{Scheme}
use Rattle.laws.proofs.Bools.{is_true, is_false, from_true, eqb_not, not_both, first_pass, then_pass, must_pass}
use Rattle.model.proofs.Form.{same_parameter_lem, Names, Fits, Body, no_creates, Tested, Formed, formed}
use Rattle.model.proofs.Stands.{fresh, Cell, Stands, Agree}
use Rattle.model.specs.declared.Refusal.{Refusal}

-- ---- two outcomes that agree

-- the same checks first, of which the later ones need agree only if the earlier ones pass
pub or_same : {K : Type 0} (a b f g : Option K) → a ≡ b → (T (passes b) → f ≡ g) → (a or_else f) ≡ (b or_else g)
unfolding ◌or_else◌ passes
or_same none none f g e h = h tt
or_same none (some k) f g e h = cc
or_same (some j) none f g e h = cc
or_same (some j) (some k) f g e h = e

module _ {M : Type 0} (R : M → State → Type 0) where
  pub unless_agree : (f g : Option Refusal) (o : Outcome M) (o' : Outcome State) → f ≡ g → (T (passes g) → Agree R o o') → Agree R (unless_fault f o) (unless_fault g o')
  unfolding unless_fault passes
  unless_agree none none o o' e h = h tt
  unless_agree none (some k) o o' e h = let z : ◌≡◌ {A = ℕ} 0 1 = cc in absurd (omega arith)
  unless_agree (some j) none o o' e h = let z : ◌≡◌ {A = ℕ} 0 1 = cc in absurd (omega arith)
  unless_agree (some j) (some k) o o' e h = cc

  -- one after the other; what holds in between may say more than R
  pub then_agree : (S : M → State → Type 0) (o : Outcome M) (o' : Outcome State) (f : M → Outcome M) (f' : State → Outcome State) → Agree S o o'
      → ((m : M) (p : State) → S m p → Agree R (f m) (f' p)) → Agree R (and_then o f) (and_then o' f')
  unfolding and_then
  then_agree S (done m) (done p) f f' a h = h m p a
  then_agree S (done m) (refused k) f f' a h = absurd a
  then_agree S (refused j) (done p) f f' a h = absurd a
  then_agree S (refused j) (refused k) f f' a h = a

-- ---- the place checks

-- they ask for the things, and which parameters are new; for no more
pub places_same : {M N : Type 0} (view : View M) (view' : View N) (m : M) (m' : N) → ((x : ℕ) → view.thing m x ≡ view'.thing m' x)
    → (os os' : List Operation) → ((q : Parameter) → is_new os q ≡ is_new os' q) → (n : ℕ) (ts : List ThingType) (xs : List ℕ)
    → places_fault view m os n ts xs ≡ places_fault view' m' os' n ts xs
unfolding places_fault place_fault
places_same view view' m m' e os os' new n [] xs = refl
places_same view view' m m' e os os' new n (t ∷ ts) [] = refl
places_same view view' m m' e os os' new n (t ∷ ts) (x ∷ xs) = rw (places_same view view' m m' e os os' new (suc n) ts xs, new (parameter n), e x)

-- what they leave

pub record Placed (p : State) (new : Bool) (t : ThingType) (x : ℕ) : Type 0 where
  pub id : T (is_id x)
  pub old : new ≡ false → p.things.thing x ≡ some (of_type t)

fits_type : (t : ThingType) (u : Option Thing) → T (passes (type_fault t u)) → u ≡ some (of_type t)
unfolding type_fault passes
fits_type t none ok = absurd ok
fits_type t (some u) ok =
    let n : u.type.0 ≡ t.0 = eqb→eq u.type.0 t.0 (must_pass _ (at 13 0) (first_pass _ _ ok)) in
    let free : u.on_hold ≡ false = is_false u.on_hold (λ b. not_both u.on_hold b (must_pass _ (at 18 0) (then_pass _ _ ok))) in
    λ i. some (record { type = record { 0 = n i }; on_hold = free i })

placed : (p : State) (new : Bool) (t : ThingType) (x : ℕ) → T (passes (place_fault papers p new t x)) → Placed p new t x
unfolding place_fault papers
placed p new t x ok =
    record {
      id = search (first_pass, must_pass);
      old = λ e. fits_type t (p.things.thing x) (rw e at (then_pass (must (is_id x) (at 12 0)) (cond new none (type_fault t (p.things.thing x))) ok));
    }

places_from : (p : State) (os : List Operation) (n : ℕ) (ts : List ThingType) (xs : List ℕ) → T (passes (places_fault papers p os n ts xs))
    → length xs ≡ length ts → (i : ℕ) → i < length ts → (d : ThingType) → Placed p (is_new os (parameter (n + i))) (get_or ts i d) (get_or xs i 0)
unfolding places_fault
places_from p os n [] xs ok e i h d = absurd (not-suc-le-zero h)
places_from p os n (t ∷ ts) [] ok e i h d = absurd (omega arith)
places_from p os n (t ∷ ts) (x ∷ xs) ok e zero h d = rw (add-zero n) (placed p (is_new os (parameter n)) t x (search first_pass))
places_from p os n (t ∷ ts) (x ∷ xs) ok e (suc i) h d =
    rw (add-suc n i, ← suc-add n i) (places_from p os (suc n) ts xs (search then_pass) (omega arith) i (le_of_suc-le-suc h) d)

pub placed_at : (p : State) (os : List Operation) (types : List ThingType) (ids : List ℕ) → T (passes (must (eqb (length ids) (length types)) (at 11 0)))
    → T (passes (places_fault papers p os 0 types ids)) → (q : Parameter) → q.0 < length types → Placed p (is_new os q) (type_at types q) (id_at ids q)
unfolding type_at id_at
placed_at p os types ids long ok q h = rw zero-add at (places_from p os 0 types ids ok (eqb→eq _ _ (must_pass _ (at 11 0) long)) q.0 h (record { 0 = 0 }))

-- every parameter that no operation is still to create names a thing of its type
abbrev pub Fit : List ThingType → List ℕ → State → List Operation → Type 0
Fit types ids p os = (q : Parameter) → q.0 < length types → is_new os q ≡ false → p.things.thing (id_at ids q) ≡ some (of_type (type_at types q))

-- so the cell that a test, an enter or a delete names exists
module _ (s : Head) (types : List ThingType) (ids : List ℕ) where
  pub there : (p : State) (os : List Operation) → Fit types ids p os → (r : Right) (i j : Parameter) → Names s types r i j
      → is_new os i ≡ false → is_new os j ≡ false → Cell s p (id_at ids i) (id_at ids j)
  unfolding is_some
  there p os fit r i j n old_row old_column =
      record {
        row = of_type (type_at types i);
        row_is = fit i n.row old_row;
        subject = n.subject;
        column = rw (fit j n.column old_column) tt;
      }

now_same : (x : ℕ) (t : Option Thing) (f : ℕ → Option Thing) → now_is x t f x ≡ t
unfolding now_is
now_same x t f = rw (is_true (eqb x x) (eqb_refl x))

pub now_other : (x : ℕ) (t : Option Thing) (f : ℕ → Option Thing) (y : ℕ) → y ≢ x → now_is x t f y ≡ f y
unfolding now_is
now_other x t f y n = rw (eqb_not y x n)

-- ---- one request

module _ {M : Type 0} (s : Head) (view : View M) (R : M → State → Type 0) (st : Stands s view R) where
  module _ (types : List ThingType) (ids : List ℕ) where
    tests_same : (m : M) (p : State) → R m p → (os : List Operation) → Fit types ids p os → (i : ℕ) (ts : List Test) → Each (Tested s types os) ts
        → tests_fault view m ids i ts ≡ tests_fault papers p ids i ts
    unfolding tests_fault holds papers
    tests_same m p r os fit i [] each = refl
    tests_same m p r os fit i (t ∷ ts) (k, each) =
        ap₂ (λ (c : ℕ) (f : Option Refusal). must (cond t.present (has c t.right.0) (not (has c t.right.0))) (at 14 i) or_else f)
        (st.cell m p r _ _ (there s types ids p os fit t.right t.row t.column k.cell k.old_row k.old_column))
        (tests_same m p r os fit (suc i) ts each)

    -- k is the group of the operation before: once a thing was destroyed, only destroys follow
    record Going (k : ℕ) (os : List Operation) (m : M) (p : State) : Type 0 where
      stand : R m p
      fit : k ≤ 1 → Fit types ids p os

    -- a thing that exists keeps its type, since the created one did not exist
    created : (p : State) (o : Operation) (os : List Operation) → o.code ≡ Create → p.things.thing (id_at ids o.row) ≡ none → Fit types ids p (o ∷ os)
        → Fit types ids (papers.create (id_at ids o.row) (type_at types o.row) p) os
    unfolding papers born reached now_has is_new any creates
    created p o os e new fit q h n = go (same_parameter o.row q) refl
      where
        go : (b : Bool) → same_parameter o.row q ≡ b
            → now_is (id_at ids o.row) (some (of_type (type_at types o.row))) p.things.thing (id_at ids q) ≡ some (of_type (type_at types q))
        go true d =
            let same : o.row ≡ q = same_parameter_lem o.row q (from_true d) in
            rw (← same) (now_same (id_at ids o.row) _ p.things.thing)
        go false d =
            let old : p.things.thing (id_at ids q) ≡ some (of_type (type_at types q)) = fit q h (rw (e, d) n) in
            now_other (id_at ids o.row) _ p.things.thing (id_at ids q) (λ x. let z : ◌≡◌ {A = ℕ} 0 1 = cc in omega arith) ∙ old

    -- an enter or a delete finds its cell, and leaves every thing as it is
    changed : (o : Operation) (os : List Operation) → 1 ≤ group o.code → Body s types (group o.code) os → Names s types o.right o.row o.column
        → (p : State) → Fit types ids p (o ∷ os) → Cell s p (id_at ids o.row) (id_at ids o.column) × Fit types ids p os
    changed o os h b n p fit =
        let old : (q : Parameter) → is_new (o ∷ os) q ≡ false = no_creates s types o os h b in
        (there s types ids p (o ∷ os) fit o.right o.row o.column n (old o.row) (old o.column), λ q l e. fit q l (old q))

    module _ (typed : (q : Parameter) → q.0 < length types → (type_at types q).0 < s.types)
        (given : (q : Parameter) → q.0 < length types → T (is_id (id_at ids q))) where
      act_agree : (k i : ℕ) (o : Operation) (os : List Operation) (c : Code) → o.code ≡ c → k ≤ group c → Fits s types o c → Body s types (group o.code) os
          → (m : M) (p : State) → Going k (o ∷ os) m p
          → Agree (Going (group c) os) (act view i c o.right (id_at ids o.row) (id_at ids o.column) (type_at types o.row) m)
          (act papers i c o.right (id_at ids o.row) (id_at ids o.column) (type_at types o.row) p)
      unfolding act papers
      act_agree k i o os Enter e order f b m p g =
          let (cell, fit) = changed o os (rw e (lit≤ tt)) b f p (g.fit order) in
          record { stand = st.enter m p g.stand o.right _ _ f.right cell; fit = λ h. fit }
      act_agree k i o os Delete e order f b m p g =
          let (cell, fit) = changed o os (rw e (lit≤ tt)) b f p (g.fit order) in
          record { stand = st.delete m p g.stand o.right _ _ f.right cell; fit = λ h. fit }
      act_agree k i o os Create e order f b m p g =
          unless_agree (Going 0 os) _ _ _ _
          (ap₂ (λ (may full : Bool). must may (at 15 i) or_else must (not full) (at 16 i))
          (st.may_create m p g.stand (id_at ids o.row)) (st.full m p g.stand)) λ ok.
          let may : T (papers.may_create p (id_at ids o.row)) = search (first_pass, must_pass) in
          let room : papers.full p ≡ false = is_false (papers.full p) (λ t. not_both (papers.full p) t (search (then_pass, must_pass))) in
          record {
            stand = st.create m p g.stand (id_at ids o.row) (type_at types o.row) (given o.row f) (typed o.row f) may room;
            fit = λ h. created p o os e (fresh p.things (id_at ids o.row) may) (g.fit (omega arith));
          }
      act_agree k i o os Destroy e order f b m p g =
          unless_agree (Going 2 os) _ _ _ _ (ap (λ (u : Option Thing). must (is_some u) (at 17 i)) (st.thing m p g.stand (id_at ids o.row))) λ ok.
          record { stand = st.destroy m p g.stand (id_at ids o.row) (must_pass _ (at 17 i) ok); fit = λ h. absurd (omega arith) }

      operations_agree : (k i : ℕ) (os : List Operation) → Body s types k os → (m : M) (p : State) → Going k os m p
          → Agree R (operate_all view types ids i os m) (operate_all papers types ids i os p)
      unfolding operate_all operate
      operations_agree k i [] b m p g = g.stand
      operations_agree k i (o ∷ os) (n, b) m p g =
          then_agree R (Going (group o.code) os) _ _ _ _ (act_agree k i o os o.code refl n.order n.fits b m p g)
          (operations_agree (group o.code) (suc i) os b)

  carry_agree : (m : M) (p : State) → R m p → (ids : List ℕ) (c : Command) → Formed s c → Agree R (carry_out view m ids c) (carry_out papers p ids c)
  unfolding carry_out papers
  carry_agree m p r ids c form =
      unless_agree R _ _ _ _
      (or_same _ _ _ _ refl λ long. or_same _ _ _ _ (places_same view papers m p (st.thing m p r) os os (λ q. refl) 0 types ids) λ ok.
      tests_same types ids m p r os (λ q h. (placed_at p os types ids long ok q h).old) 0 (tests_of c.tests) form.tests) λ all.
      let at' = placed_at p os types ids (search first_pass) (search (first_pass, then_pass)) in
      operations_agree types ids form.typed (λ q h. (at' q h).id) 0 0 os form.body m p (record { stand = r; fit = λ h q l. (at' q l).old })
    where
      types : List ThingType
      types = parameters_of c.parameters

      os : List Operation
      os = operations_of c.operations

pub simulate : {M : Type 0} (s : Scheme) (view : View M) (R : M → State → Type 0) → Stands s.head view R → T (accepted_scheme s)
    → (m : M) (p : State) → R m p → (q : Request) → Agree R (step view s m q) (step papers s p q)
unfolding step carry_out_if
simulate s view R st ok m p r q = go (get_elem? (commands_of s) q.command) refl
  where
    go : (o : Option Command) → get_elem? (commands_of s) q.command ≡ o → Agree R (carry_out_if view m q.ids o) (carry_out_if papers p q.ids o)
    go none e = refl
    go (some c) e = carry_agree s.head view R st m p r q.ids c (formed s ok q.command c e)
