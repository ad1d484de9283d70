-- The promise `Translation`, over any relation of cells. What is used of acceptance is that a tested cell exists.
-- Assumes nothing.
use Prim.Native.Nat.{ℕ, zero, suc, ◌+◌}
use native.Mathlib.Nat.{add-zero, add-suc, suc-add}
use native.Mathlib.Omega.{arith}
use mathlib.Core.Path.{◌≡◌, refl, ap, ap₂, ◌∙◌}
use mathlib.Core.Logic.{◌≢◌}
use mathlib.Core.Bool.{Bool, true, false, cond, ◌&&◌, ◌||◌}
use mathlib.Core.Option.{Option, some}
use mathlib.Core.List.{List, [], ◌∷◌, ◌++◌, Forall₂}
use lib.Dec.{T, eqb}
use lib.ListN.{length, take, get_elem?}
use borrow.Author.Tests.{eqb-false}
use Rattle.rights.specs.declared.ThingType.{ThingType}
use Rattle.rights.specs.declared.Parameter.{Parameter}
use Rattle.laws.specs.Check.{◌or_else◌, must, any, all, Each}
use Rattle.model.specs.Scheme.{parameters_of, operations_of, is_subject, id_at, type_at, keeps_things, creates, is_new}
use Rattle.model.specs.Request.{Request, at, Outcome, and_then, holds, tests_fault, act, operate, operate_all, carry_out, carry_out_if, step}
use Rattle.model.specs.Papers.{Population, State, cell_exists, change_cell, emptied, now_has, reached, born, gone, papers}
use Rattle.model.specs.Accepted.{accepted_scheme}
use Rattle.model.specs.Translation.{verdict, changed_by, changed_by_all, changes_cell, Related, TestBecomes, ChangeBecomes, ThingBecomes}
use Rattle.model.specs.Translation.{OperationsBecome, end, change, thing, CommandBecomes, Translates, Translation}
use Rattle.model.specs.declared.Test.{Test}
use Rattle.model.specs.declared.Code.{Code}
use Rattle.model.specs.declared.Code.TheVariants.{Enter, Delete, Create, Destroy}
use Rattle.model.specs.declared.Operation.{Operation}
use Rattle.model.specs.declared.Command.{Command}
use Rattle.model.specs.declared.Head.{Head}
use Rattle.model.specs.declared.Scheme.{Scheme}
use Rattle.laws.proofs.Bools.{is_true, and_left, and_right, and_both}
use Rattle.model.proofs.Form.{same_parameter_lem, group_one, no_create, Tested, Formed, formed}
use Rattle.model.proofs.Stands.{Cell, Agree}
use Rattle.model.proofs.Simulation.{or_same, unless_agree, then_agree, places_same, placed_at, Fit, there, now_other}
use Rattle.model.proofs.Invariant.{run_agree}
use Rattle.model.proofs.SeatChange.{state_eq}
use Rattle.model.specs.declared.Refusal.{Refusal}

-- ---- two matrices cell by cell: what the same change of one cell keeps, and what emptying X's cells leaves

module _ (P : ℕ → ℕ → ℕ → ℕ → Type 0) (old new : ℕ → ℕ → ℕ) where
  pub cells_change : (f g : ℕ → ℕ) (x y : ℕ) → ((a b u v : ℕ) → P a b u v → P a b (f u) (g v)) → ((a b : ℕ) → P a b (old a b) (new a b)) →
      (a b : ℕ) → P a b (change_cell f x y old a b) (change_cell g x y new a b)
  unfolding change_cell
  cells_change f g x y law all a b = go (eqb a x && eqb b y)
    where
      go : (c : Bool) → P a b (cond c (f (old a b)) (old a b)) (cond c (g (new a b)) (new a b))
      go true = law a b _ _ (all a b)
      go false = all a b

  pub cells_empty : (x : ℕ) → ((a b : ℕ) → P a b 0 0) → ((a b : ℕ) → a ≢ x → b ≢ x → P a b (old a b) (new a b)) →
      (a b : ℕ) → P a b (emptied x old a b) (emptied x new a b)
  unfolding emptied
  cells_empty x empty others a b = go (eqb a x) (eqb b x) (eqb-false a x) (eqb-false b x)
    where
      go : (c d : Bool) → (c ≡ false → a ≢ x) → (d ≡ false → b ≢ x) → P a b (cond (c || d) 0 (old a b)) (cond (c || d) 0 (new a b))
      go true d na nb = empty a b
      go false true na nb = empty a b
      go false false na nb = others a b (na refl) (nb refl)

-- ---- one cell changed: several times is once

abbrev at_cell : (ℕ → ℕ) → ℕ → ℕ → State → State
at_cell f x y m = record { things = m.things; rights = change_cell f x y m.rights }

changed_twice : (f g : ℕ → ℕ) (x y : ℕ) (m : State) → at_cell g x y (at_cell f x y m) ≡ at_cell (λ v. g (f v)) x y m
unfolding change_cell
changed_twice f g x y m = state_eq _ _ refl (λ a b. go (eqb a x && eqb b y) (m.rights a b))
  where
    go : (c : Bool) (v : ℕ) → cond c (g (cond c (f v) v)) (cond c (f v) v) ≡ cond c (g (f v)) v
    go true v = refl
    go false v = refl

unchanged : (x y : ℕ) (m : State) → m ≡ at_cell (λ v. v) x y m
unfolding change_cell
unchanged x y m = state_eq _ _ refl (λ a b. go (eqb a x && eqb b y) (m.rights a b))
  where
    go : (c : Bool) (v : ℕ) → v ≡ cond c v v
    go true v = refl
    go false v = refl

module _ (types : List ThingType) (ids : List ℕ) where
  change_one : (i : ℕ) (o : Operation) (c : Code) → o.code ≡ c → T (keeps_things c) → (later : List Operation) (m : State) →
      operate_all papers types ids i (o ∷ later) m
      ≡ operate_all papers types ids (suc i) later (at_cell (changed_by c o.right) (id_at ids o.row) (id_at ids o.column) m)
  unfolding operate_all operate act and_then papers changed_by
  change_one i o Enter e k later m = rw e
  change_one i o Delete e k later m = rw e
  change_one i o Create e k later m = absurd k
  change_one i o Destroy e k later m = absurd k

  module _ (row column : Parameter) where
    change_all : (os later : List Operation) → T (all (changes_cell row column) os) → (j : ℕ) (f : ℕ → ℕ) (m : State) →
        operate_all papers types ids j (os ++ later) (at_cell f (id_at ids row) (id_at ids column) m)
        ≡ operate_all papers types ids (j + length os) later (at_cell (λ v. changed_by_all os (f v)) (id_at ids row) (id_at ids column) m)
    unfolding changed_by_all all changes_cell
    change_all [] later t j f m = rw (add-zero j)
    change_all (o ∷ os) later t j f m =
        let one : T (changes_cell row column o) = search and_left in
        let same_row : o.row ≡ row = same_parameter_lem o.row row (search (and_left, and_right)) in
        let same_column : o.column ≡ column = same_parameter_lem o.column column (search (and_left, and_right)) in
        change_one j o o.code refl (search and_left) (os ++ later) _
        ∙ rw (same_row, same_column, changed_twice f (changed_by o.code o.right) (id_at ids row) (id_at ids column) m)
        (change_all os later (search and_right) (suc j) (λ v. changed_by o.code o.right (f v)) m ∙ rw (suc-add j (length os), add-suc j (length os)))

-- ---- the same parameters are new

not_new : (q : Parameter) (o : Operation) → T (keeps_things o.code) → creates q o ≡ false
not_new q o k = no_create o.code (rw (group_one o.code k) (omega arith)) o refl q

no_new : (row column q : Parameter) (os later : List Operation) → T (all (changes_cell row column) os) → is_new (os ++ later) q ≡ is_new later q
unfolding is_new any all changes_cell
no_new row column q [] later t = refl
no_new row column q (o ∷ os) later t = rw (not_new q o (search and_left)) (no_new row column q os later (search and_right))

module _ (Rel : Bool → ℕ → ℕ → Type 0) where
  new_same : {i j : ℕ} {os os' : List Operation} → OperationsBecome Rel i j os os' → (q : Parameter) → is_new os' q ≡ is_new os q
  unfolding is_new any creates
  new_same end q = refl
  new_same (change {o = o} {becomes = g} {os' = rest} b later) q =
      no_new o.row o.column q g rest b.same_cell ∙ rw (not_new q o b.is_change) (new_same later q)
  new_same (thing b later) q = rw (b.code, b.row, new_same later q)

  module _ (h : Head) where
    -- the second matrix stands to the first as a memory to its papers
    abbrev Second : State → State → Type 0
    Second b a = Related Rel h a b

    abbrev Alike : Outcome State → Outcome State → Type 0
    Alike second first = Agree Second second first

    cell_exists_lem : (p : State) (x y : ℕ) → Cell h p x y → T (cell_exists h p x y)
    unfolding cell_exists
    cell_exists_lem p x y c = rw c.row_is (and_both (is_subject h c.row.type) _ c.subject c.column)

    -- ---- the operations

    related_change : (a b : State) → Related Rel h a b → (f g : ℕ → ℕ) → ((e : Bool) (u v : ℕ) → Rel e u v → Rel e (f u) (g v)) → (x y : ℕ) →
        Related Rel h (at_cell f x y a) (at_cell g x y b)
    unfolding cell_exists
    related_change a b r f g law x y =
        record { same_things = r.same_things; cells = cells_change (λ u v. Rel (cell_exists h a u v)) _ _ f g x y (λ u v. law (cell_exists h a u v)) r.cells }

    exists_other : (a : State) (th : Population) (r : ℕ → ℕ → ℕ) (x u v : ℕ) → ((w : ℕ) → w ≢ x → th.thing w ≡ a.things.thing w) → u ≢ x → v ≢ x →
        cell_exists h (record { things = th; rights = r }) u v ≡ cell_exists h a u v
    unfolding cell_exists
    exists_other a th r x u v same nu nv = rw (same u nu, same v nv)

    -- a thing comes or goes, all others stay, and its cells are empty
    related_thing : (a b : State) → Related Rel h a b → ((e : Bool) → Rel e 0 0) → (x : ℕ) (f : Population → Population) →
        ((th : Population) (w : ℕ) → w ≢ x → (f th).thing w ≡ th.thing w) →
        Related Rel h (record { things = f a.things; rights = emptied x a.rights }) (record { things = f b.things; rights = emptied x b.rights })
    related_thing a b r empty x f same =
        record {
          same_things = ap f r.same_things;
          cells = cells_empty (λ u v. Rel (cell_exists h now u v)) _ _ x (λ u v. empty _)
              (λ u v nu nv. rw (exists_other a (f a.things) _ x u v (same a.things) nu nv) (r.cells u v));
        }
      where
        now : State
        now = record { things = f a.things; rights = emptied x a.rights }

    born_other : (x : ℕ) (t : ThingType) (th : Population) (w : ℕ) → w ≢ x → (born x t th).thing w ≡ th.thing w
    unfolding born reached now_has
    born_other x t th = now_other x _ th.thing

    gone_other : (x : ℕ) (th : Population) (w : ℕ) → w ≢ x → (gone x th).thing w ≡ th.thing w
    unfolding gone now_has
    gone_other x th = now_other x _ th.thing

    module _ (types : List ThingType) (ids : List ℕ) where
      abbrev Going : ℕ → ℕ → List Operation → List Operation → Type 0
      Going i j os os' = (a b : State) → Related Rel h a b → Alike (operate_all papers types ids j os' b) (operate_all papers types ids i os a)

      change_alike : (i j : ℕ) (o : Operation) (g os rest : List Operation) → ChangeBecomes Rel o g → Going (suc i) (j + length g) os rest →
          Going i j (o ∷ os) (g ++ rest)
      change_alike i j o g os rest t law a b r =
          rw (change_one types ids i o o.code refl t.is_change os a, start) (law _ _ (related_change a b r _ _ t.keeps x y))
        where
          x : ℕ
          x = id_at ids o.row

          y : ℕ
          y = id_at ids o.column

          start : operate_all papers types ids j (g ++ rest) b ≡ operate_all papers types ids (j + length g) rest (at_cell (changed_by_all g) x y b)
          start =
              ap (operate_all papers types ids j (g ++ rest)) (unchanged x y b)
              ∙ change_all types ids o.row o.column g rest t.same_cell j (λ v. v) b

      thing_alike : (i : ℕ) (o o' : Operation) (c : Code) → o.code ≡ c → ThingBecomes Rel o o' → (os rest : List Operation) → Going (suc i) (suc i) os rest →
          Going i i (o ∷ os) (o' ∷ rest)
      unfolding operate_all operate act papers
      thing_alike i o o' Enter e t os rest law a b r = absurd (rw e at t.is_thing)
      thing_alike i o o' Delete e t os rest law a b r = absurd (rw e at t.is_thing)
      thing_alike i o o' Create e t os rest law a b r =
          let x = id_at ids o.row in
          let type = type_at types o.row in
          rw (t.code, t.row, e, r.same_things) (then_agree Second Second _ _ _ _
          (unless_agree Second _ _ _ _ refl (λ ok. record { same_things = refl; cells = (related_thing a b r t.empty x (born x type) (born_other x type)).cells }))
          (λ b' a'. law a' b'))
      thing_alike i o o' Destroy e t os rest law a b r =
          let x = id_at ids o.row in
          rw (t.code, t.row, e, r.same_things) (then_agree Second Second _ _ _ _
          (unless_agree Second _ _ _ _ refl (λ ok. record { same_things = refl; cells = (related_thing a b r t.empty x (gone x) (gone_other x)).cells }))
          (λ b' a'. law a' b'))

      operations_alike : {i j : ℕ} {os os' : List Operation} → OperationsBecome Rel i j os os' → Going i j os os'
      unfolding operate_all
      operations_alike end = λ a b r. r
      operations_alike (change {i = i} {j = j} {o = o} {becomes = g} {os = os} {os' = rest} t later) = change_alike i j o g os rest t (operations_alike later)
      operations_alike (thing {i = i} {o = o} {o' = o'} {os = os} {os' = rest} t later) = thing_alike i o o' o.code refl t os rest (operations_alike later)

      -- ---- the tests

      test_alike : (a b : State) (t t' : Test) → TestBecomes Rel t t' →
          Rel true (a.rights (id_at ids t.row) (id_at ids t.column)) (b.rights (id_at ids t.row) (id_at ids t.column)) →
          holds papers b ids t' ≡ holds papers a ids t
      unfolding holds papers verdict
      test_alike a b t t' s k = rw (s.row, s.column) (s.same _ _ k)

      tests_alike : (a b : State) → Related Rel h a b → (os : List Operation) → Fit types ids a os → (i : ℕ) {ts ts' : List Test} →
          Forall₂ (TestBecomes Rel) ts ts' → Each (Tested h types os) ts → tests_fault papers b ids i ts' ≡ tests_fault papers a ids i ts
      unfolding tests_fault
      tests_alike a b r os fit i Forall₂.nil each = refl
      tests_alike a b r os fit i (Forall₂.cons {a = t} s same) (k, each) =
          let x = id_at ids t.row in
          let y = id_at ids t.column in
          let cell = there h types ids a os fit t.right t.row t.column k.cell k.old_row k.old_column in
          let related : Rel true (a.rights x y) (b.rights x y) = rw (is_true (cell_exists h a x y) (cell_exists_lem a x y cell)) at (r.cells x y) in
          ap₂ (λ (p : Bool) (q : Option Refusal). must p (at 14 i) or_else q) (test_alike a b _ _ s related) (tests_alike a b r os fit (suc i) same each)

    -- ---- one request

    carry_alike : (a b : State) → Related Rel h a b → (ids : List ℕ) (c c' : Command) → Formed h c → CommandBecomes Rel c c' →
        Alike (carry_out papers b ids c') (carry_out papers a ids c)
    unfolding carry_out papers
    carry_alike a b r ids c c' form k =
        rw k.same_parameters
        (unless_agree Second _ _ _ _
        (or_same _ _ _ _ refl λ long.
        or_same _ _ _ _ (places_same papers papers b a (λ x. ap (λ (th : Population). th.thing x) r.same_things) _ _ (new_same k.operations) 0 types ids) λ ok.
        tests_alike types ids a b r os (λ q l. (placed_at a os types ids long ok q l).old) 0 k.tests form.tests)
        (λ ok. operations_alike types ids k.operations a b r))
      where
        types : List ThingType
        types = parameters_of c.parameters

        os : List Operation
        os = operations_of c.operations

    command_alike : (a b : State) → Related Rel h a b → (ids : List ℕ) {cs cs' : List Command} → Forall₂ (CommandBecomes Rel) cs cs' →
        ((i : ℕ) (c : Command) → get_elem? cs i ≡ some c → Formed h c) → (i : ℕ) →
        Alike (carry_out_if papers b ids (get_elem? cs' i)) (carry_out_if papers a ids (get_elem? cs i))
    unfolding carry_out_if
    command_alike a b r ids Forall₂.nil form i = refl
    command_alike a b r ids (Forall₂.cons k ks) form zero = carry_alike a b r ids _ _ (form 0 _ refl) k
    command_alike a b r ids (Forall₂.cons k ks) form (suc i) = command_alike a b r ids ks (λ j. form (suc j)) i

  step_alike : (s s' : Scheme) → T (accepted_scheme s) → Translates Rel s s' → (b a : State) (q : Request) → Related Rel s.head a b →
      Alike s.head (step papers s' b q) (step papers s a q)
  unfolding step
  step_alike s s' ok tr b a q r = command_alike s.head a b r q.ids tr (formed s ok) q.command

  pub translation : Translation Rel
  translation s s' a b qs ok tr r =
      let together = run_agree (Second s.head) papers s' s (step_alike s s' ok tr) b a in
      record { same_answers = (together qs r).0; after_each = λ k. (together (take k qs) r).1 }
