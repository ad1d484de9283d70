-- The monotone law, of any scheme that tests no absence: what a poorer matrix carries out, a richer one carries out too, and stays richer.
-- Assumes nothing.
use Prim.Native.Nat.{ℕ, suc}
use mathlib.Core.Path.{◌≡◌, refl, ap}
use mathlib.Core.Bool.{Bool, true, false, not, cond}
use mathlib.Core.Option.{Option, none, some}
use mathlib.Core.List.{List, [], ◌∷◌}
use lib.Dec.{T}
use lib.ListN.{get_elem?}
use Rattle.rights.specs.Sets.{enter_right, delete_right}
use Rattle.rights.specs.declared.Right.{Right}
use Rattle.rights.specs.declared.ThingType.{ThingType}
use Rattle.laws.specs.Check.{◌or_else◌, must, passes, all}
use Rattle.model.specs.Scheme.{parameters_of, tests_of, operations_of, commands_of, id_at}
use Rattle.model.specs.Request.{Outcome, done, refused, unless_fault, and_then, holds, tests_fault, act, operate, operate_all, carry_out, carry_out_if, step}
use Rattle.model.specs.Papers.{Population, State, change_cell, emptied, born, gone, papers}
use Rattle.model.specs.declared.Test.{Test}
use Rattle.model.specs.declared.Code.{Code}
use Rattle.model.specs.declared.Code.TheVariants.{Enter, Delete, Create, Destroy}
use Rattle.model.specs.declared.Operation.{Operation}
use Rattle.model.specs.declared.Command.{Command}
use Rattle.laws.proofs.Bools.{and_left, and_right, must_pass, first_pass, then_pass, must_true, both_pass}
use Rattle.model.proofs.Form.{all_get}
use Rattle.model.proofs.Simulation.{places_same}
use Rattle.model.proofs.Translation.{cells_change, cells_empty}
use Rattle.conversion.specs.Conversion.{tests_presence}
use Rattle.conversion.specs.Demand3.{Within, Follows, Monotone}
use Rattle.conversion.proofs.Mirror.{Sub, sub_enter, sub_delete}
use Rattle.model.specs.declared.Refusal.{Refusal}

-- ---- outcomes

unless_follows : (f g : Option Refusal) (o o' : Outcome State) → (T (passes f) → T (passes g)) → Follows o o' →
    Follows (unless_fault f o) (unless_fault g o')
unfolding unless_fault passes
unless_follows none none o o' e h = h
unless_follows none (some k) o o' e h = absurd (e tt)
unless_follows (some j) g o o' e h = tt

then_follows : (o o' : Outcome State) (f : State → Outcome State) → Follows o o' →
    ((a b : State) → Within a b → Follows (f a) (f b)) → Follows (and_then o f) (and_then o' f)
unfolding and_then
then_follows (done a) (done b) f h law = law a b h
then_follows (done a) (refused k) f h law = absurd h
then_follows (refused j) o' f h law = tt

-- ---- operations

module _ (a b : State) (w : Within a b) where
  changed : (f : ℕ → ℕ) → ((c d : ℕ) → Sub c d → Sub (f c) (f d)) → (x y : ℕ) →
      Within (record { things = a.things; rights = change_cell f x y a.rights })
      (record { things = b.things; rights = change_cell f x y b.rights })
  changed f law x y = record { same_things = w.same_things; entries = cells_change (λ u v. Sub) _ _ f f x y (λ u v. law) w.entries }

  replaced : (x : ℕ) (f : Population → Population) →
      Within (record { things = f a.things; rights = emptied x a.rights }) (record { things = f b.things; rights = emptied x b.rights })
  replaced x f =
      record { same_things = ap f w.same_things; entries = cells_empty (λ u v. Sub) _ _ x (λ u v r e. e) (λ u v nu nv. w.entries u v) }

  act_follows : (p : ℕ) (c : Code) (r : Right) (x y : ℕ) (t : ThingType) → Follows (act papers p c r x y t a) (act papers p c r x y t b)
  unfolding act papers
  act_follows p Enter r x y t = changed (enter_right r.0) (sub_enter r.0) x y
  act_follows p Delete r x y t = changed (delete_right r.0) (sub_delete r.0) x y
  act_follows p Create r x y t = unless_follows _ _ _ _ (λ ok. rw (← w.same_things) ok) (replaced x (born x t))
  act_follows p Destroy r x y t = unless_follows _ _ _ _ (λ ok. rw (← w.same_things) ok) (replaced x (gone x))

operations_follow : (types : List ThingType) (ids : List ℕ) (p : ℕ) (os : List Operation) (a b : State) → Within a b →
    Follows (operate_all papers types ids p os a) (operate_all papers types ids p os b)
unfolding operate_all operate
operations_follow types ids p [] a b w = w
operations_follow types ids p (o ∷ os) a b w = then_follows _ _ _ (act_follows a b w p o.code _ _ _ _) (operations_follow types ids (suc p) os)

-- ---- tests of presence

present_follows : (p c d : Bool) → T p → (T c → T d) → T (cond p c (not c)) → T (cond p d (not d))
present_follows true c d p h = h
present_follows false c d p h = absurd p

test_follows : (a b : State) → Within a b → (ids : List ℕ) (t : Test) → T t.present → T (holds papers a ids t) → T (holds papers b ids t)
unfolding holds papers
test_follows a b w ids t p = present_follows t.present _ _ p (w.entries (id_at ids t.row) (id_at ids t.column) t.right.0)

tests_follow : (a b : State) → Within a b → (ids : List ℕ) (i : ℕ) (ts : List Test) → T (all (λ t. t.present) ts) →
    T (passes (tests_fault papers a ids i ts)) → T (passes (tests_fault papers b ids i ts))
unfolding all tests_fault
tests_follow a b w ids i [] p h = h
tests_follow a b w ids i (t ∷ ts) p h =
    both_pass (must (holds papers b ids t) _) _ (must_true _ _ (test_follows a b w ids t (search and_left) (must_pass _ _ (first_pass _ _ h))))
    (tests_follow a b w ids (suc i) ts (search and_right) (then_pass _ _ h))

-- ---- one request

or_follows : (f g g' : Option Refusal) → (T (passes g) → T (passes g')) → T (passes (f or_else g)) → T (passes (f or_else g'))
unfolding ◌or_else◌ passes
or_follows none g g' h = h
or_follows (some k) g g' h = λ t. t

carry_follows : (a b : State) → Within a b → (ids : List ℕ) (c : Command) → T (all (λ t. t.present) (tests_of c.tests)) →
    Follows (carry_out papers a ids c) (carry_out papers b ids c)
unfolding carry_out papers
carry_follows a b w ids c p =
    unless_follows _ _ _ _
    (or_follows _ _ _ (rw (places_same papers papers a b (λ x. ap (λ (th : Population). th.thing x) w.same_things) (operations_of c.operations) (operations_of c.operations) (λ q. refl) 0 (parameters_of c.parameters) ids)
    (or_follows _ _ _ (tests_follow a b w ids 0 (tests_of c.tests) p))))
    (operations_follow (parameters_of c.parameters) ids 0 (operations_of c.operations) a b w)

pub monotone : Monotone
unfolding step tests_presence carry_out_if
monotone s a b q p w = go (get_elem? (commands_of s) q.command) refl
  where
    go : (o : Option Command) → get_elem? (commands_of s) q.command ≡ o →
        Follows (carry_out_if papers a q.ids o) (carry_out_if papers b q.ids o)
    go none e = tt
    go (some c) e = carry_follows a b w q.ids c (all_get (λ c. all (λ t. t.present) (tests_of c.tests)) (commands_of s) p q.command c e)
