-- The steps read off an answer are those that were taken: the walk through the tests, and that through the operations, end at the fault's place or take
-- all; and no check before them gives a number that counts.
-- Assumes nothing.
use Prim.Native.Nat.{ℕ, suc, ◌+◌, ◌≤◌}
use native.Mathlib.Omega.{arith}
use native.Mathlib.Nat.{zero-add}
use mathlib.Core.Path.{◌≡◌, refl, ap, ◌∙◌}
use mathlib.Core.Bool.{Bool, true, false, cond}
use mathlib.Core.Option.{Option, none, some}
use mathlib.Core.List.{List, [], ◌∷◌}
use lib.Dec.{T, eqb}
use lib.ListN.{length, get_elem?}
use borrow.Author.Tests.{eq-eqb, eqb-true}
use Rattle.rights.specs.declared.ThingType.{ThingType}
use Rattle.laws.specs.Check.{◌or_else◌, must, passes, all, between}
use Rattle.laws.proofs.Bools.{is_true, and_left, and_right}
use Rattle.model.specs.Scheme.{parameters_of, tests_of, operations_of, commands_of}
use Rattle.model.specs.Request.{View, at, Answer, Outcome, done, refused, answer, unless_fault, and_then, places_fault}
use Rattle.model.specs.Request.{holds, tests_fault, operate, operate_all, carry_out, carry_out_if, step}
use Rattle.model.specs.Answers.{Steps, takes, all_steps, steps_of, steps_to, in_all}
use Rattle.model.specs.Accepted.{accepted_command, accepted_scheme}
use Rattle.model.specs.StepsTaken.{behind, evaluated, tried, taken_of, taken, StepsTaken}
use Rattle.model.specs.declared.Test.{Test}
use Rattle.model.specs.declared.Operation.{Operation}
use Rattle.model.specs.declared.Command.{Command}
use Rattle.model.specs.declared.Refusal.{Refusal}
use Rattle.model.specs.declared.Scheme.{Scheme}
use Rattle.model.proofs.Built.{parts}
use Rattle.model.proofs.Form.{all_get}
use Rattle.model.proofs.Refusals.{tests_stop, tests_go_on, IfRefused, must_give, EveryPlace, places_give, act_gives}

-- ---- a walk from place p over so many, of which n were taken: all, where no fault was met; else those up to the fault's place, that one included,
-- and its number is one of these
unfoldable Walked : (ℕ → Type 0) → ℕ → ℕ → Answer → ℕ → Type 0
Walked Number p many none n = n ≡ many
Walked Number p many (some r) n = Number r.number × (suc r.place ≡ p + n)

walked_on : (Number : ℕ → Type 0) (p many : ℕ) (a : Answer) (n : ℕ) → Walked Number (suc p) many a n → Walked Number p (suc many) a (suc n)
unfolding Walked
walked_on Number p many none n e = ap suc e
walked_on Number p many (some r) n (k, e) = (k, omega (arith, e))

abbrev OfTest : ℕ → Type 0
OfTest k = k ≡ 14

abbrev OfOperation : ℕ → Type 0
OfOperation k = T (between 15 17 k)

module _ {M : Type 0} (view : View M) where
  -- ---- the tests
  module _ (m : M) (ids : List ℕ) where
    tests_walked : (p : ℕ) (ts : List Test) → Walked OfTest p (length ts) (tests_fault view m ids p ts) (evaluated view m ids ts)
    unfolding evaluated
    tests_walked p [] = unfold tests_fault in unfold Walked in refl
    tests_walked p (t ∷ ts) = go (holds view m ids t) refl (tests_walked (suc p) ts)
      where
        go : (b : Bool) → holds view m ids t ≡ b → Walked OfTest (suc p) (length ts) (tests_fault view m ids (suc p) ts) (evaluated view m ids ts) →
            Walked OfTest p (length (t ∷ ts)) (tests_fault view m ids p (t ∷ ts)) (suc (cond (holds view m ids t) (evaluated view m ids ts) 0))
        go true e rest = rw (tests_go_on view m ids p t ts e, e) (walked_on OfTest p (length ts) _ _ rest)
        go false e rest = rw (tests_stop view m ids p t ts e, e) (unfold Walked in (refl, omega arith))

    all_hold : (p : ℕ) (ts : List Test) → all (holds view m ids) ts ≡ passes (tests_fault view m ids p ts)
    unfolding all passes
    all_hold p [] = unfold tests_fault in refl
    all_hold p (t ∷ ts) = go (holds view m ids t) refl (all_hold (suc p) ts)
      where
        go : (b : Bool) → holds view m ids t ≡ b → all (holds view m ids) ts ≡ passes (tests_fault view m ids (suc p) ts) →
            all (holds view m ids) (t ∷ ts) ≡ passes (tests_fault view m ids p (t ∷ ts))
        go true e rest = rw (tests_go_on view m ids p t ts e, e) rest
        go false e rest = rw (tests_stop view m ids p t ts e, e)

    few_evaluated : (ts : List Test) → evaluated view m ids ts ≤ length ts
    unfolding evaluated
    few_evaluated [] = omega arith
    few_evaluated (t ∷ ts) = go (holds view m ids t) (few_evaluated ts)
      where
        go : (b : Bool) → evaluated view m ids ts ≤ length ts → suc (cond b (evaluated view m ids ts) 0) ≤ suc (length ts)
        go true rest = omega (arith, rest)
        go false rest = omega arith

  -- ---- the operations
  module _ (types : List ThingType) (ids : List ℕ) where
    abbrev AtPlace : ℕ → Refusal → Type 0
    AtPlace p r = OfOperation r.number × (r.place ≡ p)

    at_its_place : (p : ℕ) (o : Operation) (m : M) → IfRefused (AtPlace p) (answer (operate view types ids p o m))
    unfolding operate between
    at_its_place p o m = act_gives (AtPlace p) view p (record { may_not = (tt, refl); is_full = (tt, refl); is_gone = (tt, refl) }) o.code _ _ _ _ m

    operations_walked : (p : ℕ) (os : List Operation) (m : M) →
        Walked OfOperation p (length os) (answer (operate_all view types ids p os m)) (tried view types ids p os m)
    unfolding operate_all tried and_then behind answer IfRefused
    operations_walked p [] m = unfold Walked in refl
    operations_walked p (o ∷ os) m = go (operate view types ids p o m) (at_its_place p o m) (operations_walked (suc p) os)
      where
        go : (now : Outcome M) → IfRefused (AtPlace p) (answer now) →
            ((next : M) → Walked OfOperation (suc p) (length os) (answer (operate_all view types ids (suc p) os next)) (tried view types ids (suc p) os next)) →
            Walked OfOperation p (length (o ∷ os)) (answer (and_then now (operate_all view types ids (suc p) os))) (suc (behind now (tried view types ids (suc p) os)))
        go (done next) h rest = walked_on OfOperation p (length os) _ _ (rest next)
        go (refused r) (k, e) rest = unfold Walked in (k, omega (arith, e))

    few_tried : (p : ℕ) (os : List Operation) (m : M) → tried view types ids p os m ≤ length os
    unfolding tried behind
    few_tried p [] m = omega arith
    few_tried p (o ∷ os) m = go (operate view types ids p o m) (few_tried (suc p) os)
      where
        go : (now : Outcome M) → ((next : M) → tried view types ids (suc p) os next ≤ length os) →
            suc (behind now (tried view types ids (suc p) os)) ≤ suc (length os)
        go (done next) rest = omega (arith, rest next)
        go (refused r) rest = omega arith

-- ---- a refusal before the tests counts nothing
abbrev NoSteps : Refusal → Type 0
NoSteps r = (all : Steps) → steps_of all (some r) ≡ takes 0 0

no_steps : EveryPlace NoSteps
unfolding steps_of between
no_steps = record { no_thing = λ all. refl; other_type = λ all. refl; on_hold = λ all. refl }

other_count : NoSteps (at 11 0)
unfolding steps_of between
other_count all = refl

-- ---- what an answer counts, by the two walks
module _ {M : Type 0} (all : Steps) (t o : ℕ) where
  of_operations : t ≡ all.tests → (now : Outcome M) → Walked OfOperation 0 all.operations (answer now) o → steps_of all (answer now) ≡ takes t o
  unfolding steps_of answer Walked
  of_operations e (done next) h = rw (e, h)
  of_operations e (refused r) (k, h) = go (eqb r.number 14) refl
    where
      go : (b : Bool) → eqb r.number 14 ≡ b → steps_of all (some r) ≡ takes t o
      go true b = absurd (unfold between in rw (eqb-true r.number 14 b) at k)
      go false b = rw (b, is_true (between 15 17 r.number) k, ← e) (ap (takes t) (h ∙ zero-add o))

  of_tests : (f : Answer) → Walked OfTest 0 all.tests f t → (now : Outcome M) → Walked OfOperation 0 all.operations (answer now) o →
      steps_of all (answer (unless_fault f now)) ≡ takes t (cond (passes f) o 0)
  unfolding unless_fault passes Walked
  of_tests none e now h = of_operations e now h
  of_tests (some r) (k, e) now h = unfold answer in unfold steps_of in rw (eq-eqb r.number 14 k) (ap (λ (n : ℕ). takes n 0) (e ∙ zero-add t))

  -- f and g are the checks before the tests
  of_all : (f g : Answer) → IfRefused NoSteps f → IfRefused NoSteps g → (h : Answer) → Walked OfTest 0 all.tests h t →
      (now : Outcome M) → Walked OfOperation 0 all.operations (answer now) o →
      steps_of all (answer (unless_fault (f or_else g or_else h) now)) ≡ cond (passes (f or_else g)) (takes t (cond (passes h) o 0)) (takes 0 0)
  unfolding ◌or_else◌ passes IfRefused
  of_all none none x y h e now w = of_tests h e now w
  of_all none (some r) x y h e now w = unfold unless_fault in unfold answer in y all
  of_all (some r) g x y h e now w = unfold unless_fault in unfold answer in x all

-- at most 16 tests, at most 32 operations
abbrev Few : Command → Type 0
Few c = (length (tests_of c.tests) ≤ 16) × (length (operations_of c.operations) ≤ 32)

module _ {M : Type 0} (view : View M) where
  counts_of : (m : M) (ids : List ℕ) (o : Option Command) → steps_of (all_steps o) (answer (carry_out_if view m ids o)) ≡ taken_of view m ids o
  unfolding carry_out_if carry_out all_steps taken_of
  counts_of m ids none = unfold answer in unfold steps_of in unfold between in refl
  counts_of m ids (some c) =
      rw (all_hold view m ids 0 (tests_of c.tests))
      (of_all (all_steps (some c)) _ _ _ _
      (must_give NoSteps (eqb (length ids) (length (parameters_of c.parameters))) (at 11 0) other_count)
      (places_give NoSteps view no_steps m (operations_of c.operations) 0 (parameters_of c.parameters) ids) _
      (tests_walked view m ids 0 (tests_of c.tests)) _
      (operations_walked view (parameters_of c.parameters) ids 0 (operations_of c.operations) m))

  few_of : (m : M) (ids : List ℕ) (o : Option Command) → ((c : Command) → o ≡ some c → Few c) → in_all (taken_of view m ids o) ≤ 48
  unfolding taken_of
  few_of m ids none law = omega arith
  few_of m ids (some c) law =
      go (passes (must (eqb (length ids) (length types)) (at 11 0) or_else places_fault view m os 0 types ids)) (all (holds view m ids) ts) (law c refl)
    where
      types : List ThingType
      types = parameters_of c.parameters

      ts : List Test
      ts = tests_of c.tests

      os : List Operation
      os = operations_of c.operations

      go : (a b : Bool) → Few c → in_all (cond a (takes (evaluated view m ids ts) (cond b (tried view types ids 0 os m) 0)) (takes 0 0)) ≤ 48
      go true true (t, o) = omega (arith, few_evaluated view m ids ts, few_tried view types ids 0 os m)
      go true false (t, o) = omega (arith, few_evaluated view m ids ts)
      go false b few = omega arith

few_accepted : (s : Scheme) → T (accepted_scheme s) → (i : ℕ) (c : Command) → get_elem? (commands_of s) i ≡ some c → Few c
unfolding accepted_scheme
few_accepted s ok i c e =
    let p = parts s.head c (all_get (accepted_command s.head) (commands_of s) (search (and_left, and_right)) i c e) in
    (p.few_tests, p.few_operations)

pub steps_taken : {M : Type 0} (view : View M) → StepsTaken view
unfolding taken steps_to step
steps_taken view = record {
  counts = λ s m q. counts_of view m q.ids (get_elem? (commands_of s) q.command);
  few = λ s m q ok. few_of view m q.ids (get_elem? (commands_of s) q.command) (few_accepted s ok q.command);
}
