-- The round trip of a command: what a reading accepts is what the model accepts.
-- Assumes nothing.
use Prim.Native.Nat.{ℕ, ◌≤◌}
use native.Mathlib.Omega.{arith}
use native.Mathlib.Nat.{le_of_suc-le-suc}
use mathlib.Core.Path.{◌≡◌, refl}
use mathlib.Core.List.{List, [], ◌∷◌, ◌++◌, append_assoc}
use lib.Dec.{T}
use lib.ListN.{length, length-append}
use lib.Seq.{take-append_seam}
use Rattle.rights.specs.declared.ThingType.{ThingType}
use Rattle.laws.specs.Check.{Fault, passes, first_fault}
use Rattle.model.proofs.Built.{built_padded}
use Rattle.model.specs.Scheme.{parameters_of, tests_of, operations_of}
use Rattle.model.specs.Accepted.{type_range, test_fault, operation_fault, operations_fault, command_fault, padded_command, accepted_command}
use Rattle.model.specs.declared.Test.{Test}
use Rattle.model.specs.declared.Operation.{Operation}
use Rattle.model.specs.declared.Command.{Command}
use Rattle.model.specs.declared.Head.{Head}
use Rattle.laws.proofs.Bools.{and_left, and_right, and_both, first_pass, then_pass, both_pass}
use Rattle.records.proofs.Trip.{Trip, body, OkAll, length_all, trip_as, trip_then, trip_last, trip_steps}
use Rattle.records.proofs.TripFields.{trip_field}
use Rattle.command_bytes.specs.Read.{command_from, command}
use Rattle.command_bytes.specs.Write.{type_bytes, test_bytes, operation_bytes, command_bytes}
use Rattle.command_bytes.proofs.Trips.{facts, checks, type_trip, test_trip, operation_trip}
use Rattle.command_bytes.proofs.Padded.{Lists, padded_lists}
use Rattle.model.specs.Arrays.{command_of}
use Rattle.records.specs.Bytes.{each_bytes}

-- ---- each passes, and they pass one by one
module _ {A : Type 0} (f : A → Fault) where
  pub each_passes : (xs : List A) → OkAll (λ (u : Unit {0}) a. u) (λ u a. T (passes (f a))) tt xs → T (passes (first_fault f xs))
  unfolding first_fault passes
  each_passes [] o = tt
  each_passes (x ∷ xs) o = both_pass (f x) _ o.0 (each_passes xs o.1)

  pub passes_each : (xs : List A) → T (passes (first_fault f xs)) → OkAll (λ (u : Unit {0}) a. u) (λ u a. T (passes (f a))) tt xs
  unfolding first_fault passes
  passes_each [] t = tt
  passes_each (x ∷ xs) t = (first_pass (f x) _ t, passes_each xs (then_pass (f x) _ t))

module _ (h : Head) (types : List ThingType) (tests : List Test) where
  abbrev pub InTurn : List Operation → List Operation → Type 0
  InTurn = OkAll (λ before o. o ∷ before) (λ before o. T (passes (operation_fault h types tests before o)))

  pub turns_pass : (before os : List Operation) → InTurn before os → T (passes (operations_fault h types tests before os))
  unfolding operations_fault passes
  turns_pass before [] l = tt
  turns_pass before (o ∷ os) l = both_pass (operation_fault h types tests before o) _ l.0 (turns_pass (o ∷ before) os l.1)

  pub pass_turns : (before os : List Operation) → T (passes (operations_fault h types tests before os)) → InTurn before os
  unfolding operations_fault passes
  pass_turns before [] t = tt
  pass_turns before (o ∷ os) t =
      (first_pass (operation_fault h types tests before o) _ t, pass_turns (o ∷ before) os (then_pass (operation_fault h types tests before o) _ t))

-- ---- what is read behind the parameters' types
abbrev pub from_bytes : Command → List ℕ
from_bytes c = c.tests.count ∷ each_bytes test_bytes (tests_of c.tests) ++ c.operations.count ∷ each_bytes operation_bytes (operations_of c.operations)

pub record From (h : Head) (types : List ThingType) (c : Command) : Type 0 where
  pub few_tests : c.tests.count ≤ 16
  pub tests : T (passes (first_fault (test_fault h types) (tests_of c.tests)))
  pub tests_long : length (tests_of c.tests) ≡ c.tests.count
  pub some_operations : 1 ≤ c.operations.count
  pub few_operations : c.operations.count ≤ 32
  pub operations : T (passes (operations_fault h types (tests_of c.tests) [] (operations_of c.operations)))
  pub operations_long : length (operations_of c.operations) ≡ c.operations.count
  pub whole : c ≡ command_of types (tests_of c.tests) (operations_of c.operations)

-- ---- an accepted command, in the form that a reading gives
pub record Accepted (h : Head) (c : Command) : Type 0 where
  pub some_types : 1 ≤ c.parameters.count
  pub few_types : c.parameters.count ≤ 8
  pub types : T (passes (first_fault (type_range h) (parameters_of c.parameters)))
  pub types_long : length (parameters_of c.parameters) ≡ c.parameters.count
  pub from : From h (parameters_of c.parameters) c

module _ (h : Head) (c : Command) where
  pub accepted_back : T (accepted_command h c) → Accepted h c
  unfolding accepted_command command_fault
  accepted_back t =
      let p : T (passes (command_fault h c)) = search and_left in
      let (f, g, k) : (c.parameters.count ≤ 8) × (c.tests.count ≤ 16) × (c.operations.count ≤ 32) = search facts depth 8 in
      let l : Lists c = padded_lists c (search and_right) f g k in
      search facts depth 9

  pub accepted_there : Accepted h c → T (accepted_command h c)
  unfolding accepted_command command_fault
  accepted_there a =
      let p : T (padded_command c) =
      rw a.from.whole (built_padded (parameters_of c.parameters) (tests_of c.tests) (operations_of c.operations) (omega arith) (omega arith) (omega arith)) in
      search (checks, and_both) depth 9

module _ (h : Head) (few : (h.rights ≤ 64) × (h.types ≤ 16)) where
  pub from_trip : (types : List ThingType) → length types ≤ 8 → Trip body (command_from h types) from_bytes (From h types)
  unfolding command_from command_of
  from_trip types eight =
      trip_as
      (trip_then (trip_field 0 17 4) (λ c. c.tests.count) (λ n c l o. rw o.1.1.1 o.0.1) λ n ln.
      trip_then (trip_steps (λ u. test_trip h few types eight) (λ u t. u) n tt) (λ c. tests_of c.tests) (λ tests c l o. rw o.1.1 (take-append_seam tests _)) λ tests ls.
      trip_then (trip_field 1 33 4) (λ c. c.operations.count) (λ m c l o. rw o.1 o.0.1) λ m lm.
      trip_last (trip_steps (operation_trip h few types eight tests) (λ before o. o ∷ before) m []) (command_of types tests) (λ c. operations_of c.operations) λ os lo.
      take-append_seam os _)
      (λ c o. refl)
      (λ c o. record {
        few_tests = omega arith;
        tests = each_passes (test_fault h types) (tests_of c.tests) o.1.0.0;
        tests_long = o.1.0.1;
        some_operations = omega arith;
        few_operations = omega arith;
        operations = turns_pass h types (tests_of c.tests) [] (operations_of c.operations) o.1.1.1.0.0;
        operations_long = o.1.1.1.0.1;
        whole = o.1.1.1.1;
      })
      (λ c o. (
        omega arith,
        (
          (passes_each (test_fault h types) (tests_of c.tests) o.tests, o.tests_long),
          (omega arith, ((pass_turns h types (tests_of c.tests) [] (operations_of c.operations) o.operations, o.operations_long), o.whole)),
        ),
      ))

  pub command_trip : Trip body (command h) command_bytes (λ c. T (accepted_command h c))
  unfolding command command_of command_bytes
  command_trip =
      trip_as
      (trip_then (trip_field 1 9 4) (λ c. c.parameters.count) (λ k c l o. rw o.1.whole o.0.1) λ k lk.
      trip_then (trip_steps (λ u. type_trip h few) (λ u t. u) k tt) (λ c. parameters_of c.parameters) (λ types c l o. rw o.whole (take-append_seam types _)) λ types lt.
      from_trip types (rw lt.1 (le_of_suc-le-suc lk.1)))
      (λ c o. simp append_assoc)
      (λ c o. accepted_there h c (record {
        some_types = omega arith;
        few_types = omega arith;
        types = each_passes (type_range h) (parameters_of c.parameters) o.1.0.0;
        types_long = o.1.0.1;
        from = o.1.1;
      }))
      (λ c o. let a = accepted_back h c o in (omega arith, ((passes_each (type_range h) (parameters_of c.parameters) a.types, a.types_long), a.from)))

pub command_size : (h : Head) (c : Command) → T (accepted_command h c) → length (command_bytes c) ≤ 65535
unfolding command_bytes type_bytes test_bytes operation_bytes
command_size h c t =
    let a = accepted_back h c t in
    let (x, y, z) : List ℕ × List ℕ × List ℕ =
    (each_bytes type_bytes (parameters_of c.parameters), each_bytes test_bytes (tests_of c.tests), each_bytes operation_bytes (operations_of c.operations)) in
    omega (
      arith,
      length-append (x ++ c.tests.count ∷ y) (c.operations.count ∷ z),
      length-append x (c.tests.count ∷ y),
      (length_all type_bytes 1 (λ t. refl) (parameters_of c.parameters)),
      (length_all test_bytes 4 (λ t. refl) (tests_of c.tests)),
      (length_all operation_bytes 4 (λ o. refl) (operations_of c.operations)),
    )
