-- The bytes of an accepted head and of an accepted command are bytes, below 256.
-- Assumes nothing.
use Prim.Native.Nat.{ℕ, ◌<◌, ◌≤◌}
use native.Mathlib.Omega.{arith}
use mathlib.Core.Bool.{Bool}
use mathlib.Core.List.{List, [], ◌∷◌, ◌++◌}
use lib.Dec.{T}
use lib.ListN.{length}
use Rattle.rights.specs.declared.ThingType.{ThingType}
use Rattle.laws.specs.Check.{passes}
use Rattle.model.specs.Scheme.{parameters_of, tests_of, operations_of}
use Rattle.model.specs.Accepted.{type_range, test_fault, change_fault, thing_fault, code_fault, operation_fault, accepted_command}
use Rattle.model.specs.declared.Test.{Test}
use Rattle.model.specs.declared.Code.{Code}
use Rattle.model.specs.declared.Code.TheVariants.{Enter, Delete, Create, Destroy}
use Rattle.model.specs.declared.Operation.{Operation}
use Rattle.model.specs.declared.Command.{Command}
use Rattle.model.specs.declared.Head.{Head}
use Rattle.records.specs.Bytes.{little_endian, each_bytes}
use Rattle.records.proofs.Trip.{OkAll}
use Rattle.records.proofs.Below.{Below, below_append}
use Rattle.command_bytes.specs.Write.{head_bytes, type_bytes, test_bytes, operation_bytes, command_bytes}
use Rattle.command_bytes.proofs.Trips.{facts, passed, HeadFits, sense_few, code_few, named_bytes, in_operation, test_named, change_named, thing_named}
use Rattle.command_bytes.proofs.CommandTrip.{passes_each, pass_turns, accepted_back}

-- ---- lists of bytes
below_three : (k m n : ℕ) (x y z : List ℕ) → (k < 256) × (m < 256) × (n < 256) → Below x → Below y → Below z → Below (k ∷ x ++ m ∷ y ++ n ∷ z)
below_three k m n x y z h a b c = (h.0, below_append (x ++ m ∷ y) (n ∷ z) (below_append x (m ∷ y) a (h.1, b)) (h.2, c))

module _ {A S : Type 0} (f : A → List ℕ) (next : S → A → S) {Ok : S → A → Type 0} (each : (s : S) (a : A) → Ok s a → Below (f a)) where
  pub below_each : (s : S) (xs : List A) → OkAll next Ok s xs → Below (each_bytes f xs)
  below_each s [] o = tt
  below_each s (x ∷ xs) o = below_append (f x) (each_bytes f xs) (each s x o.0) (below_each (next s x) xs o.1)

-- ---- the parts
pub head_below : (h : Head) → HeadFits h → Below (head_bytes h)
unfolding head_bytes little_endian
head_below h f = omega arith

module _ (h : Head) (few : (h.rights ≤ 64) × (h.types ≤ 16)) where
  type_below : (t : ThingType) → T (passes (type_range h t)) → Below (type_bytes t)
  unfolding type_bytes type_range
  type_below t p = let l : t.0 < h.types = search facts in omega arith

  module _ (types : List ThingType) (eight : length types ≤ 8) where
    test_below : (t : Test) → T (passes (test_fault h types t)) → Below (test_bytes t)
    unfolding test_bytes
    test_below t p = let l = sense_few t.present in let n = test_named h types t p in omega arith

    change_below : (o : Operation) → T (passes (change_fault h types o)) → Below (named_bytes (in_operation o))
    change_below o p = let n = change_named h types o p in omega arith

    thing_below : (fits : Bool) (o : Operation) → T (passes (thing_fault types fits o)) → Below (named_bytes (in_operation o))
    thing_below fits o p = let n = thing_named types (λ i. fits) o p in omega arith

    module _ (tests : List Test) (before : List Operation) (o : Operation) where
      named_below : (c : Code) → T (passes (code_fault h types tests before o c)) → Below (named_bytes (in_operation o))
      unfolding code_fault
      named_below Enter p = change_below o p
      named_below Delete p = change_below o p
      named_below Create p = thing_below _ o p
      named_below Destroy p = thing_below _ o p

      operation_below : T (passes (operation_fault h types tests before o)) → Below (operation_bytes o)
      unfolding operation_bytes operation_fault
      operation_below p = let c = code_few o.code in (omega arith, named_below o.code (search passed))

  pub command_below : (c : Command) → T (accepted_command h c) → Below (command_bytes c)
  unfolding command_bytes
  command_below c t =
      let a = accepted_back h c t in
      let (ts, us, os) : List ThingType × List Test × List Operation = (parameters_of c.parameters, tests_of c.tests, operations_of c.operations) in
      below_three c.parameters.count c.tests.count c.operations.count
      (each_bytes type_bytes ts) (each_bytes test_bytes us) (each_bytes operation_bytes os) (omega arith)
      (below_each type_bytes (λ u t. u) (λ (u : Unit {0}). type_below) tt ts (passes_each (type_range h) ts a.types))
      (below_each test_bytes (λ u t. u) (λ (u : Unit {0}). test_below ts (omega arith)) tt us (passes_each (test_fault h ts) us a.from.tests))
      (below_each operation_bytes (λ before o. o ∷ before) (operation_below ts (omega arith) us) [] os (pass_turns h ts us [] os a.from.operations))
