-- A command and a scheme built from lists are accepted if their parts pass: what whoever makes a scheme has to show, and no more.
-- Assumes nothing.
use Prim.Native.Nat.{ℕ, ◌≤◌}
use mathlib.Core.Path.{◌≡◌}
use mathlib.Core.List.{List, [], map}
use native.Mathlib.Omega.{arith}
use lib.Dec.{T, leb→le, le→leb}
use lib.ListN.{length, length-map}
use lib.Seq.{take-append_seam}
use Rattle.rights.specs.Numberings.{zero_type}
use Rattle.rights.specs.declared.ThingType.{ThingType}
use Rattle.laws.specs.Check.{passes, all, between, first_fault}
use Rattle.model.specs.Scheme.{parameters_of, tests_of, operations_of, commands_of, no_type, no_test, no_operation}
use Rattle.model.specs.Arrays.{command_of, no_command, scheme_of, scheme_from}
use Rattle.model.specs.Accepted.{head_fault, type_range, test_fault, operations_fault, command_fault}
use Rattle.model.specs.Accepted.{zero_test, zero_operation, padded_command, zero_command, accepted_command, accepted_scheme}
use Rattle.model.specs.declared.Test.{Test}
use Rattle.model.specs.declared.Operation.{Operation}
use Rattle.model.specs.declared.Command.{Command}
use Rattle.model.specs.declared.Head.{Head}
use Rattle.model.specs.declared.Scheme.{Scheme}
use Rattle.laws.proofs.Bools.{and_both, and_left, and_right, must_pass, first_pass, then_pass, must_true, both_pass, between_is}
use Rattle.laws.proofs.Padded.{padded_list, used}

ruleset passed = (first_pass, then_pass, must_pass)

-- ---- a command

pub record Parts (h : Head) (types : List ThingType) (tests : List Test) (operations : List Operation) : Type 0 where
  pub some_parameters : 1 ≤ length types
  pub few_parameters : length types ≤ 8
  pub types_pass : T (passes (first_fault (type_range h) types))
  pub few_tests : length tests ≤ 16
  pub tests_pass : T (passes (first_fault (test_fault h types) tests))
  pub some_operations : 1 ≤ length operations
  pub few_operations : length operations ≤ 32
  pub operations_pass : T (passes (operations_fault h types tests [] operations))

pub built_padded : (types : List ThingType) (tests : List Test) (operations : List Operation) → length types ≤ 8 → length tests ≤ 16 →
    length operations ≤ 32 → T (padded_command (command_of types tests operations))
unfolding padded_command command_of zero_test zero_operation
built_padded types tests operations h l m =
    let a = padded_list zero_type 8 types no_type tt h in
    let b = padded_list zero_test 16 tests no_test tt l in
    let c = padded_list zero_operation 32 operations no_operation tt m in
    search and_both

pub zero_built : T (zero_command no_command)
unfolding zero_command no_command command_of
zero_built = built_padded [] [] [] (omega arith) (omega arith) (omega arith)

-- both ways: from parts that pass to a command, and from an accepted command to its parts
pub built : (h : Head) (types : List ThingType) (tests : List Test) (operations : List Operation) → Parts h types tests operations →
    T (accepted_command h (command_of types tests operations))
unfolding accepted_command command_fault command_of
built h types tests operations l =
    let a = between_is 1 8 (length types) l.some_parameters l.few_parameters in
    let b = le→leb (length tests) 16 l.few_tests in
    let c = between_is 1 32 (length operations) l.some_operations l.few_operations in
    let d = built_padded types tests operations l.few_parameters l.few_tests l.few_operations in
    rw (take-append_seam types _, take-append_seam tests _, take-append_seam operations _) (search (and_both, both_pass, must_true) depth 9)

pub parts : (h : Head) (c : Command) → T (accepted_command h c) → Parts h (parameters_of c.parameters) (tests_of c.tests) (operations_of c.operations)
unfolding accepted_command command_fault padded_command between
parts h c ok =
    let t : T (passes (command_fault h c)) = search and_left in
    let few = leb→le c.parameters.count 8 (search (passed, and_right)) in
    let fewer = leb→le c.tests.count 16 (search passed) in
    let some = leb→le 1 c.operations.count (search (passed, and_left) depth 8) in
    let most = leb→le c.operations.count 32 (search (passed, and_right) depth 8) in
    let types = used zero_type 8 c.parameters.count c.parameters.types (search (and_left, and_right)) few in
    let tests = used zero_test 16 c.tests.count c.tests.list (search (and_left, and_right)) fewer in
    let operations = used zero_operation 32 c.operations.count c.operations.list (search (and_left, and_right)) most in
    record {
      some_parameters = rw types (leb→le 1 _ (search (passed, and_left)));
      few_parameters = omega arith;
      types_pass = search passed;
      few_tests = omega arith;
      tests_pass = search passed;
      some_operations = omega arith;
      few_operations = omega arith;
      operations_pass = search passed depth 8;
    }

-- ---- a scheme made from an accepted one command by command, with n rights and the same types

module _ (s : Scheme) (ok : T (accepted_scheme s)) (n : ℕ) (some : 1 ≤ n) (few : n ≤ 64) (f : Command → Command) where
  abbrev made : Scheme
  made = scheme_from n s.head.types s.head.subjects.0 (map f (commands_of s))

  head_passes : T (passes (head_fault s.head))
  unfolding accepted_scheme
  head_passes = search and_left

  few_commands : s.head.count ≤ 32
  unfolding head_fault between
  few_commands = let t = head_passes in leb→le _ 32 (search (passed, and_right))

  many_commands : length (map f (commands_of s)) ≡ s.head.count
  unfolding accepted_scheme
  many_commands = simp length-map (used zero_command 32 s.head.count s.commands (search and_right) few_commands)

  head_made : T (passes (head_fault made.head))
  unfolding head_fault between scheme_of
  head_made =
      let t = head_passes in
      let rights = between_is 1 64 n some few in
      rw many_commands (search (both_pass, must_true, passed) depth 8)

  pub scheme_built : T (all (accepted_command made.head) (map f (commands_of s))) → T (accepted_scheme made)
  unfolding accepted_scheme scheme_of
  scheme_built each =
      let head = head_made in
      let pad = padded_list zero_command 32 (map f (commands_of s)) no_command zero_built (omega (arith, many_commands, few_commands)) in
      rw take-append_seam (search and_both)
