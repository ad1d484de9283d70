-- An array with zeros behind its used places is a list followed by zeros: once for all element types, then of a command and of a scheme's commands.
-- Assumes nothing.
use Prim.Native.Nat.{ℕ, ◌≤◌}
use native.Mathlib.Omega.{arith}
use mathlib.Core.Path.{◌≡◌, refl, ◌∙◌}
use mathlib.Core.Bool.{Bool, false, not}
use lib.Dec.{T, eqb→eq}
use lib.ListN.{length}
use Rattle.model.proofs.Built.{zero_built}
use Rattle.model.specs.Scheme.{parameters_of, tests_of, operations_of, no_type, no_test, no_operation}
use Rattle.model.specs.Accepted.{zero_test, is_enter, zero_operation, padded_command, zero_command}
use Rattle.model.specs.declared.Test.{Test}
use Rattle.model.specs.declared.Code.{Code}
use Rattle.model.specs.declared.Code.TheVariants.{Enter, Delete, Create, Destroy}
use Rattle.model.specs.declared.Operation.{Operation}
use Rattle.model.specs.declared.Command.{Command}
use Rattle.laws.proofs.Bools.{is_false, and_left, and_right, not_both}
use Rattle.laws.proofs.Padded.{Zero, unpad}
use Rattle.rights.specs.Numberings.{zero_type}
use Rattle.model.specs.Arrays.{command_of, no_command}

-- ---- the zeros of the four arrays
pub no_type_lem : Zero zero_type no_type
no_type_lem = record { is = tt; only = λ t o. let e : t.0 ≡ 0 = eqb→eq t.0 0 o in rw (← e) }

is_off : (b : Bool) → T (not b) → b ≡ false
is_off b t = is_false b (λ u. not_both b u t)

is_enter_lem : (c : Code) → T (is_enter c) → c ≡ Enter
is_enter_lem Enter t = refl
is_enter_lem Delete t = absurd t
is_enter_lem Create t = absurd t
is_enter_lem Destroy t = absurd t

ruleset zeros = (and_left, and_right, eqb→eq, is_off, is_enter_lem)

blank_test : (p : Bool) (r i j : ℕ) → p ≡ false → r ≡ 0 → i ≡ 0 → j ≡ 0 →
    ◌≡◌ {A = Test} (record { present = p; right = record { 0 = r }; row = record { 0 = i }; column = record { 0 = j } }) no_test
blank_test p r i j e f g k = rw (e, f, g, k)

blank_operation : (c : Code) (r i j : ℕ) → c ≡ Enter → r ≡ 0 → i ≡ 0 → j ≡ 0 →
    ◌≡◌ {A = Operation} (record { code = c; right = record { 0 = r }; row = record { 0 = i }; column = record { 0 = j } }) no_operation
blank_operation c r i j e f g k = rw (e, f, g, k)

pub no_test_lem : Zero zero_test no_test
unfolding zero_test
no_test_lem = record {
  is = tt;
  only = λ t o. blank_test t.present t.right.0 t.row.0 t.column.0 (search zeros) (search zeros) (search zeros) (search zeros);
}

pub no_operation_lem : Zero zero_operation no_operation
unfolding zero_operation
no_operation_lem = record {
  is = tt;
  only = λ o z. blank_operation o.code o.right.0 o.row.0 o.column.0 (search zeros) (search zeros) (search zeros) (search zeros);
}

-- ---- a command
-- the lists that its arrays hold are as long as its counts say, and with zeros behind they are all of it
pub record Lists (c : Command) : Type 0 where
  pub parameters : length (parameters_of c.parameters) ≡ c.parameters.count
  pub tests : length (tests_of c.tests) ≡ c.tests.count
  pub operations : length (operations_of c.operations) ≡ c.operations.count
  pub whole : c ≡ command_of (parameters_of c.parameters) (tests_of c.tests) (operations_of c.operations)

pub padded_lists : (c : Command) → T (padded_command c) → c.parameters.count ≤ 8 → c.tests.count ≤ 16 → c.operations.count ≤ 32 → Lists c
unfolding padded_command command_of
padded_lists c t h l m =
    let a = unpad no_type_lem 8 c.parameters.count c.parameters.types (search (and_left, and_right)) h in
    let b = unpad no_test_lem 16 c.tests.count c.tests.list (search (and_left, and_right)) l in
    let d = unpad no_operation_lem 32 c.operations.count c.operations.list (search (and_left, and_right)) m in
    record { parameters = a.0; tests = b.0; operations = d.0; whole = rw (← a.1, ← b.1, ← d.1, a.0, b.0, d.0) }

pub no_command_lem : Zero zero_command no_command
unfolding zero_command no_command command_of
no_command_lem =
    record {
      is = zero_built;
      only = λ c t.
          let e : c.parameters.count ≡ 0 = search zeros in
          let f : c.tests.count ≡ 0 = search zeros in
          let g : c.operations.count ≡ 0 = search zeros in
          (padded_lists c (search zeros) (omega arith) (omega arith) (omega arith)).whole ∙ rw (e, f, g);
    }
