-- A converted scheme is accepted: its commands keep their parameters, each test its cell, and the operations double.
-- Assumes nothing.
use Prim.Native.Nat.{ℕ, ◌*◌, ◌≤◌, ◌<◌}
use mathlib.Core.Path.{◌≡◌, refl}
use mathlib.Core.List.{List, [], ◌∷◌, map}
use native.Mathlib.Omega.{arith}
use lib.Dec.{T, ltb, leb, leb→le, le→leb, ltb→lt, lt→ltb}
use lib.ListN.{length, length-map, length-take}
use Rattle.rights.specs.Sets.{partner}
use Rattle.rights.specs.declared.Right.{Right}
use Rattle.rights.specs.declared.ThingType.{ThingType}
use Rattle.rights.specs.declared.Parameter.{Parameter}
use Rattle.laws.specs.Check.{Fault, ◌or_else◌, must, passes, all, between, first_fault}
use Rattle.model.specs.Scheme.{parameters_of, tests_of, operations_of, commands_of, is_subject, keeps_things}
use Rattle.model.specs.Arrays.{command_of, scheme_of}
use Rattle.model.specs.Accepted.{head_fault, type_range, row_fault, test_fault, group, last_group, change_fault, code_fault}
use Rattle.model.specs.Accepted.{operation_fault, operations_fault}
use Rattle.model.specs.Accepted.{accepted_command, accepted_scheme}
use Rattle.model.specs.declared.Test.{Test}
use Rattle.model.specs.declared.Code.{Code}
use Rattle.model.specs.declared.Code.TheVariants.{Enter, Delete, Create, Destroy}
use Rattle.model.specs.declared.Operation.{Operation}
use Rattle.model.specs.declared.Command.{Command}
use Rattle.model.specs.declared.Head.{Head}
use Rattle.model.specs.declared.Scheme.{Scheme}
use Rattle.laws.proofs.Bools.{and_both, and_left, and_right, must_pass, first_pass, then_pass, must_true, both_pass}
use Rattle.model.proofs.Form.{group_one}
use Rattle.model.proofs.Built.{built, parts, scheme_built}
use Rattle.conversion.specs.Conversion.{convert_test, on_partner, convert_as, convert_operations, convert_command, convert_scheme}
use Rattle.conversion.specs.Conversion.{keeps_all, conversion_fault, convertible}
use Rattle.conversion.proofs.Lists.{few_rights, by_cond}
use Rattle.rights.specs.Numberings.{partner_of}

ruleset passed = (first_pass, then_pass, must_pass)

-- ---- checks that pass

first_map : {A B : Type 0} (f : A → Fault) (f' : B → Fault) (c : A → B) → ((x : A) → T (passes (f x)) → T (passes (f' (c x)))) →
    (xs : List A) → T (passes (first_fault f xs)) → T (passes (first_fault f' (map c xs)))
unfolding first_fault
first_map f f' c law [] t = t
first_map f f' c law (x ∷ xs) t =
    both_pass (f' (c x)) _ (law x (first_pass (f x) _ t)) (first_map f f' c law xs (then_pass (f x) _ t))

-- ---- enters and deletes: their form depends on nothing before them but its group

-- what the partner undergoes; of a code that keeps things no other
abbrev other : Code → Code
other Enter = Delete
other Delete = Enter
other Create = Enter
other Destroy = Enter

other_keeps : (c : Code) → T (keeps_things (other c))
other_keeps Enter = tt
other_keeps Delete = tt
other_keeps Create = tt
other_keeps Destroy = tt

as_two : (n : ℕ) (o : Operation) (c : Code) → T (keeps_things c) → convert_as n o c ≡ o ∷ on_partner n (other c) o ∷ []
as_two n o Enter t = refl
as_two n o Delete t = refl
as_two n o Create t = absurd t
as_two n o Destroy t = absurd t

pub length_operations : (n : ℕ) (os : List Operation) → T (keeps_all os) → length (convert_operations n os) ≡ 2 * length os
unfolding convert_operations all
length_operations n [] kept = refl
length_operations n (o ∷ os) kept =
    let later = length_operations n os (search and_right) in
    rw (as_two n o o.code (search and_left)) (omega arith)

module _ (h : Head) (types : List ThingType) (tests : List Test) (before : List Operation) (o : Operation) where
  code_change : (c : Code) → T (keeps_things c) → code_fault h types tests before o c ≡ change_fault h types o
  unfolding code_fault
  code_change Enter t = refl
  code_change Delete t = refl
  code_change Create t = absurd t
  code_change Destroy t = absurd t

  operation_fits : T (keeps_things o.code) → last_group before ≤ 1 → T (passes (change_fault h types o)) →
      T (passes (operation_fault h types tests before o))
  unfolding operation_fault
  operation_fits kept low t =
      let order : T (leb (last_group before) (group o.code)) = rw (group_one o.code kept) (le→leb (last_group before) 1 low) in
      rw (code_change o.code kept) (search (both_pass, must_true))

-- ---- tests and operations where the rights are doubled; k is the number of commands

abbrev doubled : ℕ → Head → Head
doubled k h = record { rights = 2 * h.rights; types = h.types; subjects = record { 0 = h.subjects.0 }; count = k }

-- what a test, an enter or a delete names
abbrev cell_fault : Head → List ThingType → Right → Parameter → Parameter → Fault
cell_fault h types r i j = must (ltb r.0 h.rights) 5 or_else row_fault h types i or_else must (ltb j.0 (length types)) 5

module _ (k : ℕ) (h : Head) (few : h.rights ≤ 32) (types : List ThingType) where
  module _ (r : Right) (i j : Parameter) (t : T (passes (cell_fault h types r i j))) where
    cell_fits : (q : Right) → (r.0 < h.rights → q.0 < 2 * h.rights) → T (passes (cell_fault (doubled k h) types q i j))
    unfolding row_fault is_subject
    cell_fits q law =
        let right = lt→ltb q.0 (2 * h.rights) (law (ltb→lt r.0 h.rights (search passed))) in
        let cell = then_pass (must (ltb r.0 h.rights) 5) _ t in
        search (both_pass, must_true)

    plain_fits : T (passes (cell_fault (doubled k h) types r i j))
    plain_fits = cell_fits r (λ lt. omega arith)

    partner_fits : T (passes (cell_fault (doubled k h) types (partner_of h.rights r) i j))
    unfolding partner
    partner_fits = cell_fits (partner_of h.rights r) (λ lt. omega arith)

  test_fits : (t : Test) → T (passes (test_fault h types t)) → T (passes (test_fault (doubled k h) types (convert_test h.rights t)))
  unfolding test_fault convert_test
  test_fits t p = by_cond (λ u. T (passes (test_fault (doubled k h) types u))) t.present t _
      (λ b. plain_fits t.right t.row t.column p) (partner_fits t.right t.row t.column p)

  operations_fit : (tests tests' : List Test) (before before' os : List Operation) → last_group before' ≤ 1 → T (keeps_all os) →
      T (passes (operations_fault h types tests before os)) →
      T (passes (operations_fault (doubled k h) types tests' before' (convert_operations h.rights os)))
  unfolding operations_fault operation_fault change_fault convert_operations on_partner all
  operations_fit tests tests' before before' [] low kept t = t
  operations_fit tests tests' before before' (o ∷ os) low kept t =
      let here : T (keeps_things o.code) = search and_left in
      let change : T (passes (change_fault h types o)) = rw (code_change h types tests before o o.code here) at (then_pass _ _ (first_pass _ _ t)) in
      let p = on_partner h.rights (other o.code) o in
      let one = operation_fits (doubled k h) types tests' before' o here low (plain_fits o.right o.row o.column change) in
      let two = operation_fits (doubled k h) types tests' (o ∷ before') p (other_keeps o.code) (rw (group_one o.code here) (omega arith))
      (partner_fits o.right o.row o.column change) in
      let later = operations_fit tests tests' (o ∷ before) (p ∷ o ∷ before') os (rw (group_one _ (other_keeps o.code)) (omega arith))
      (search and_right) (then_pass _ _ t) in
      rw (as_two h.rights o o.code here) (both_pass _ _ one (both_pass _ _ two later))

-- ---- a command by its parts

command_accepted : (k : ℕ) (h : Head) → h.rights ≤ 32 → (c : Command) → T (accepted_command h c) → T (keeps_all (operations_of c.operations)) →
    T (leb c.operations.count 16) → T (accepted_command (doubled k h) (convert_command h.rights c))
unfolding convert_command type_range command_of
command_accepted k h few c ok kept short =
    let l = parts h c ok in
    let twice = length_operations h.rights (operations_of c.operations) kept in
    let most = leb→le c.operations.count 16 short in
    let least = length-take c.operations.count c.operations.list in
    built (doubled k h) _ _ _ (record {
      some_parameters = l.some_parameters;
      few_parameters = l.few_parameters;
      types_pass = l.types_pass;
      few_tests = simp length-map l.few_tests;
      tests_pass = first_map _ _ _ (test_fits k h few (parameters_of c.parameters)) (tests_of c.tests) l.tests_pass;
      some_operations = omega (arith, l.some_operations);
      few_operations = omega arith;
      operations_pass =
          operations_fit k h few (parameters_of c.parameters) (tests_of c.tests) _ [] [] (operations_of c.operations) (omega arith) kept l.operations_pass;
    })

-- ---- a scheme

commands_accepted : (k : ℕ) (h : Head) → h.rights ≤ 32 → (cs : List Command) → T (all (accepted_command h) cs) →
    T (all (λ c. keeps_all (operations_of c.operations)) cs) → T (all (λ c. leb c.operations.count 16) cs) →
    T (all (accepted_command (doubled k h)) (map (convert_command h.rights) cs))
unfolding all
commands_accepted k h few [] ok kept short = tt
commands_accepted k h few (c ∷ cs) ok kept short =
    let here = command_accepted k h few c (search and_left) (search and_left) (search and_left) in
    let later = commands_accepted k h few cs (search and_right) (search and_right) (search and_right) in
    search and_both

some_rights : (s : Scheme) → T (accepted_scheme s) → 1 ≤ s.head.rights
unfolding accepted_scheme head_fault between
some_rights s ok = let t : T (passes (head_fault s.head)) = search and_left in leb→le 1 s.head.rights (search (passed, and_left))

pub scheme_accepted : (s : Scheme) → T (accepted_scheme s) → T (convertible s) → T (accepted_scheme (convert_scheme s))
unfolding accepted_scheme convert_scheme convertible conversion_fault scheme_of
scheme_accepted s ok can =
    let some = some_rights s ok in
    let few = few_rights s can in
    scheme_built s ok (2 * s.head.rights) (omega arith) (omega arith) (convert_command s.head.rights)
    (commands_accepted _ s.head few (commands_of s) (search (and_left, and_right)) (search passed) (search passed))
