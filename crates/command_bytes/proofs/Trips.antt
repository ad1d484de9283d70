-- The round trips of a head, a type, a test and an operation: what is read from bytes is what passes the model's check of it.
-- Assumes nothing.
use Prim.Native.Nat.{ℕ, zero, suc, ◌^◌, ◌<◌, ◌≤◌}
use native.Mathlib.Omega.{arith}
use native.Mathlib.Nat.{pow-le-pow_right}
use mathlib.Core.Path.{◌≡◌, refl}
use mathlib.Core.Bool.{Bool, true, false, cond}
use mathlib.Core.List.{List, [], ◌∷◌}
use lib.Dec.{T, eqb, leb, eqb→eq, leb→le, le→leb, ltb→lt, lt→ltb}
use lib.ListN.{length}
use Rattle.rights.specs.Sets.{within}
use Rattle.rights.specs.declared.ThingType.{ThingType}
use Rattle.rights.specs.declared.Parameter.{Parameter}
use Rattle.rights.specs.Numberings.{right, type, parameter, right_byte, parameter_byte}
use Rattle.laws.specs.Check.{passes, between}
use Rattle.model.specs.Scheme.{is_subject, type_at, creatable, destroyable}
use Rattle.model.specs.Accepted.{head_fault, type_range, row_fault, test_fault, group, last_group, change_fault, thing_fault, code_fault, operation_fault}
use Rattle.model.specs.declared.Test.{Test}
use Rattle.model.specs.declared.Code.{Code}
use Rattle.model.specs.declared.Code.TheVariants.{Enter, Delete, Create, Destroy}
use Rattle.model.specs.declared.Operation.{Operation}
use Rattle.model.specs.declared.Head.{Head}
use Rattle.laws.proofs.Bools.{and_left, and_right, must_pass, first_pass, then_pass, must_true, both_pass, between_is}
use Rattle.records.proofs.Trip.{Trip, body, trip_as, trip_check, trip_then, trip_last}
use Rattle.records.proofs.TripFields.{trip_number, trip_field}
use Rattle.command_bytes.specs.Read.{head, Named, named, thing, test_of, test, code_of, operation_of, by_code, operation, type_in}
use Rattle.command_bytes.specs.Write.{head_bytes, type_bytes, test_bytes, code_number, operation_bytes}
use Rattle.command_bytes.specs.Inner.Parts.{three}

-- ---- checks that pass, from what they check
pub between_low : (low high x : ℕ) → T (between low high x) → low ≤ x
unfolding between
between_low low high x t = leb→le low x (and_left (leb low x) (leb x high) t)

pub between_high : (low high x : ℕ) → T (between low high x) → x ≤ high
unfolding between
between_high low high x t = leb→le x high (and_right (leb low x) (leb x high) t)

pub ruleset passed = (first_pass, then_pass, must_pass)

pub ruleset facts = (first_pass, then_pass, must_pass, between_low, between_high, leb→le, ltb→lt, eqb→eq)

pub ruleset checks = (both_pass, must_true, between_is, le→leb, lt→ltb)

-- ---- the head
pub few_types : (m set : ℕ) → m ≤ 16 → T (within m set) → set < 256 ^ 2
unfolding within
few_types m set h t = let p : 2 ^ m ≤ 2 ^ 16 = pow-le-pow_right {n = 2} (omega arith) h in omega (arith, ltb→lt set (2 ^ m) t)

pub record HeadFits (h : Head) : Type 0 where
  pub rights : (1 ≤ h.rights) × (h.rights ≤ 64)
  pub types : (1 ≤ h.types) × (h.types ≤ 16)
  pub subjects : T (within h.types h.subjects.0)
  pub count : (1 ≤ h.count) × (h.count ≤ 32)

pub head_fits : (h : Head) → T (passes (head_fault h)) → HeadFits h
unfolding head_fault
head_fits h t = search facts

pub head_few : (h : Head) → T (passes (head_fault h)) → (h.rights ≤ 64) × (h.types ≤ 16)
head_few h t = let f = head_fits h t in omega arith

pub fits_head : (h : Head) → HeadFits h → T (passes (head_fault h))
unfolding head_fault
fits_head h f = search checks depth 8

pub head_trip : Trip body head head_bytes (λ h. T (passes (head_fault h)))
unfolding head head_bytes head_fault
head_trip =
    trip_as
    (trip_then (trip_field 1 65 4) (λ h. h.rights) (λ n h l o. cc) λ n ln.
    trip_then (trip_field 1 17 4) (λ h. h.types) (λ m h l o. cc) λ m lm.
    trip_then (trip_number 2) (λ h. h.subjects.0) (λ s h l o. rw o.1.1) λ s ls.
    trip_check (within m s) 6 λ t.
    trip_last (trip_field 1 33 4) (λ count. record { rights = n; types = m; subjects = record { 0 = s }; count = count }) (λ h. h.count) λ c h. refl)
    (λ h o. refl)
    (λ h o. fits_head h (record { rights = omega arith; types = omega arith; subjects = search; count = omega arith }))
    (λ h o. let f = head_fits h o in let s = few_types h.types h.subjects.0 f.types.1 f.subjects in search arith)

-- ---- a right, a row that fits and a column
pub record InRange (n k m : ℕ) (fits : Parameter → Bool) (a : Named) : Type 0 where
  pub right : a.right.0 < n
  pub row : a.row.0 < k
  pub fit : T (fits a.row)
  pub column : a.column.0 < m

abbrev pub named_bytes : Named → List ℕ
named_bytes a = right_byte a.right ∷ parameter_byte a.row ∷ parameter_byte a.column ∷ []

three_trip : (n k m x : ℕ) (fits : Parameter → Bool) → n ≤ 256 → k ≤ 256 → m ≤ 256 → Trip body (three n k m x fits) named_bytes (InRange n k m fits)
three_trip n k m x fits ln lk lm =
    trip_as
    (trip_then (trip_field 0 n x) (λ a. a.right.0) (λ r a l o. rw o.1.1.1) λ r lr.
    trip_then (trip_field 0 k 5) (λ a. a.row.0) (λ i a l o. rw o.1.1) λ i li.
    trip_check (fits (parameter i)) 6 λ fit.
    trip_last (trip_field 0 m x) (λ j. record { right = right r; row = parameter i; column = parameter j }) (λ a. a.column.0) λ j lj. refl)
    (λ a o. refl)
    (λ a o. search)
    (λ a o. search arith)

-- ---- the parts of a command of a head that fits
pub sense_of : (s : ℕ) → s < 2 → cond (eqb s 1) 1 0 ≡ s
sense_of zero h = refl
sense_of (suc zero) h = refl
sense_of (suc (suc s)) h = absurd (omega arith)

pub of_sense : (b : Bool) → eqb (cond b 1 0) 1 ≡ b
of_sense true = refl
of_sense false = refl

pub sense_few : (b : Bool) → cond b 1 0 < 2
sense_few true = omega arith
sense_few false = omega arith

pub code_of_lem : (n : ℕ) → 1 ≤ n → n < 5 → code_number (code_of n) ≡ n
unfolding code_of
code_of_lem zero l h = absurd (omega arith)
code_of_lem (suc zero) l h = refl
code_of_lem (suc (suc zero)) l h = refl
code_of_lem (suc (suc (suc zero))) l h = refl
code_of_lem (suc (suc (suc (suc zero)))) l h = refl
code_of_lem (suc (suc (suc (suc (suc n))))) l h = absurd (omega arith)

pub of_code : (c : Code) → code_of (code_number c) ≡ c
unfolding code_of
of_code Enter = refl
of_code Delete = refl
of_code Create = refl
of_code Destroy = refl

pub code_few : (c : Code) → (1 ≤ code_number c) × (code_number c < 5)
code_few Enter = omega arith
code_few Delete = omega arith
code_few Create = omega arith
code_few Destroy = omega arith

pub below_one : (n : ℕ) → n < 1 → T (eqb n 0)
below_one zero h = tt
below_one (suc n) h = absurd (omega arith)

pub one_above : (n : ℕ) → T (eqb n 0) → n < 1
one_above n t = omega (arith, eqb→eq n 0 t)

-- the row of a test, an enter or a delete is of a subject type
abbrev subject : Head → List ThingType → Parameter → Bool
subject h types row = is_subject h (type_at types row)

abbrev pub in_test : Test → Named
in_test t = record { right = t.right; row = t.row; column = t.column }

abbrev pub in_operation : Operation → Named
in_operation o = record { right = o.right; row = o.row; column = o.column }

module _ (h : Head) (types : List ThingType) where
  pub test_named : (t : Test) → T (passes (test_fault h types t)) → InRange h.rights (length types) (length types) (subject h types) (in_test t)
  unfolding test_fault row_fault
  test_named t p = search facts depth 8

  pub change_named : (o : Operation) → T (passes (change_fault h types o)) → InRange h.rights (length types) (length types) (subject h types) (in_operation o)
  unfolding change_fault row_fault
  change_named o p = search facts depth 8

pub thing_named : (types : List ThingType) (fits : Parameter → Bool) (o : Operation) → T (passes (thing_fault types (fits o.row) o)) →
    InRange 1 (length types) 1 fits (in_operation o)
unfolding thing_fault
thing_named types fits o p = search (facts, one_above) depth 8

module _ (h : Head) (few : (h.rights ≤ 64) × (h.types ≤ 16)) where
  pub type_trip : Trip body (type_in h) type_bytes (λ t. T (passes (type_range h t)))
  unfolding type_in type_bytes type_range
  type_trip =
      trip_as (trip_last (trip_field 0 h.types 5) (λ t. type t) (λ t. t.0) λ t l. refl)
      (λ t o. refl)
      (λ t o. search checks)
      (λ t o. let l : t.0 < h.types = search facts in (omega arith, refl))

  module _ (types : List ThingType) (eight : length types ≤ 8) where
    named_trip : Trip body (named h types) named_bytes (InRange h.rights (length types) (length types) (subject h types))
    unfolding named
    named_trip = three_trip h.rights (length types) (length types) 5 (subject h types) (omega arith) (omega arith) (omega arith)

    thing_trip : (fits : Parameter → Bool) → Trip body (thing types fits) named_bytes (InRange 1 (length types) 1 fits)
    unfolding thing
    thing_trip fits = three_trip 1 (length types) 1 6 fits (omega arith) (omega arith) (omega arith)

    pub test_trip : Trip body (test h types) test_bytes (λ t. T (passes (test_fault h types t)))
    unfolding test test_bytes test_fault row_fault
    test_trip =
        trip_as
        (trip_then (trip_field 0 2 6) (λ t. cond t.present 1 0) (λ s t l o. rw o.1 (sense_of s l.1)) λ s ls.
        trip_last named_trip (test_of s) in_test λ a o. refl)
        (λ t o. refl)
        (λ t o. search checks depth 8)
        (λ t o. let l = sense_few t.present in (omega arith, (test_named h types t o, rw (of_sense t.present))))

    module _ (tests : List Test) (before : List Operation) where
      -- what the code's reader takes, and what the model's check of an operation of that code passes
      abbrev InRangeBy : Code → Named → Type 0
      InRangeBy Enter = InRange h.rights (length types) (length types) (subject h types)
      InRangeBy Delete = InRange h.rights (length types) (length types) (subject h types)
      InRangeBy Create = InRange 1 (length types) 1 (creatable tests before)
      InRangeBy Destroy = InRange 1 (length types) 1 (destroyable before)

      by_code_trip : (code : Code) → Trip body (by_code h types tests before code) named_bytes (InRangeBy code)
      by_code_trip Enter = named_trip
      by_code_trip Delete = named_trip
      by_code_trip Create = thing_trip (creatable tests before)
      by_code_trip Destroy = thing_trip (destroyable before)

      passes_by : (o : Operation) (code : Code) → InRangeBy code (in_operation o) → T (passes (code_fault h types tests before o code))
      unfolding code_fault change_fault thing_fault row_fault
      passes_by o Enter r = search checks depth 8
      passes_by o Delete r = search checks depth 8
      passes_by o Create r = search (checks, below_one) depth 8
      passes_by o Destroy r = search (checks, below_one) depth 8

      by_passes : (o : Operation) (code : Code) → T (passes (code_fault h types tests before o code)) → InRangeBy code (in_operation o)
      unfolding code_fault
      by_passes o Enter p = change_named h types o p
      by_passes o Delete p = change_named h types o p
      by_passes o Create p = thing_named types (creatable tests before) o p
      by_passes o Destroy p = thing_named types (destroyable before) o p

      pub operation_trip : Trip body (operation h types tests before) operation_bytes (λ o. T (passes (operation_fault h types tests before o)))
      unfolding operation operation_bytes operation_fault
      operation_trip =
          trip_as
          (trip_then (trip_field 1 5 6) (λ o. code_number o.code) (λ n o l r. rw r.1.1 (code_of_lem n l.0 l.1)) λ n ln.
          trip_check (leb (last_group before) (group (code_of n))) 6 λ next.
          trip_last (by_code_trip (code_of n)) (operation_of (code_of n)) in_operation λ a r. refl)
          (λ o l. refl)
          (λ o l. let r = rw of_code at l.1 in let p = passes_by o o.code r.1.0 in search checks)
          (λ o l. let c = code_few o.code in (omega arith, rw of_code (search (facts, by_passes))))
