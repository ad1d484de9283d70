-- The readers of a head, a test and an operation as the functions of `head` and `fields` follow them: line by line, each from its own position on.
-- Assumes nothing.
use Prim.Native.Nat.{ℕ, ◌+◌, ◌<◌, ◌≤◌}
use native.Mathlib.Decide.{dec_lt}
use native.Mathlib.Omega.{arith}
use mathlib.Core.Bool.{Bool, cond}
use mathlib.Core.List.{List}
use mathlib.Core.Path.{◌≡◌, refl, sym}
use lib.Dec.{leb, ltb}
use lib.ListN.{length, drop}
use Rattle.std.specs.Prelude.{Result, Ok, Err}
use Rattle.faults.specs.Numbers.{fault_of}
use Rattle.faults.specs.declared.Fault.{Fault}
use Rattle.faults.specs.declared.Fault.TheVariants.{Form, BodyEnd}
use Rattle.rights.specs.Sets.{within}
use Rattle.rights.specs.Numberings.{right, type, parameter}
use Rattle.rights.specs.declared.ThingType.{ThingType}
use Rattle.rights.specs.declared.Parameter.{Parameter}
use Rattle.model.specs.Accepted.{group, last_group}
use Rattle.model.specs.declared.Test.{Test}
use Rattle.model.specs.declared.Operation.{Operation}
use Rattle.model.specs.declared.Head.{Head}
use Rattle.records.specs.Reading.{Read, bind, ◌>>◌, done, field, number, end, whole}
use Rattle.records.specs.Results.{value_of}
use Rattle.records.proofs.FieldLaws.{field_end, field_between}
use Rattle.records.proofs.Lines.{on, line, field_line, number_line, check_line, end_line}
use Rattle.command_bytes.specs.Read.{head, named, test_of, test, code_of, operation_of, by_code, operation, type_in}
use Rattle.command_bytes.specs.Inner.Parts.{three}

-- a field that was read lies in the body, so that there is a position behind it
pub field_within : (b : List ℕ) (i low limit k : ℕ) {v : ℕ} → Ok v ≡ value_of (field low limit k (drop i b)) → i < length b
field_within b i low limit k {v} e = by (dec_lt i (length b))
  where
    by : Dec (i < length b) → i < length b
    by (yes l) = l
    by (no n) = let f = field_end b i low limit k (omega (arith, n)) in absurd (cc)

pub field_range : (b : List ℕ) (low limit k : ℕ) {v : ℕ} → Ok v ≡ value_of (field low limit k b) → (low ≤ v) × (v < limit)
field_range b low limit k {v} e = field_between b low limit k v (sym e)

module _ (b : List ℕ) (i : ℕ) where
  pub type_lines : (h : Head) → value_of (type_in h (drop i b)) ≡ on (λ t. Ok (type t)) Err (value_of (field 0 h.types 5 (drop i b)))
  unfolding type_in
  type_lines h = field_line value_of Err (λ k. refl) b i (i + 1) _ _ (λ t. refl) 0 h.types 5 refl

  pub three_lines : (n k m x : ℕ) (fits : Parameter → Bool) → value_of (three n k m x fits (drop i b)) ≡
      on
      (λ r. on
      (λ row. cond (fits (parameter row))
      (on (λ column. Ok (record { right = right r; row = parameter row; column = parameter column })) Err (value_of (field 0 m x (drop (i + 2) b))))
      (Err Form))
      Err (value_of (field 0 k 5 (drop (i + 1) b))))
      Err (value_of (field 0 n x (drop i b)))
  unfolding fault_of
  three_lines n k m x fits =
      field_line value_of Err (λ k. refl) b i (i + 1) _ _
      (λ r. field_line value_of Err (λ k. refl) b (i + 1) (i + 2) _ _
      (λ row. check_line value_of Err (λ k. refl) (fits (parameter row)) 6 (drop (i + 2) b) _ _
      (field_line value_of Err (λ k. refl) b (i + 2) (i + 3) _ _ (λ column. refl) 0 m x (omega arith)))
      0 k 5 (omega arith))
      0 n x refl

  -- ---- a test, and an operation
  module _ (h : Head) (types : List ThingType) where
    pub test_lines : value_of (test h types (drop i b)) ≡
        on (λ sense. on (λ n. Ok (test_of sense n)) Err (value_of (named h types (drop (i + 1) b)))) Err (value_of (field 0 2 6 (drop i b)))
    unfolding test
    test_lines =
        field_line value_of Err (λ k. refl) b i (i + 1) _ _
        (λ sense. line value_of Err (λ k. refl) (named h types (drop (i + 1) b)) _ _ (λ n rest e. refl)) 0 2 6 refl

    pub operation_lines : (tests : List Test) (before : List Operation) → value_of (operation h types tests before (drop i b)) ≡
        on
        (λ code. cond (leb (last_group before) (group (code_of code)))
        (on (λ n. Ok (operation_of (code_of code) n)) Err (value_of (by_code h types tests before (code_of code) (drop (i + 1) b))))
        (Err Form))
        Err (value_of (field 1 5 6 (drop i b)))
    unfolding operation fault_of
    operation_lines tests before =
        field_line value_of Err (λ k. refl) b i (i + 1) _ _
        (λ code. check_line value_of Err (λ k. refl) (leb (last_group before) (group (code_of code))) 6 (drop (i + 1) b) _ _
        (line value_of Err (λ k. refl) (by_code h types tests before (code_of code) (drop (i + 1) b)) _ _ (λ n rest e. refl)))
        1 5 6 refl

-- ---- what a body that is read to its end gives; and the head
abbrev pub ended : {A : Type 0} → Read (List ℕ) ℕ A → Result A Fault
ended r = value_of (bind r (λ a. end >> done a))

pub head_lines : (b : List ℕ) → value_of (whole head b) ≡
    on
    (λ n. on
    (λ m. on
    (λ s. cond (within m s)
    (on
    (λ count. cond (ltb 5 (length b)) (Err BodyEnd) (Ok (record { rights = n; types = m; subjects = record { 0 = s }; count = count })))
    Err (value_of (field 1 33 4 (drop 4 b))))
    (Err Form))
    Err (value_of (number 2 (drop 2 b))))
    Err (value_of (field 1 17 4 (drop 1 b))))
    Err (value_of (field 1 65 4 b))
unfolding whole head fault_of
head_lines b =
    field_line ended Err (λ k. refl) b 0 1 _ _
    (λ n. field_line ended Err (λ k. refl) b 1 2 _ _
    (λ m. number_line ended Err (λ k. refl) b 2 4 _ _
    (λ s. check_line ended Err (λ k. refl) (within m s) 6 (drop 4 b) _ _
    (field_line ended Err (λ k. refl) b 4 5 _ _
    (λ count. end_line value_of Err (λ k. refl) b 5 _ _ refl) 1 33 4 refl))
    2 refl)
    1 17 4 refl)
    1 65 4 refl
