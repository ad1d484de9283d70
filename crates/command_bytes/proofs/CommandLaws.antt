-- A command as `command_of` follows it: line by line, each from its own position on, its lists as their arrays hold them.
-- Assumes nothing.
use Prim.Native.Nat.{ℕ, ◌+◌, ◌*◌}
use native.Mathlib.Omega.{arith}
use mathlib.Core.Bool.{cond}
use mathlib.Core.List.{List, [], ◌∷◌}
use mathlib.Core.Path.{◌≡◌, refl}
use lib.Dec.{ltb}
use lib.ListN.{length, drop}
use lib.Seq.{take-append_seam}
use Rattle.std.specs.Prelude.{Result, Ok, Err}
use Rattle.faults.specs.Numbers.{fault_of}
use Rattle.faults.specs.declared.Fault.{Fault}
use Rattle.faults.specs.declared.Fault.TheVariants.{BodyEnd}
use Rattle.rights.specs.declared.ThingType.{ThingType}
use Rattle.model.specs.Scheme.{parameters_of, tests_of}
use Rattle.model.specs.Arrays.{parameters_from, tests_from, operations_from, command_of}
use Rattle.model.specs.declared.Command.{Command}
use Rattle.model.specs.declared.Head.{Head}
use Rattle.model.specs.declared.Parameters.{Parameters}
use Rattle.records.specs.Reading.{Read, got, fault, Body, bind, done, field, whole}
use Rattle.records.specs.Results.{value_of}
use Rattle.records.proofs.Lines.{on, field_line, end_line}
use Rattle.command_bytes.specs.Read.{types_in, tests_in, operations_in, command_from, command}
use Rattle.command_bytes.specs.Inner.Parts.{in_array}
use Rattle.command_bytes.proofs.FieldReads.{ended}
use Rattle.command_bytes.proofs.Fixed.{steps_at, fixed_type, fixed_test, fixed_operation}

-- a line that reads a list; `from` makes its array
module _ {A B C R : Type 0} (answer : Read (List ℕ) ℕ C → R) (out : Fault → R) (told : (k : ℕ) → answer (fault k) ≡ out (fault_of k))
    (from : List A → B) (r : Read (List ℕ) ℕ (List A)) (f : List A → Body C) (go : B → R) where
  list_line : ((xs : List A) (t : List ℕ) → r ≡ got xs t → answer (f xs t) ≡ go (from xs)) →
      answer (bind r f) ≡ on go out (value_of (bind r (λ xs. done (from xs))))
  list_line next = by r refl
    where
      by : (m : Read (List ℕ) ℕ (List A)) → r ≡ m → answer (bind m f) ≡ on go out (value_of (bind m (λ xs. done (from xs))))
      by (got xs t) e = next xs t e
      by (fault k) e = told k

-- ---- what follows the parameters p, of these types; then the whole
module _ (h : Head) (b : List ℕ) where
  abbrev pub from_answer : List ThingType → Parameters → ℕ → Result Command Fault
  from_answer types p i =
      on
      (λ t. on
      (λ ts. on
      (λ o. on
      (λ os. cond (ltb (i + 1 + 4 * t + 1 + 4 * o) (length b)) (Err BodyEnd) (Ok (record { parameters = p; tests = ts; operations = os })))
      Err (value_of (in_array operations_from (operations_in h types (tests_of ts) o) (drop (i + 1 + 4 * t + 1) b))))
      Err (value_of (field 1 33 4 (drop (i + 1 + 4 * t) b))))
      Err (value_of (in_array tests_from (tests_in h types t) (drop (i + 1) b))))
      Err (value_of (field 0 17 4 (drop i b)))

  from_lines : (types : List ThingType) (i : ℕ) → value_of (whole (command_from h types) (drop i b)) ≡ from_answer types (parameters_from types) i
  unfolding whole command_from command_of fault_of
  from_lines types i =
      field_line ended Err (λ k. refl) b i (i + 1) _ _
      (λ t. list_line ended Err (λ k. refl) tests_from (tests_in h types t (drop (i + 1) b)) _ _
      (λ ts r e.
      let s = steps_at (λ u t. u) (λ u. fixed_test h types) t tt b (i + 1) e in
      let l : r ≡ drop (i + 1 + 4 * t) b = cc in
      let held : tests_of (tests_from ts) ≡ ts = take-append_seam ts _ in
      rw (l, held)
      (field_line ended Err (λ k. refl) b (i + 1 + 4 * t) (i + 1 + 4 * t + 1) _ _
      (λ o. list_line ended Err (λ k. refl) operations_from (operations_in h types ts o (drop (i + 1 + 4 * t + 1) b)) _ _
      (λ os q f.
      let s = steps_at (λ before o. o ∷ before) (fixed_operation h types ts) o [] b (i + 1 + 4 * t + 1) f in
      let l : q ≡ drop (i + 1 + 4 * t + 1 + 4 * o) b = cc in
      rw l (end_line value_of Err (λ k. refl) b (i + 1 + 4 * t + 1 + 4 * o) _ _ refl)))
      1 33 4 refl)))
      0 17 4 refl

  pub command_lines : value_of (whole (command h) b) ≡
      on
      (λ k. on (λ p. from_answer (parameters_of p) p (1 + k)) Err (value_of (in_array parameters_from (types_in h k) (drop 1 b))))
      Err (value_of (field 1 9 4 b))
  unfolding whole command
  command_lines =
      field_line ended Err (λ k. refl) b 0 1 _ _
      (λ k. list_line ended Err (λ k. refl) parameters_from (types_in h k (drop 1 b)) _ _
      (λ types r e.
      let s = steps_at (λ u t. u) (λ u. fixed_type h) k tt b 1 e in
      let l : r ≡ drop (1 + 1 * k) b = cc in
      let n : 1 + 1 * k ≡ 1 + k = omega arith in
      let held : parameters_of (parameters_from types) ≡ types = take-append_seam types _ in
      rw (l, n, held) (from_lines types (1 + k))))
      1 9 4 refl
