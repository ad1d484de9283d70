-- A reader's lines as a function with `?` follows them: on with what was read, or out with the fault. `answer` is what the function gives of a reading, `out`
-- what it gives of a fault.
-- Assumes nothing.
use Prim.Native.Nat.{ℕ, ◌+◌, ◌<◌}
use native.Mathlib.Omega.{arith}
use native.Mathlib.Decide.{dec_lt}
use mathlib.Core.Bool.{Bool, true, false, cond}
use mathlib.Core.List.{List, []}
use mathlib.Core.Path.{◌≡◌, refl, ap}
use lib.Dec.{ltb}
use lib.ListN.{length, drop}
use borrow.Author.Tests.{lt-ltb, le-ltb}
use Rattle.std.specs.Prelude.{Result, Ok, Err}
use Rattle.faults.specs.Numbers.{fault_of}
use Rattle.faults.specs.declared.Fault.{Fault}
use Rattle.records.specs.Reading.{Read, got, fault, Body, bind, check, done, field, number, byte, end}
use Rattle.records.specs.Results.{value_of}
use Rattle.records.proofs.FieldLaws.{one_off, none_left, byte_value, field_value, number_value}

-- what `?` does with a result
module _ {A R : Type 0} (go : A → R) (out : Fault → R) where
  abbrev pub on : Result A Fault → R
  on (Ok v) = go v
  on (Err f) = out f

module _ {A R : Type 0} (answer : Read (List ℕ) ℕ A → R) (out : Fault → R) (told : (k : ℕ) → answer (fault k) ≡ out (fault_of k)) where
  -- any reader; what is left of the body is what the next line begins with
  pub line : {B : Type 0} (r : Read (List ℕ) ℕ B) (f : B → Body A) (go : B → R) →
      ((v : B) (t : List ℕ) → r ≡ got v t → answer (f v t) ≡ go v) → answer (bind r f) ≡ on go out (value_of r)
  line {B} r f go next = by r refl
    where
      by : (m : Read (List ℕ) ℕ B) → r ≡ m → answer (bind m f) ≡ on go out (value_of m)
      by (got v t) e = next v t e
      by (fault k) e = told k

  module _ (b : List ℕ) (i j : ℕ) (f : ℕ → Body A) (go : ℕ → R) (next : (v : ℕ) → answer (f v (drop j b)) ≡ go v) where
    pub byte_line : j ≡ i + 1 → answer (bind (byte (drop i b)) f) ≡ on go out (value_of (byte (drop i b)))
    byte_line ej = line (byte (drop i b)) f go
        (λ v t e. let w = byte_value b i j v ej (ap value_of e) in let g : t ≡ drop j b = cc in rw g (next v))

    pub field_line : (low limit k : ℕ) → j ≡ i + 1 →
        answer (bind (field low limit k (drop i b)) f) ≡ on go out (value_of (field low limit k (drop i b)))
    field_line low limit k ej = line (field low limit k (drop i b)) f go
        (λ v t e. let w = field_value b i j v low limit k ej (ap value_of e) in let g : t ≡ drop j b = cc in rw g (next v))

    pub number_line : (w : ℕ) → j ≡ i + w → answer (bind (number w (drop i b)) f) ≡ on go out (value_of (number w (drop i b)))
    number_line w ej = line (number w (drop i b)) f go
        (λ v t e. let x = number_value b i j v w ej (ap value_of e) in let g : t ≡ drop j b = cc in rw g (next v))

  -- a check, and the body's end
  pub check_line : (c : Bool) (k : ℕ) (l : List ℕ) (f : Unit → Body A) (go : R) → answer (f tt l) ≡ go →
      answer (bind (check c k l) f) ≡ cond c go (out (fault_of k))
  check_line true k l f go e = e
  check_line false k l f go e = told k

  pub end_line : (b : List ℕ) (i : ℕ) (a : A) (go : R) → answer (got a []) ≡ go →
      answer (bind (end (drop i b)) (λ _. done a)) ≡ cond (ltb i (length b)) (out (fault_of 3)) go
  end_line b i a go e = by (dec_lt i (length b))
    where
      by : Dec (i < length b) → answer (bind (end (drop i b)) (λ _. done a)) ≡ cond (ltb i (length b)) (out (fault_of 3)) go
      by (yes l) = rw (one_off b i l, lt-ltb i (length b) l) (told 3)
      by (no l) = rw (none_left b i (omega (arith, l)), le-ltb i (length b) (omega (arith, l))) e
