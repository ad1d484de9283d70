-- The fields of a body at a position: what each reader gives there, as the returns of `byte_at`, `field_at`, `field2_at` and `field8_at`
-- have it; and from such a function's result back to the reader. Assumes nothing.
use Prim.Native.Nat.{ℕ, zero, suc, ◌+◌, ◌*◌, ◌<◌, ◌≤◌}
use native.Mathlib.Omega.{arith}
use native.Mathlib.Nat.{add-zero}
use native.Mathlib.Numerals.{add-one}
use native.Mathlib.Decide.{dec_lt}
use mathlib.Core.Bool.{Bool, true, false, cond, ◌&&◌, and-false}
use mathlib.Core.Logic.{◌⊎◌, inl, inr}
use mathlib.Core.List.{List, [], ◌∷◌}
use mathlib.Core.Path.{◌≡◌, refl, sym, ap, ◌∙◌}
use lib.ListN.{length, get_or, take, drop, length-drop, drop_of_length-le}
use lib.Dec.{leb, ltb}
use lib.Seq.{drop-cons, drop-drop}
use borrow.Author.Tests.{le-leb, lt-leb, lt-ltb, le-ltb, leb-true, ltb-true}
use Rattle.records.specs.Bytes.{number2}
use Rattle.std.specs.Prelude.{Result, Ok, Err, Option, Some, None}
use Rattle.std.specs.Option.{ok_or}
use Rattle.faults.specs.Numbers.{fault_of}
use Rattle.faults.specs.declared.Fault.{Fault}
use Rattle.records.specs.Reading.{Read, got, fault, byte, number, field, bind, check, done}
use Rattle.records.specs.Results.{value_of}
use Rattle.records.specs.Inner.Parts.{bytes_in}
use Rattle.faults.specs.declared.Fault.TheVariants as fault
use Rattle.laws.proofs.Differ.{constructors_differ}

module _ (b : List ℕ) (i : ℕ) where
  pub none_left : length b ≤ i → drop i b ≡ []
  none_left h = drop_of_length-le b {i = i} h

  pub one_off : i < length b → drop i b ≡ get_or b i 0 ∷ drop (i + 1) b
  one_off h = drop-cons b i 0 h ∙ rw add-one

  pub byte_end : length b ≤ i → byte (drop i b) ≡ fault 3
  byte_end h = rw (none_left h)

  pub byte_there : i < length b → byte (drop i b) ≡ got (get_or b i 0) (drop (i + 1) b)
  byte_there h = rw (one_off h)

  module _ (low limit k : ℕ) where
    pub field_end : length b ≤ i → field low limit k (drop i b) ≡ fault 3
    unfolding field
    field_end h = rw (none_left h)

    pub field_low : i < length b → get_or b i 0 < low → field low limit k (drop i b) ≡ fault k
    unfolding field
    field_low h p = simp (one_off h, lt-leb low (get_or b i 0) p)

    module _ (h : i < length b) (p : low ≤ get_or b i 0) where
      pub field_limit : limit ≤ get_or b i 0 → field low limit k (drop i b) ≡ fault k
      unfolding field
      field_limit q = simp (one_off h, le-leb low (get_or b i 0) p, le-ltb (get_or b i 0) limit q)

      pub field_there : get_or b i 0 < limit → field low limit k (drop i b) ≡ got (get_or b i 0) (drop (i + 1) b)
      unfolding field
      field_there q = simp (one_off h, le-leb low (get_or b i 0) p, lt-ltb (get_or b i 0) limit q)

-- the number in the w bytes at i
unfoldable pub number_at : ℕ → List ℕ → ℕ → ℕ
number_at zero b i = 0
number_at (suc w) b i = get_or b i 0 + 256 * number_at w b (i + 1)

pub number_there : (w : ℕ) (b : List ℕ) (i : ℕ) → i + w ≤ length b → number w (drop i b) ≡ got (number_at w b i) (drop (i + w) b)
unfolding number_at
number_there zero b i h = rw add-zero
number_there (suc w) b i h =
    let n : i + suc w ≡ i + 1 + w = omega arith in
    let l : i < length b = omega arith in
    rw (one_off b i l, number_there w b (i + 1) (omega arith), n)

number_short : (w : ℕ) (l : List ℕ) → length l < w → number w l ≡ fault 3
number_short zero l h = absurd (omega arith)
number_short (suc w) [] h = refl
number_short (suc w) (x ∷ l) h = rw (number_short w l (omega arith))

pub number_end : (w : ℕ) (b : List ℕ) (i : ℕ) → length b < i + suc w → number (suc w) (drop i b) ≡ fault 3
number_end w b i h = number_short (suc w) (drop i b) (omega (arith, length-drop i b))

short : (w : ℕ) (b : List ℕ) (i : ℕ) {o : Option (List ℕ)} {f : Fault} → o ≡ bytes_in (suc w) b i → Err f ≡ ok_or o fault.BodyEnd →
    Err f ≡ value_of (number (suc w) (drop i b))
unfolding fault_of
short w b i {o} {f} e r = by (dec_lt (length b) (i + suc w))
  where
    by : Dec (length b < i + suc w) → Err f ≡ value_of (number (suc w) (drop i b))
    by (yes l) = let n : o ≡ None = e ∙ rw (lt-leb _ _ l) in
        let same : f ≡ fault.BodyEnd = (let q : ◌≡◌ {A = Result (List ℕ) Fault} (Err f) (Err fault.BodyEnd) = rw n at r in cc) in
        rw (number_end w b i l, same)
    by (no g) = let n : o ≡ Some (take (suc w) (drop i b)) = e ∙ rw (le-leb (i + suc w) (length b) (omega (arith, g))) in
        let q : ◌≡◌ {A = Result (List ℕ) Fault} (Err f) (Ok (take (suc w) (drop i b))) = rw n at r in
        constructors_differ (cc)

-- of two bytes, and of those that a function looks for
module _ (b : List ℕ) (i : ℕ) where
  number_two : number_at 2 b i ≡ number2 b i
  unfolding number_at number2
  number_two = omega arith

  pub two_end : length b < i + 2 → number 2 (drop i b) ≡ fault 3
  two_end h = number_end 1 b i h

  pub two_there : i + 2 ≤ length b → number 2 (drop i b) ≡ got (number2 b i) (drop (i + 2) b)
  two_there h = rw (number_there 2 b i h, number_two)

  -- where there aren't as many bytes
  pub two_short : {o : Option (List ℕ)} {f : Fault} → o ≡ bytes_in 2 b i → Err f ≡ ok_or o fault.BodyEnd → Err f ≡ value_of (number 2 (drop i b))
  two_short e r = short 1 b i e r

  pub eight_short : {o : Option (List ℕ)} {f : Fault} → o ≡ bytes_in 8 b i → Err f ≡ ok_or o fault.BodyEnd → Err f ≡ value_of (number 8 (drop i b))
  eight_short e r = short 7 b i e r

-- ---- from the result of a function back to the reader
module _ {I A : Type 0} where
  pub value_back : (r : Read I ℕ A) {a : A} → value_of r ≡ Ok a → (t : I) × (r ≡ got a t)
  value_back (got x t) {a} e = (t, let f : x ≡ a = cc in rw f)
  value_back (fault k) e = constructors_differ (cc)

  pub fault_back : (r : Read I ℕ A) {f : Fault} → value_of r ≡ Err f → (k : ℕ) × (r ≡ fault k) × (f ≡ fault_of k)
  fault_back (got x t) e = constructors_differ (cc)
  fault_back (fault k) {f} e = (k, refl, let g : fault_of k ≡ f = cc in sym g)

-- ---- a field from the byte that it is read from
module _ (low limit k : ℕ) (l : List ℕ) where
  pub field_none : {f : Fault} → value_of (byte l) ≡ Err f → Err f ≡ value_of (field low limit k l)
  unfolding field
  field_none {f} e = go (byte l) e
    where
      go : (r : Read (List ℕ) ℕ ℕ) → value_of r ≡ Err f → Err f ≡ value_of (bind r (λ v. λ i. bind (check (leb low v && ltb v limit) k i) (λ _. done v)))
      go (got x t) e = constructors_differ (cc)
      go (fault j) e = sym e

  module _ {v : ℕ} (e : value_of (byte l) ≡ Ok v) where
    field_tested : (c : Bool) → (leb low v && ltb v limit) ≡ c → value_of (field low limit k l) ≡ cond c (Ok v) (Err (fault_of k))
    unfolding field
    field_tested c ec = let g = value_back (byte l) e in rw (g.1, ec) (go c)
      where
        go : (c : Bool) → value_of (bind (check c k (value_back (byte l) e).0) (λ _. done v)) ≡ cond c (Ok v) (Err (fault_of k))
        go true = refl
        go false = refl

    pub field_outside : (v < low) ⊎ (limit ≤ v) → Err (fault_of k) ≡ value_of (field low limit k l)
    field_outside (inl h) = sym (field_tested false (rw (lt-leb low v h)))
    field_outside (inr h) = sym (field_tested false (rw (le-ltb v limit h) (and-false (leb low v))))

    pub field_inside : low ≤ v → v < limit → Ok v ≡ value_of (field low limit k l)
    field_inside h q = sym (field_tested true (rw (le-leb low v h, lt-ltb v limit q)))

-- what each took
pub byte_was : (l : List ℕ) (v : ℕ) (t : List ℕ) → byte l ≡ got v t → l ≡ v ∷ t
byte_was [] v t e = constructors_differ (cc)
byte_was (x ∷ l) v t e = cc

field_was : (low limit k : ℕ) (l : List ℕ) (v : ℕ) (t : List ℕ) → field low limit k l ≡ got v t → (l ≡ v ∷ t) × (low ≤ v) × (v < limit)
unfolding field
field_was low limit k [] v t e = constructors_differ (cc)
field_was low limit k (x ∷ l) v t e = go (leb low x) (ltb x limit) refl refl e
  where
    go : (c d : Bool) → leb low x ≡ c → ltb x limit ≡ d → bind (check (c && d) k l) (λ _. done x) ≡ got v t →
        (x ∷ l ≡ v ∷ t) × (low ≤ v) × (v < limit)
    go true true p q f = let g : x ≡ v = cc in (cc, rw g at (leb-true low x p), rw g at (ltb-true x limit q))
    go true false p q f = constructors_differ (cc)
    go false d p q f = constructors_differ (cc)

number_was : (w : ℕ) (b : List ℕ) (i v : ℕ) (t : List ℕ) → number w (drop i b) ≡ got v t → t ≡ drop (i + w) b
number_was zero b i v t e = let f : t ≡ drop i b = cc in rw (add-zero, f)
number_was (suc w) b i v t e = by (dec_lt (length b) (i + suc w))
  where
    by : Dec (length b < i + suc w) → t ≡ drop (i + suc w) b
    by (yes l) = let f = number_end w b i l in constructors_differ (cc)
    by (no g) = let f = number_there (suc w) b i (omega (arith, g)) in cc

module _ (b : List ℕ) (i j v : ℕ) where
  behind : (t : List ℕ) → drop i b ≡ v ∷ t → j ≡ i + 1 → t ≡ drop j b
  behind t e ej = ap (drop 1) (sym e) ∙ drop-drop 1 i b ∙ rw ej

  pub byte_value : j ≡ i + 1 → value_of (byte (drop i b)) ≡ Ok v → byte (drop i b) ≡ got v (drop j b)
  byte_value ej e =
      let g = value_back (byte (drop i b)) e in
      g.1 ∙ ap (got v) (behind g.0 (byte_was (drop i b) v g.0 g.1) ej)

  pub field_value : (low limit k : ℕ) → j ≡ i + 1 → value_of (field low limit k (drop i b)) ≡ Ok v → field low limit k (drop i b) ≡ got v (drop j b)
  field_value low limit k ej e =
      let g = value_back (field low limit k (drop i b)) e in
      g.1 ∙ ap (got v) (behind g.0 (field_was low limit k (drop i b) v g.0 g.1).0 ej)

  pub number_value : (w : ℕ) → j ≡ i + w → value_of (number w (drop i b)) ≡ Ok v → number w (drop i b) ≡ got v (drop j b)
  number_value w ej e = let g = value_back (number w (drop i b)) e in g.1 ∙ ap (got v) (number_was w b i v g.0 g.1 ∙ rw ej)

pub field_between : (r : List ℕ) (low limit k v : ℕ) → value_of (field low limit k r) ≡ Ok v → (low ≤ v) × (v < limit)
field_between r low limit k v e = let g = value_back (field low limit k r) e in let w = field_was low limit k r v g.0 g.1 in (w.1, w.2)
