-- A request that is skipped: its body's length decides whether its ids are there, so none of them has to be read. Assumes nothing.
use Prim.Native.Nat.{ℕ, zero, suc, ◌+◌, ◌*◌, ◌<◌, ◌≤◌}
use native.Mathlib.Omega.{arith}
use native.Mathlib.Decide.{dec_lt}
use mathlib.Core.List.{List, [], ◌∷◌}
use mathlib.Core.Path.{◌≡◌, refl, sym, ap}
use lib.ListN.{length, drop}
use Rattle.std.specs.Prelude.{Ok, Err}
use Rattle.faults.specs.Numbers.{fault_of}
use Rattle.faults.specs.declared.Fault.{Fault}
use Rattle.records.specs.Reading.{Read, got, fault, bind, ◌>>◌, done, field, end, whole}
use Rattle.records.specs.Results.{value_of}
use Rattle.records.proofs.FieldLaws.{one_off, none_left, field_value}
use Rattle.request_bytes.specs.Read.{ids_in, request, request_of}
use Rattle.request_bytes.specs.declared.Request.{Request}
use Rattle.request_bytes.specs.Inner.Body.{end_result}
use Rattle.request_bytes.proofs.Laws.{stopped}
use Rattle.laws.proofs.Differ.{constructors_differ}

-- ---- so many ids, of two bytes each

ids_short : (n : ℕ) (l : List ℕ) → length l < 2 * n → ids_in n l ≡ fault 3
ids_short zero l h = absurd (omega arith)
ids_short (suc n) [] h = refl
ids_short (suc n) (x ∷ []) h = refl
ids_short (suc n) (x ∷ y ∷ l) h = rw (ids_short n l (omega arith))

ids_there : (n : ℕ) (l : List ℕ) → 2 * n ≤ length l → (ids : List ℕ) × (t : List ℕ) × (ids_in n l ≡ got ids t) × (2 * n + length t ≡ length l)
ids_there zero l h = ([], l, refl, omega arith)
ids_there (suc n) [] h = absurd (omega arith)
ids_there (suc n) (x ∷ []) h = absurd (omega arith)
ids_there (suc n) (x ∷ y ∷ l) h = let (ids, t, e, m) = ids_there n l (omega arith) in ((x + 256 * (y + 256 * 0)) ∷ ids, t, rw e, omega arith)

-- ---- a body with its first two bytes, of which the second is the number of its ids

module _ (x y : ℕ) (l : List ℕ) (count : ℕ) (en : field 0 9 4 (y ∷ l) ≡ got count l) where
  body_off : (length l ≡ 2 * count → ⊥) → whole request (x ∷ y ∷ l) ≡ fault 3
  unfolding whole request
  body_off h = by (dec_lt (length l) (2 * count))
    where
      by : Dec (length l < 2 * count) → whole request (x ∷ y ∷ l) ≡ fault 3
      by (yes less) = rw (en, ids_short count l less)
      by (no more) =
          let (ids, t, e, m) = ids_there count l (omega (arith, more)) in
          let left : 0 < length t = omega (arith, h) in
          rw (en, e, one_off t 0 left)

  body_on : length l ≡ 2 * count → (q : Request) × (whole request (x ∷ y ∷ l) ≡ got q [])
  unfolding whole request
  body_on h =
      let (ids, t, e, m) = ids_there count l (omega arith) in
      let none : t ≡ [] = none_left t 0 (omega arith) in
      (request_of x ids, rw (en, e, none))

-- ---- the ways through a body, as the returns of `skip_body` have them: nothing is asked of its first byte, the command number

pub skip_fault : (b : List ℕ) {f : Fault} → value_of (field 0 9 4 (drop 1 b)) ≡ Err f → Err f ≡ end_result (whole request b)
unfolding whole request field
skip_fault [] {f} e = let g : f ≡ fault_of 3 = cc in ap Err g
skip_fault (x ∷ b) e = stopped (λ m. end_result (bind m (λ q. end >> done q))) Err (λ k. refl) (field 0 9 4 b) _ e

pub skip_off : (b : List ℕ) (count : ℕ) → value_of (field 0 9 4 (drop 1 b)) ≡ Ok count → (length b ≡ 2 + 2 * count → ⊥) →
    Err (fault_of 3) ≡ end_result (whole request b)
unfolding field
skip_off [] count e h = constructors_differ (cc)
skip_off (x ∷ []) count e h = constructors_differ (cc)
skip_off (x ∷ y ∷ l) count e h = rw (body_off x y l count (field_value (x ∷ y ∷ l) 1 2 count 0 9 4 refl e) (λ m. h (omega arith)))

pub skip_on : (b : List ℕ) (count : ℕ) → value_of (field 0 9 4 (drop 1 b)) ≡ Ok count → length b ≡ 2 + 2 * count → Ok tt ≡ end_result (whole request b)
skip_on [] count e h = absurd (omega arith)
skip_on (x ∷ []) count e h = absurd (omega arith)
skip_on (x ∷ y ∷ l) count e h =
    let (q, f) = body_on x y l count (field_value (x ∷ y ∷ l) 1 2 count 0 9 4 refl e) (omega arith) in rw f

-- what is skipped is read too, and the other way round
pub end_back : {A : Type 0} (m : Read (List ℕ) ℕ A) {u : Unit {0}} → end_result m ≡ Ok u → (a : A) × (t : List ℕ) × (m ≡ got a t)
end_back (got a t) e = (a, t, refl)
end_back (fault k) e = constructors_differ (cc)

pub end_fault : {A : Type 0} (m : Read (List ℕ) ℕ A) {f : Fault} → end_result m ≡ Err f → (k : ℕ) × (m ≡ fault k) × (f ≡ fault_of k)
end_fault (got a t) e = constructors_differ (cc)
end_fault (fault k) {f} e = (k, refl, let g : fault_of k ≡ f = cc in sym g)
