-- From the round trips of a body to those of its record.
use Prim.Native.Nat.{ℕ, zero, suc, ◌+◌, ◌^◌, ◌<◌, ◌≤◌}
use native.Mathlib.Omega.{arith}
use mathlib.Core.List.{List, [], ◌∷◌, ◌++◌, append-nil}
use mathlib.Core.Path.{◌≡◌, refl, sym, subst, ◌∙◌}
use lib.Dec.{T, ltb, lt→ltb, eqb→eq, eqb_refl}
use mir.Facts.{and_yes, yes_and}
use Rattle.rights.specs.Sets.{has}
use Rattle.rights.proofs.Digits.{has_pow}
use lib.ListN.{length, take, drop}
use lib.Seq.{get_or-drop}
use Rattle.records.specs.Bytes.{record_bytes, part}
use Rattle.records.specs.Reading.{Read, got, fault, Body, done, end, whole, ◌>>◌}
use Rattle.records.specs.Front.{allowed, record_at, on_body, on_record, in_record}
use Rattle.records.specs.Outcome.RecordAnswer.{RecordAnswer}
use Rattle.records.specs.Outcome.RecordAnswer.{Record, Refused}
use Rattle.records.proofs.Trip.{Trip, Bytes, Stand, body, input, never, got_value, got_left, bind_got, trip_as}
use Rattle.records.proofs.BytesLaws.{length_record}
use Rattle.records.proofs.FrontLaws.{Found, record_found}
use Rattle.records.proofs.RecordAt.{record_there, part_there, record_back, record_may, part_few}

-- ---- read to the end
pub end_got : (i : List ℕ) {u : Unit} {j : List ℕ} → end i ≡ got u j → (i ≡ []) × (j ≡ [])
end_got [] e = (refl, sym (got_left e))
end_got (x ∷ i) e = never e

module _ {A : Type 0} (p : Body A) where
  pub whole_there : {i : List ℕ} {a : A} → p i ≡ got a [] → whole p i ≡ got a []
  unfolding whole
  whole_there e = rw e

  pub whole_back : (i : List ℕ) {a : A} {j : List ℕ} → whole p i ≡ got a j → p i ≡ got a []
  unfolding whole
  whole_back i e =
      let m = bind_got (p i) (λ a. end >> done a) e in
      let d = bind_got (end m.1) (λ u. done m.0) m.3 in
      m.2 ∙ rw ((end_got m.1 d.2).0, got_value d.3)

-- ---- the bytes of a part
pub bytes_take : (n : ℕ) (l : List ℕ) → Bytes l → Bytes (take n l)
bytes_take zero l h i = omega arith
bytes_take (suc n) [] h i = omega arith
bytes_take (suc n) (x ∷ l) h zero = h 0
bytes_take (suc n) (x ∷ l) h (suc i) = bytes_take n l (λ j. h (suc j)) i

pub bytes_part : (s : List ℕ) (start len : ℕ) → Bytes s → Bytes (part s start len)
unfolding part
bytes_part s start len h = bytes_take len (drop start s) (λ i. rw get_or-drop (h (start + i)))

-- ---- the record
module _ {A : Type 0} (s : List ℕ) (kinds : ℕ) (p : ℕ → Body A) where
  pub in_record_there : (at kind : ℕ) (bytes rest : List ℕ) (a : A) → drop at s ≡ record_bytes kind bytes ++ rest →
      T (allowed kinds kind) → length bytes ≤ 65535 → p kind bytes ≡ got a [] → in_record s kinds p at ≡ got a (at + 4 + length bytes)
  unfolding in_record
  in_record_there at kind bytes rest a e t few r =
      rw (record_there s at kind bytes rest e kinds t few, part_there s at kind bytes rest e, whole_there (p kind) r)

  pub on_body_got : (at next : ℕ) (m : Read (List ℕ) ℕ A) {a : A} {j : ℕ} → on_body at next m ≡ got a j → (r : List ℕ) × (m ≡ got a r) × (next ≡ j)
  on_body_got at next (got b r) e = (r, rw (got_value e), got_left e)
  on_body_got at next (fault k) e = never e

  pub in_record_back : (at : ℕ) {a : A} {j : ℕ} → in_record s kinds p at ≡ got a j →
      (kind : ℕ) × (start : ℕ) × (len : ℕ) × Found s at kinds kind start len × (p kind (part s start len) ≡ got a []) × (start + len ≡ j)
  unfolding in_record
  in_record_back at {a} {j} e = go (record_at s at kinds) refl e
    where
      go : (r : RecordAnswer) → record_at s at kinds ≡ r → on_record s at p r ≡ got a j →
          (kind : ℕ) × (start : ℕ) × (len : ℕ) × Found s at kinds kind start len × (p kind (part s start len) ≡ got a []) × (start + len ≡ j)
      go (Record kind start len) f e =
          let m = on_body_got at (start + len) (whole (p kind) (part s start len)) e in
          (kind, start, len, record_found s at kinds kind start len f, whole_back (p kind) (part s start len) m.1, m.2)
      go (Refused k q) f e = never e

  pub trip_record : (kind_of : A → ℕ) {enc : A → List ℕ} {Ok : ℕ → A → Type 0} → ((kind : ℕ) → T (allowed kinds kind) → Trip body (p kind) enc (Ok kind)) →
      ((kind : ℕ) (a : A) → T (allowed kinds kind) → Ok kind a → kind_of a ≡ kind) →
      Trip (input s) (in_record s kinds p) (λ a. record_bytes (kind_of a) (enc a)) (λ a. T (allowed kinds (kind_of a)) × Ok (kind_of a) a × (length (enc a) ≤ 65535))
  trip_record kind_of {enc} t shown = record {
    there = λ a o i j r.
        let next : j ≡ i + 4 + length (enc a) = omega (arith, length_record (kind_of a) (enc a)) in
        let e : p (kind_of a) (enc a) ≡ got a [] = (t (kind_of a) o.0).there a o.1 (enc a) [] (sym (append-nil (enc a))) in
        rw next (in_record_there i (kind_of a) (enc a) (drop j s) a r.bytes o.0 o.2 e);
    back = λ i j a g e.
        let (kind, start, len, f, r, next) = in_record_back i e in
        let b = (t kind (record_may f)).back (part s start len) [] a (bytes_part s start len g) r in
        let k : kind_of a ≡ kind = shown kind a (record_may f) b.1 in
        let n : enc a ≡ part s start len = sym (b.0 ∙ append-nil (enc a)) in
        rw (k, n) (subst (Stand s (record_bytes kind (part s start len)) i) next (record_back f g), (record_may f, b.1, part_few f g));
  }

-- the kinds that may stand there are often one
pub one_kind : (kind k : ℕ) → T (allowed (2 ^ kind) k) → k ≡ kind
unfolding allowed
one_kind kind k t = eqb→eq k kind (rw has_pow at (and_yes (ltb k 16) (has (2 ^ kind) k) t).1)

pub may_one : (kind : ℕ) → kind < 16 → T (allowed (2 ^ kind) kind)
unfolding allowed
may_one kind h = yes_and (ltb kind 16) (has (2 ^ kind) kind) (lt→ltb kind 16 h) (rw has_pow (eqb_refl kind))

pub trip_kind : {A : Type 0} (s : List ℕ) (kind : ℕ) → kind < 16 → {q : Body A} {enc : A → List ℕ} {Ok : A → Type 0} → Trip body q enc Ok →
    ((a : A) → Ok a → length (enc a) ≤ 65535) → Trip (input s) (in_record s (2 ^ kind) (λ k. q)) (λ a. record_bytes kind (enc a)) Ok
trip_kind s kind h {q} {Ok = Ok} t small =
    trip_as (trip_record s (2 ^ kind) (λ k. q) (λ a. kind) {Ok = λ k. Ok} (λ k m. t) (λ k a m o. sym (one_kind kind k m)))
    (λ a o. refl) (λ a o. o.1) (λ a o. (may_one kind h, o, small a o))
