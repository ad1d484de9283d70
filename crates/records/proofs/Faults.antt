-- Which numbers the fault of a reader can have: one law for each way in which readers are put together, so that a format's numbers are read off its lines.
-- Assumes nothing.
use Prim.Native.Nat.{ℕ, zero, suc, ◌+◌}
use mathlib.Core.Bool.{Bool, true, false, cond, ◌&&◌}
use mathlib.Core.List.{List, [], ◌∷◌}
use lib.Dec.{T, leb, ltb}
use lib.ListN.{length}
use Rattle.records.specs.Bytes.{number2, part}
use Rattle.records.specs.Reading.{Read, got, fault, Reader, bind, ◌>>=◌, ◌>>◌, check, steps, Body, byte, number, field, end, whole}
use Rattle.records.specs.Front.{allowed, record_at, Refusal, on_body, on_record, in_record}
use Rattle.records.specs.Outcome.RecordAnswer.{RecordAnswer}
use Rattle.records.specs.Outcome.RecordAnswer.{Record, Refused}

-- ---- a reader all of whose faults pass
module _ {F : Type 0} (ok : F → Bool) {I A : Type 0} where
  abbrev pub fine : Read I F A → Bool
  fine (got a i) = true
  fine (fault f) = ok f

  abbrev pub Only : Reader I F A → Type 0
  Only p = (i : I) → T (fine (p i))

module _ {F : Type 0} (ok : F → Bool) {I A B : Type 0} where
  bind_only : (r : Read I F A) (f : A → Reader I F B) → T (fine ok r) → ((a : A) → Only ok (f a)) → T (fine ok (bind r f))
  bind_only (got a i) f t u = u a i
  bind_only (fault k) f t u = t

  pub only_then : (p : Reader I F A) (f : A → Reader I F B) → Only ok p → ((a : A) → Only ok (f a)) → Only ok (p >>= f)
  only_then p f t u i = bind_only (p i) f (t i) u

  pub only_next : (p : Reader I F A) (q : Reader I F B) → Only ok p → Only ok q → Only ok (p >> q)
  only_next p q t u i = bind_only (p i) (λ a. q) (t i) (λ a. u)

module _ {F : Type 0} (ok : F → Bool) {I : Type 0} where
  pub only_check : (b : Bool) (k : F) → T (ok k) → Only ok {I = I} (check b k)
  only_check true k t i = tt
  only_check false k t i = t

  pub only_steps : {A S : Type 0} (p : S → Reader I F A) (next : S → A → S) → ((s : S) → Only ok (p s)) → (n : ℕ) (s : S) → Only ok (steps p next n s)
  only_steps p next t zero s i = tt
  only_steps p next t (suc n) s i =
      bind_only ok (p s i) _ (t s i) (λ a. only_then ok (steps p next n (next s a)) _ (only_steps p next t n (next s a)) (λ xs i. tt))

-- ---- the fields of a body: 3, and the number of a field's own
module _ (ok : ℕ → Bool) (three : T (ok 3)) where
  pub only_byte : Only ok byte
  only_byte [] = three
  only_byte (b ∷ rest) = tt

  pub only_number : (w : ℕ) → Only ok (number w)
  only_number zero = λ i. tt
  only_number (suc w) = only_then ok byte _ only_byte (λ low. only_then ok (number w) _ (only_number w) (λ high i. tt))

  pub only_field : (low limit k : ℕ) → T (ok k) → Only ok (field low limit k)
  unfolding field
  only_field low limit k t = only_then ok byte _ only_byte (λ v. only_next ok (check (leb low v && ltb v limit) k) _ (only_check ok (leb low v && ltb v limit) k t) (λ i. tt))

  only_end : Only ok end
  only_end [] = tt
  only_end (b ∷ rest) = three

  pub only_whole : {A : Type 0} (p : Body A) → Only ok p → Only ok (whole p)
  unfolding whole
  only_whole p t = only_then ok p _ t (λ a. only_next ok end _ only_end (λ i. tt))

-- ---- a record's front: 1 and 2
module _ (ok : ℕ → Bool) where
  abbrev pub passed_record : RecordAnswer → Bool
  passed_record (Record kind start len) = true
  passed_record (Refused k q) = ok k

  pub only_front : T (ok 1) → T (ok 2) → (s : List ℕ) (at kinds : ℕ) → T (passed_record (record_at s at kinds))
  unfolding record_at
  only_front one two s at kinds = by (leb (at + 4) (length s)) (allowed kinds (number2 s (at + 2))) (leb (at + 4 + number2 s at) (length s))
    where
      by : (a b c : Bool) →
          T (passed_record (cond a (cond b (cond c (Record (number2 s (at + 2)) (at + 4) (number2 s at)) (Refused 1 at)) (Refused 2 at)) (Refused 1 at)))
      by true true true = tt
      by true true false = one
      by true false c = two
      by false b c = one

-- ---- a record: these, and the numbers of its body
module _ (ok : ℕ → Bool) (one : T (ok 1)) (two : T (ok 2)) (three : T (ok 3)) where
  abbrev pub numbered : Refusal → Bool
  numbered f = ok f.number

  body_only : {A : Type 0} (at next : ℕ) (r : Read (List ℕ) ℕ A) → T (fine ok r) → T (fine numbered (on_body at next r))
  body_only at next (got a rest) t = tt
  body_only at next (fault k) t = t

  pub only_record : {A : Type 0} (s : List ℕ) (kinds : ℕ) (p : ℕ → Body A) → ((kind : ℕ) → Only ok (p kind)) → Only numbered (in_record s kinds p)
  unfolding in_record
  only_record {A} s kinds p t at = by (record_at s at kinds) (only_front ok one two s at kinds)
    where
      by : (r : RecordAnswer) → T (passed_record ok r) → T (fine numbered (on_record s at p r))
      by (Record kind start len) u = body_only at (start + len) (whole (p kind) (part s start len)) (only_whole ok three (p kind) (t kind) (part s start len))
      by (Refused k q) u = u
