-- From the answer of a reading or a writing of a request back to what stands there. Assumes nothing.
use Prim.Native.Nat.{ℕ, zero, suc, ◌+◌, ◌≤◌}
use native.Mathlib.Omega.{arith}
use mathlib.Core.Bool.{Bool, true, false, cond}
use mathlib.Core.List.{List, ◌∷◌}
use mathlib.Core.Path.{◌≡◌, refl, sym, ap, ◌∙◌}
use lib.Dec.{leb, eqb, leb→le}
use lib.ListN.{length, length-append}
use borrow.Author.Tests.{eqb-true}
use Rattle.records.specs.Bytes.{number2, part}
use Rattle.records.specs.Reading.{Read, got, fault, ◌>>=◌, done, byte, number, field, whole}
use Rattle.records.specs.Front.{Refusal, allowed, record_at, on_body, on_record, in_record}
use Rattle.records.specs.Outcome.RecordAnswer.{RecordAnswer}
use Rattle.records.specs.Outcome.RecordAnswer as record_answer
use Rattle.records.specs.Outcome.Writing.{Writing}
use Rattle.records.specs.Outcome.Writing as writing
use Rattle.records.specs.Results.{value_of}
use Rattle.records.proofs.FieldLaws.{field_between}
use Rattle.records.proofs.Trip.{got_value, bind_got}
use Rattle.records.proofs.TripRecord.{in_record_back}
use Rattle.records.proofs.Wrote.{Wrote, wrote}
use Rattle.request_bytes.specs.Read.{request_of, ids_in, request, request_at, no_request, as_request, read_request}
use Rattle.request_bytes.specs.Write.{request_bytes, write_request}
use Rattle.request_bytes.specs.declared.Request.{Request}
use Rattle.request_bytes.specs.Outcome.RequestAnswer.{RequestAnswer}
use Rattle.request_bytes.specs.Outcome.RequestReading.{Done, End, Refused}
use Rattle.laws.proofs.Differ.{constructors_differ}

-- ---- a writing that was done: the ids were few, and the bytes stand there
pub wrote_request : (out : List ℕ) (at command : ℕ) (ids : List ℕ) (next : ℕ) (left : List ℕ) →
    ◌≡◌ {A = Writing × List ℕ} (write_request out at command ids) (writing.Done next, left) →
    (length ids ≤ 8) × Wrote out at (request_bytes command ids) next left
unfolding write_request
wrote_request out at command ids next left e =
    let (few, w) = wrote (leb (length ids) 8) 4 out at (request_bytes command ids) next left e in (leb→le _ _ few, w)

-- ---- a reading: a request stands there, nothing does, or the refusal is that of the record there
refused_here : (a b d : Bool) (kind start len at k q : ℕ) →
    cond a (cond b (cond d (record_answer.Record kind start len) (record_answer.Refused 1 at)) (record_answer.Refused 2 at)) (record_answer.Refused 1 at)
    ≡ record_answer.Refused k q → at ≡ q
refused_here true true true kind start len at k q e = constructors_differ (cc)
refused_here true true false kind start len at k q e = cc
refused_here true false d kind start len at k q e = cc
refused_here false b d kind start len at k q e = cc

module _ (s : List ℕ) (at : ℕ) where
  abbrev answered : Bool → Read ℕ Refusal Request → RequestAnswer
  answered end r = cond end (record { answer = End; request = no_request }) (as_request r)

  pub read_done : (next : ℕ) → (read_request s at).answer ≡ Done next → request_at s at ≡ got (read_request s at).request next
  unfolding read_request
  read_done next e = go (eqb at (length s)) (request_at s at) e
    where
      go : (end : Bool) (r : Read ℕ Refusal Request) → (answered end r).answer ≡ Done next → r ≡ got (answered end r).request next
      go true r e = constructors_differ (cc)
      go false (got q n) e = let m : n ≡ next = cc in rw m
      go false (fault f) e = constructors_differ (cc)

  pub read_ended : (read_request s at).answer ≡ End → at ≡ length s
  unfolding read_request
  read_ended e = go (eqb at (length s)) refl (request_at s at) e
    where
      go : (end : Bool) → eqb at (length s) ≡ end → (r : Read ℕ Refusal Request) → (answered end r).answer ≡ End → at ≡ length s
      go true t r e = eqb-true _ _ t
      go false t (got q n) e = constructors_differ (cc)
      go false t (fault f) e = constructors_differ (cc)

  pub read_stopped : (k q : ℕ) → (read_request s at).answer ≡ Refused k q → at ≡ q
  unfolding read_request request_at in_record record_at
  read_stopped k q e = go (eqb at (length s)) (record_at s at 64) refl e
    where
      body : (next : ℕ) (m : Read (List ℕ) ℕ Request) → (as_request (on_body at next m)).answer ≡ Refused k q → at ≡ q
      body next (got r t) e = constructors_differ (cc)
      body next (fault j) e = cc

      go : (end : Bool) (r : RecordAnswer) → record_at s at 64 ≡ r → (answered end (on_record s at (λ kind. request) r)).answer ≡ Refused k q → at ≡ q
      go true r f e = constructors_differ (cc)
      go false (record_answer.Record kind start len) f e = body (start + len) (whole request (part s start len)) e
      go false (record_answer.Refused j p) f e =
          let h : p ≡ q = cc in
          refused_here (leb (at + 4) (length s)) (allowed 64 (number2 s (at + 2))) (leb (at + 4 + number2 s at) (length s)) _ _ _ at j p f ∙ h

-- ---- a request that was read: it takes some bytes, and its array holds its ids
pub record Taken (s : List ℕ) (at next : ℕ) (q : Request) : Type 0 where
  pub on : at + 4 ≤ next
  pub inside : next ≤ length s
  pub held : q.count ≤ length q.ids
  -- where the request was lent, nothing else tells how long its array is
  pub few : q.count ≤ 8

ids_held : (command : ℕ) (ids : List ℕ) → length ids ≤ 8
    → ((request_of command ids).count ≤ length (request_of command ids).ids) × ((request_of command ids).count ≤ 8)
unfolding request_of
ids_held command ids h = (simp length-append (omega arith), h)

ids_long : (n : ℕ) (b : List ℕ) {ids t : List ℕ} → ids_in n b ≡ got ids t → length ids ≡ n
ids_long zero b e = ap length (sym (got_value e))
ids_long (suc n) b e =
    let (x, b₁, f, g) = bind_got (number 2 b) (λ x. ids_in n >>= λ xs. done (x ∷ xs)) e in
    let (xs, b₂, h, i) = bind_got (ids_in n b₁) (λ xs. done (x ∷ xs)) g in
    ap length (sym (got_value i)) ∙ ap suc (ids_long n b₁ h)

body_held : (b : List ℕ) (q : Request) (t : List ℕ) → request b ≡ got q t → (q.count ≤ length q.ids) × (q.count ≤ 8)
unfolding request
body_held b q t e =
    let (command, b₁, c, d) = bind_got (byte b) (λ command. field 0 9 4 >>= λ count. ids_in count >>= λ ids. done (request_of command ids)) e in
    let (count, b₂, f, g) = bind_got (field 0 9 4 b₁) (λ count. ids_in count >>= λ ids. done (request_of command ids)) d in
    let (ids, b₃, i, j) = bind_got (ids_in count b₂) (λ ids. done (request_of command ids)) g in
    let below = field_between b₁ 0 9 4 count (ap value_of f) in
    rw (got_value {a = request_of command ids} {i = b₃} j) at (ids_held command ids (omega (arith, below.1, ids_long count b₂ i)))

pub taken : (s : List ℕ) (at : ℕ) (a : RequestAnswer) → a ≡ read_request s at → (next : ℕ) → a.answer ≡ Done next → Taken s at next a.request
unfolding request_at
taken s at a is next on =
    let e = read_done s at next (rw is at on) in
    let (kind, start, len, f, d, n) = in_record_back s 64 (λ kind. request) at e in
    let (held, few) = body_held _ _ _ d in
    record { on = omega (arith, f.behind); inside = omega (arith, f.inside); held = rw is held; few = rw is few }
