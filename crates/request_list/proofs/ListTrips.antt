-- A list's round trips: those of its requests, one behind the other.
-- Assumes nothing.
use Prim.Native.Nat.{ℕ, zero, suc, ◌+◌, ◌≤◌, ◌<◌}
use native.Mathlib.Omega.{arith}
use native.Mathlib.Nat.{zero-add, sub-zero}
use mathlib.Core.Path.{◌≡◌, refl, sym, ap, ◌∙◌}
use mathlib.Core.List.{List, [], ◌∷◌, append-nil}
use lib.ListN.{length, take, length-append}
use lib.Seq.{drop-length}
use Rattle.laws.specs.Check.{Each}
use Rattle.model.specs.Request.{Request}
use Rattle.records.specs.Bytes.{part}
use Rattle.records.specs.Outcome.Reading.{Reading}
use Rattle.records.specs.Outcome.Reading as reading
use Rattle.records.proofs.Trip.{Bytes, Stand, stand_none, stand_join, stand_split, stand_part}
use Rattle.request_bytes.specs.Read.{ids_of, request_of, read_request}
use Rattle.request_bytes.specs.Write.{request_bytes}
use Rattle.request_bytes.specs.declared.Request.{Request as Form}
use Rattle.request_bytes.specs.Outcome.RequestAnswer.{RequestAnswer}
use Rattle.request_bytes.specs.Outcome.RequestReading.{RequestReading}
use Rattle.request_bytes.specs.Outcome.RequestReading.{Done, End, Refused}
use Rattle.request_bytes.proofs.Laws.{length_request, read_end, read_on}
use Rattle.request_bytes.proofs.Answered.{read_done, read_ended, read_stopped, taken}
use Rattle.request_bytes.proofs.RoundTrips.{Fits, low, low_at, fits, ids_of_lem, bytes_of, record_trip}
use Rattle.request_list.specs.List.{Listed, asked, on_answer, read_from, read_list, list_bytes}
use Rattle.request_list.specs.Write.{Writable}
use Rattle.request_list.specs.Promises.{ListTrips}
use Rattle.request_list.proofs.ListLaws.{from_end, from_on}
use Rattle.laws.proofs.Differ.{constructors_differ}

-- ---- written, then read

fits_of : (q : Request) → Writable q → Fits (request_of q.command q.ids)
fits_of q w = fits q.command q.ids w.sized.command w.few (low q.ids w.sized.ids)

asked_of : (q : Request) → asked (request_of q.command q.ids) ≡ q
unfolding request_of
asked_of q = ap (λ (ids : List ℕ). record { command = q.command; ids = ids }) (ids_of_lem q.command q.ids)

from_there : (fuel : ℕ) (bytes : List ℕ) (p : ℕ) (qs : List Request) → Each Writable qs → Stand bytes (list_bytes qs) p (length bytes) →
    length bytes ≤ p + fuel → read_from fuel bytes p ≡ record { requests = qs; ending = reading.Done (length bytes) }
from_there fuel bytes p [] w s h = let e : p ≡ length bytes = omega (arith, s.next) in rw (from_end fuel bytes p e, e)
from_there zero bytes p (q ∷ qs) w s h =
    absurd (omega (arith, s.next, length-append (request_bytes q.command q.ids) (list_bytes qs), length_request q.command q.ids))
from_there (suc fuel) bytes p (q ∷ qs) w s h =
    let (j, a, b) = stand_split bytes (request_bytes q.command q.ids) (list_bytes qs) s in
    let long : p + 6 ≤ j = omega (arith, a.next, length_request q.command q.ids) in
    let inside : j ≤ length bytes = omega (arith, b.next) in
    let e = (record_trip bytes).there (request_of q.command q.ids) (fits_of q w.0) p j (rw bytes_of a) in
    let r = rw e at (read_on bytes p (λ z. omega arith)) in
    from_on fuel bytes p _ r j refl ∙ rw (asked_of q, from_there fuel bytes j qs w.1 b (omega arith))

-- ---- read, then written

writable_of : (q : Form) → Fits q → Writable (asked q)
writable_of q f = record { sized = record { command = f.0; ids = low_at (ids_of q) f.2 }; few = f.1 }

-- how a list that was read from its bytes ends at a position: where the bytes end, or at the record that is refused
abbrev EndsAt : List ℕ → ℕ → Reading → Type 0
EndsAt bytes p (reading.Done next) = (p ≡ next) × (p ≡ length bytes)
EndsAt bytes p (reading.Refused k at) = (p ≡ at) × (p < length bytes)

record Stopped (bytes : List ℕ) (p : ℕ) (l : Listed) : Type 0 where
  stop : ℕ
  inside : stop ≤ length bytes
  stands : Stand bytes (list_bytes l.requests) p stop
  all : Each Writable l.requests
  ends : EndsAt bytes stop l.ending

from_back : (fuel : ℕ) (bytes : List ℕ) (p : ℕ) → Bytes bytes → p ≤ length bytes → length bytes ≤ p + fuel → Stopped bytes p (read_from fuel bytes p)
unfolding read_from
from_back zero bytes p g i h = record { stop = p; inside = i; stands = stand_none bytes p; all = tt; ends = (refl, omega arith) }
from_back (suc fuel) bytes p g i h = go (read_request bytes p).answer refl (λ next. from_back fuel bytes next g)
  where
    go : (r : RequestReading) → (read_request bytes p).answer ≡ r →
        ((next : ℕ) → next ≤ length bytes → length bytes ≤ next + fuel → Stopped bytes next (read_from fuel bytes next)) →
        Stopped bytes p (on_answer p (read_request bytes p).request (read_from fuel bytes) r)
    go (Done next) e on =
        let (stood, f) = (record_trip bytes).back p next _ g (read_done bytes p next e) in
        let t = taken bytes p _ refl next e in
        let rest = on next t.inside (omega (arith, t.on)) in
        record {
          stop = rest.stop;
          inside = rest.inside;
          stands = stand_join bytes _ _ stood rest.stands;
          all = (writable_of _ f, rest.all);
          ends = rest.ends;
        }
    go End e on = record { stop = p; inside = i; stands = stand_none bytes p; all = tt; ends = (refl, read_ended bytes p e) }
    go (Refused k q) e on =
        let more : p ≡ length bytes → ⊥ = λ z. let b = ap (λ (x : RequestAnswer). x.answer) (read_end bytes p z) ∙ e in constructors_differ (cc) in
        record { stop = p; inside = i; stands = stand_none bytes p; all = tt; ends = (read_stopped bytes p k q e, omega (arith, more)) }

list_back : (bytes : List ℕ) → Bytes bytes → Stopped bytes 0 (read_list bytes)
unfolding read_list
list_back bytes g = from_back (length bytes) bytes 0 g (omega arith) (omega arith)

-- ---- both

module _ (bytes : List ℕ) (s : Stopped bytes 0 (read_list bytes)) where
  whole_back : (next : ℕ) → (read_list bytes).ending ≡ reading.Done next → (next ≡ length bytes) × (bytes ≡ list_bytes (read_list bytes).requests)
  whole_back next e = let (a, b) = rw e at s.ends in (omega arith, s.stands.bytes ∙ rw (b, drop-length, append-nil))

  cut_back : (k at : ℕ) → (read_list bytes).ending ≡ reading.Refused k at → (at < length bytes) × (take at bytes ≡ list_bytes (read_list bytes).requests)
  unfolding part
  cut_back k at e = let (a, b) = rw e at s.ends in (omega arith, rw (sub-zero, a) at (stand_part bytes s.stands))

pub list_trips : ListTrips
unfolding read_list
list_trips = record {
  there = λ qs w.
      from_there (length (list_bytes qs)) (list_bytes qs) 0 qs w (record { next = sym (zero-add _); bytes = rw (drop-length, append-nil) }) (omega arith);
  back = λ bytes next g e. whole_back bytes (list_back bytes g) next e;
  cut = λ bytes k at g e. cut_back bytes (list_back bytes g) k at e;
  writable = λ bytes g. (list_back bytes g).all;
}
