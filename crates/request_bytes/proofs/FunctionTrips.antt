-- What `FunctionTrips` states of requests: the round trips of their bytes, behind the tests that the functions make around them.
-- Assumes nothing.
use Prim.Native.Nat.{ℕ, ◌-◌, ◌≤◌}
use native.Mathlib.Omega.{arith}
use mathlib.Core.List.{List, ◌++◌}
use mathlib.Core.Path.{◌≡◌, sym, ap, ◌∙◌}
use lib.ListN.{length, take, drop, length-append, length-take, length-drop, take-append-drop}
use lib.Seq.{take_at, take-take, length-take-le}
use borrow.Author.Tests.{le-leb}
use Rattle.records.specs.Bytes.{part}
use Rattle.records.specs.Writing.{placed, write_bytes}
use Rattle.records.proofs.PlacedLaws.{take_through_placed}
use Rattle.records.proofs.Wrote.{Wrote}
use Rattle.records.proofs.Trip.{read_write}
use Rattle.records.proofs.TripRecord.{in_record_back}
use Rattle.request_bytes.specs.FunctionTrips.{FunctionTrips}
use Rattle.request_bytes.specs.Read.{request, request_at}
use Rattle.request_bytes.specs.Write.{write_request}
use Rattle.request_bytes.specs.Outcome.RequestAnswer.{RequestAnswer}
use Rattle.request_bytes.proofs.Laws.{length_request, read_on}
use Rattle.request_bytes.proofs.Answered.{wrote_request, read_done}
use Rattle.request_bytes.proofs.RoundTrips.{ids_of_lem, record_trip, round_trips}

-- ---- written, then read

-- what begins as the buffer does holds the bytes too: placing them there changes nothing
module _ {out : List ℕ} {at : ℕ} {vs : List ℕ} {next : ℕ} {left : List ℕ} (w : Wrote out at vs next left) (bytes : List ℕ)
    (h : take next bytes ≡ take next left) where
  front : take next bytes ≡ take at out ++ vs
  front = h ∙ rw (w.stands, w.behind) (take_through_placed out at vs w.room)

  before : length (take at out) ≡ at
  before = length-take-le at out (omega (arith, w.room))

  long : next ≤ length bytes
  long = omega (arith, w.behind, before, length-append (take at out) vs, ap length front, length-take next bytes)

  again : placed bytes at vs ≡ bytes
  unfolding placed
  again =
      let e : take at bytes ≡ take at out = sym (take-take at next bytes (omega (arith, w.behind))) ∙ rw front (take_at (take at out) vs at before) in
      rw (e, ← front, ← w.behind) (take-append-drop next bytes)

-- ---- both
pub function_trips : FunctionTrips
unfolding part request_at write_request write_bytes
function_trips = record {
  written = λ out at command ids next left c low e.
      let (few, w) = wrote_request out at command ids next left e in (
        ids_of_lem command ids,
        λ bytes h.
            let l = long w bytes h in
            let n : at ≡ length bytes → ⊥ = λ z. omega (arith, w.behind, length_request command ids) in
            let t = round_trips.there bytes at command ids c few low (omega (arith, w.behind)) in
            sym (rw (rw (again w bytes h, ← w.behind) at t) at (read_on bytes at n)),
      );
  read = λ bytes at next q g e.
      let answer = ap (λ (x : RequestAnswer). x.answer) e in
      let r = rw (ap (λ (x : RequestAnswer). x.request) e) at (read_done bytes at next answer) in
      let (kind, start, len, f, d, n) = in_record_back bytes 64 (λ kind. request) at r in
      let (fits, stood, same) = read_write record_trip bytes at next q g r in
      let size : length (take (next - at) (drop at bytes)) ≡ next - at =
      length-take-le (next - at) (drop at bytes) (omega (arith, length-drop at bytes, f.inside, f.behind)) in (
        omega (arith, f.behind),
        omega (arith, f.inside),
        λ out to room. rw (le-leb _ _ fits.1, ← stood, size, le-leb _ _ room),
      );
}
