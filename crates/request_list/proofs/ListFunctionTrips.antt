-- Requests that were written one behind the other stand there as the bytes of their list, and so they read as that list.
-- Assumes nothing.
use Prim.Native.Nat.{ℕ, ◌+◌, ◌-◌, ◌≤◌}
use native.Mathlib.Omega.{arith}
use native.Mathlib.Nat.{sub-zero}
use mathlib.Core.Path.{◌≡◌, refl, sym, ap, ◌∙◌}
use mathlib.Core.List.{List, [], ◌∷◌, ◌++◌}
use lib.ListN.{length, length-append}
use Rattle.laws.specs.Check.{Each}
use Rattle.model.specs.Request.{Request}
use Rattle.records.specs.Bytes.{part}
use Rattle.records.specs.Outcome.Reading as reading
use Rattle.records.specs.Outcome.Writing.{Writing}
use Rattle.records.specs.Outcome.Writing as writing
use Rattle.records.proofs.PlacedLaws.{placed_none, placed_behind, length_placed}
use Rattle.records.proofs.Trip.{stand_placed, stand_part}
use Rattle.records.proofs.Wrote.{Wrote, pair_eq}
use Rattle.request_bytes.specs.Write.{write_request}
use Rattle.request_bytes.proofs.Answered.{wrote_request}
use Rattle.request_list.specs.List.{read_list, list_bytes}
use Rattle.request_list.specs.Write.{Sized, Writable, on_written, write_list}
use Rattle.request_list.specs.Promises.{ListFunctionTrips}
use Rattle.request_list.proofs.ListTrips.{list_trips}
use Rattle.laws.proofs.Differ.{constructors_differ}

-- what is written behind what was written
module _ {out : List ℕ} {at : ℕ} {xs : List ℕ} {next : ℕ} {left : List ℕ} (w : Wrote out at xs next left) where
  same_room : length left ≡ length out
  same_room = ap length w.stands ∙ length_placed out at xs w.room

  wrote_behind : {ys : List ℕ} {end : ℕ} {last : List ℕ} → Wrote left next ys end last → Wrote out at (xs ++ ys) end last
  wrote_behind {ys} v =
      let fits : at + length xs + length ys ≤ length out = omega (arith, v.room, w.behind, same_room) in
      record {
        room = omega (arith, length-append xs ys);
        behind = omega (arith, v.behind, w.behind, length-append xs ys);
        stands = v.stands ∙ rw (w.stands, w.behind) (placed_behind out at xs ys fits);
      }

abbrev Given : List ℕ → ℕ → List Request → ℕ → List ℕ → Type 0
Given out at qs next left = Each Writable qs × Wrote out at (list_bytes qs) next left

wrote_list : (qs : List Request) (out : List ℕ) (at next : ℕ) (left : List ℕ) → at ≤ length out → Each Sized qs →
    ◌≡◌ {A = Writing × List ℕ} (write_list out at qs) (writing.Done next, left) → Given out at qs next left
unfolding write_list
wrote_list [] out at next left i s e =
    let (a, b) = pair_eq e in
    let n : at ≡ next = cc in
    (tt, record { room = omega arith; behind = omega arith; stands = sym b ∙ sym (placed_none out at) })
wrote_list (q ∷ qs) out at next left i s e = go (write_request out at q.command q.ids) refl e (λ out at. wrote_list qs out at next left)
  where
    go : (w : Writing × List ℕ) → write_request out at q.command q.ids ≡ w →
        ◌≡◌ {A = Writing × List ℕ} (on_written (λ next left. write_list left next qs) w) (writing.Done next, left) →
        ((out : List ℕ) (at : ℕ) → at ≤ length out → Each Sized qs →
        ◌≡◌ {A = Writing × List ℕ} (write_list out at qs) (writing.Done next, left) → Given out at qs next left) →
        Given out at (q ∷ qs) next left
    go (writing.Done n, l) f e on =
        let (few, w) = wrote_request out at q.command q.ids n l f in
        let (all, r) = on l n (omega (arith, w.room, w.behind, same_room w)) s.1 e in
        ((record { sized = s.0; few = few }, all), wrote_behind w r)
    go (writing.Refused k, l) f e on = let (a, b) = pair_eq e in constructors_differ (cc)

-- the part where they stand is their bytes, and reads as them
reads_so : {out : List ℕ} {at : ℕ} (qs : List Request) {next : ℕ} {left : List ℕ} → Each Writable qs → Wrote out at (list_bytes qs) next left →
    read_list (part left at (next - at)) ≡ record { requests = qs; ending = reading.Done (next - at) }
reads_so {out} {at} qs {next} {left} all w =
    let n : length (list_bytes qs) ≡ next - at = omega (arith, w.behind) in
    let stood : part left at (next - at) ≡ list_bytes qs = rw (w.stands, w.behind) (stand_part _ (stand_placed out at (list_bytes qs) w.room)) in
    rw (stood, ← n) (list_trips.there qs all)

pub list_function_trips : ListFunctionTrips
unfolding part
list_function_trips = record {
  written = λ out at qs next left i s e. let (all, w) = wrote_list qs out at next left i s e in (w.stands, reads_so qs all w);
  written_first = λ out qs next left s e. let (all, w) = wrote_list qs out 0 next left (omega arith) s e in rw sub-zero at (reads_so qs all w);
}
