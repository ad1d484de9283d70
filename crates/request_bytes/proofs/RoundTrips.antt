-- A request's round trips: those of its body line by line, then those of its record. Assumes nothing.
use Prim.Native.Nat.{ℕ, zero, suc, ◌-◌, ◌^◌, ◌<◌, ◌≤◌}
use native.Mathlib.Omega.{arith}
use mathlib.Core.List.{List, [], ◌∷◌}
use mathlib.Core.Path.{◌≡◌, refl, ap}
use lib.ListN.{length, get_or, replicate}
use lib.Seq.{take-append_seam}
use Rattle.records.specs.Bytes.{little_endian, each_bytes}
use Rattle.records.proofs.Trip.{Trip, body, input, OkAll, write_read, read_write, trip_as, trip_then, trip_last, trip_steps}
use Rattle.records.proofs.TripFields.{trip_byte, trip_field, trip_number}
use Rattle.records.proofs.TripRecord.{trip_kind}
use Rattle.request_bytes.specs.Promises.{RoundTrips}
use Rattle.request_bytes.specs.Read.{ids_of, request_of, request, request_at}
use Rattle.request_bytes.specs.Write.{request_bytes}
use Rattle.request_bytes.specs.declared.Request.{Request}
use Rattle.request_bytes.proofs.Laws.{length_ids}

abbrev pub Low : List ℕ → Type 0
Low ids = OkAll (λ (u : Unit {0}) x. u) (λ u x. x < 256 ^ 2) tt ids

pub low : (ids : List ℕ) → ((i : ℕ) → get_or ids i 0 < 65536) → Low ids
low [] h = tt
low (x ∷ ids) h = (h 0, low ids (λ i. h (suc i)))

pub low_at : (ids : List ℕ) → Low ids → (i : ℕ) → get_or ids i 0 < 65536
low_at [] o i = omega arith
low_at (x ∷ ids) o zero = o.0
low_at (x ∷ ids) o (suc i) = low_at ids o.1 i

-- what is read, and can be written: a byte, up to 8 ids of two bytes, and zeros behind them
abbrev pub Fits : Request → Type 0
Fits q = (q.command < 256) × (length (ids_of q) ≤ 8) × Low (ids_of q) × (q ≡ request_of q.command (ids_of q))

pub ids_of_lem : (command : ℕ) (ids : List ℕ) → ids_of (request_of command ids) ≡ ids
unfolding request_of
ids_of_lem command ids = take-append_seam ids (replicate (8 - length ids) 0)

pub fits : (command : ℕ) (ids : List ℕ) → command < 256 → length ids ≤ 8 → Low ids → Fits (request_of command ids)
unfolding request_of
fits command ids c l o = rw (ids_of_lem command ids) (c, l, o, refl)

pub bytes_of : (command : ℕ) (ids : List ℕ) → request_bytes (request_of command ids).command (ids_of (request_of command ids)) ≡ request_bytes command ids
unfolding request_of
bytes_of command ids = ap (request_bytes command) (ids_of_lem command ids)

body_trip : Trip body request (λ q. q.command ∷ length (ids_of q) ∷ each_bytes (little_endian 2) (ids_of q)) Fits
unfolding request request_of
body_trip =
    trip_as
    (trip_then trip_byte (λ q. q.command) (λ command q h o. ap (λ (r : Request). r.command) o.1.1) λ command h.
    trip_then (trip_field 0 9 4) (λ q. length (ids_of q)) (λ count q h o. o.0.1) λ count h.
    trip_last (trip_steps (λ u. trip_number 2) (λ u x. u) count tt) (request_of command) ids_of λ ids h. ids_of_lem command ids)
    (λ q o. refl)
    (λ q o. (o.0, omega arith, o.1.1.0.0, o.1.1.1))
    (λ q o. (o.0, ((omega arith, omega arith, omega arith), ((o.2, refl), o.3))))

pub record_trip : (s : List ℕ) → Trip (input s) (request_at s) (λ q. request_bytes q.command (ids_of q)) Fits
unfolding request_at request_bytes
record_trip s = trip_kind s 6 (omega arith) body_trip (λ q o. omega (arith, length_ids (ids_of q)))

pub round_trips : RoundTrips
round_trips = record {
  there = λ out at command ids c l h f.
      rw bytes_of at (write_read record_trip out at (request_of command ids) (fits command ids c l (low ids h)) (rw bytes_of f));
  back = λ bytes at next q g e. let (o, p, a) = read_write record_trip bytes at next q g e in (p, o.3);
}
