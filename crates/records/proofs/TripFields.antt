-- The round trips of a body's fields.
use Prim.Native.Nat.{ℕ, zero, suc, ◌+◌, ◌*◌, ◌/◌, ◌%◌, ◌^◌, ◌<◌, ◌≤◌}
use native.Mathlib.Omega.{arith}
use native.Mathlib.Nat.{pow-succ'}
use mathlib.Core.Bool.{◌&&◌}
use mathlib.Core.List.{[], ◌∷◌}
use mathlib.Core.Path.{refl}
use lib.Dec.{leb, ltb, leb→le, le→leb, ltb→lt, lt→ltb}
use mir.Facts.{and_yes, yes_and}
use Rattle.records.specs.Bytes.{little_endian}
use Rattle.records.specs.Reading.{byte, number, field}
use Rattle.records.proofs.FieldLaws.{byte_was}
use Rattle.records.proofs.Trip.{Trip, body, trip_as, trip_done, trip_check, trip_then, trip_last}

pub trip_byte : Trip body byte (λ v. v ∷ []) (λ v. v < 256)
trip_byte = record {
  there = λ v o i j r. rw r;
  back = λ i j v g e. let r = byte_was i v j e in (r, rw r at (g 0));
}

pub trip_number : (w : ℕ) → Trip body (number w) (little_endian w) (λ v. v < 256 ^ w)
unfolding little_endian
trip_number zero = trip_as (trip_done 0) (λ v o. refl) (λ v o. omega arith) (λ v o. omega arith)
trip_number (suc w) =
    trip_as (trip_then trip_byte (λ v. v % 256) (λ low v l o. omega arith) λ low l.
    trip_last (trip_number w) (λ high. low + 256 * high) (λ v. v / 256) (λ high h. omega arith))
    (λ v o. refl) (λ v o. rw pow-succ' (omega arith)) (λ v o. let h : v < 256 * 256 ^ w = rw pow-succ' at o in omega arith)

pub trip_field : (low limit k : ℕ) → Trip body (field low limit k) (λ v. v ∷ []) (λ v. (low ≤ v) × (v < limit) × (v < 256))
unfolding field
trip_field low limit k =
    trip_as (trip_then trip_byte (λ v. v) (λ v c l o. o.1) λ v l. trip_check (leb low v && ltb v limit) k λ t. trip_done v)
    (λ v o. refl)
    (λ v o. let b = and_yes (leb low v) (ltb v limit) o.1.0 in (leb→le low v b.0, ltb→lt v limit b.1, o.0))
    (λ v o. (o.2, (yes_and (leb low v) (ltb v limit) (le→leb low v o.0) (lt→ltb v limit o.1), refl)))
