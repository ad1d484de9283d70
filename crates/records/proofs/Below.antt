-- Lists of numbers below 256, one by one: what is written by parts is bytes if its parts are.
-- Assumes nothing.
use Prim.Native.Nat.{ℕ, zero, suc, ◌/◌, ◌<◌}
use native.Mathlib.Omega.{arith}
use mathlib.Core.List.{List, [], ◌∷◌, ◌++◌}
use Rattle.records.specs.Bytes.{little_endian, record_bytes}
use Rattle.records.proofs.Trip.{Bytes}

abbrev pub Below : List ℕ → Type 0
Below [] = Unit {0}
Below (v ∷ l) = (v < 256) × Below l

pub below_bytes : (l : List ℕ) → Below l → Bytes l
below_bytes [] s i = omega arith
below_bytes (v ∷ l) s zero = s.0
below_bytes (v ∷ l) s (suc i) = below_bytes l s.1 i

pub below_append : (a b : List ℕ) → Below a → Below b → Below (a ++ b)
below_append [] b s t = t
below_append (v ∷ a) b s t = (s.0, below_append a b s.1 t)

pub below_number : (w v : ℕ) → Below (little_endian w v)
unfolding little_endian
below_number zero v = tt
below_number (suc w) v = (omega arith, below_number w (v / 256))

pub below_record : (kind : ℕ) (body : List ℕ) → Below body → Below (record_bytes kind body)
unfolding record_bytes little_endian
below_record kind body s = (omega arith, (omega arith, (omega arith, (omega arith, s))))
