-- The highest listed id of things that took the seats in order; and the matrix of these things and of some cells by that highest, which is the same whatever
-- highest they were seated with. Assumes nothing.
use Prim.Native.Nat.{ℕ, zero, suc, max, ◌-◌, ◌≤◌}
use native.Mathlib.Omega.{arith}
use mathlib.Core.List.{List, [], ◌∷◌, ◌++◌}
use mathlib.Core.Path.{◌≡◌, refl, sym, ap, ◌∙◌}
use lib.ListN.{length, replicate}
use Rattle.model.specs.Seats.{Matrix, seat, place, matrix_of, no_things, with_highest, put_thing}
use Rattle.model.specs.declared.Things.{Things}
use Rattle.matrix_records.specs.Content.{ThingRecord, CellRecord, nobody}
use Rattle.matrix_records.proofs.Listed.{ids, seated_ids}
use Rattle.matrix_bytes.specs.Content.{seat_all, things_from, store, store_all, matrix_from}
use Rattle.matrix_bytes.proofs.Seating.{from_room, from_seated, UpTo}
use Rattle.moving.specs.Old.{highest_of, highest_listed, by_listed}

-- ---- the ids of the seats: a free one's is 0, so only the things count
behind_highest : (n : ℕ) (ts : List ThingRecord) → highest_of (ids (ts ++ replicate n nobody)) ≡ highest_of (ids ts)
unfolding highest_of
behind_highest zero [] = refl
behind_highest (suc n) [] = rw (behind_highest n [])
behind_highest n (t ∷ ts) = rw (behind_highest n ts)

pub listed_ids : (x : ℕ) (ts : List ThingRecord) → length ts ≤ 48 → highest_listed (things_from x ts) ≡ highest_of (ids ts)
unfolding highest_listed
listed_ids x ts few =
    ap highest_of (sym (seated_ids (things_from x ts) (from_room x ts).ids))
    ∙ rw (from_seated x ts few) (behind_highest (48 - length ts) ts)

-- ---- no listed id is above the highest of them
up_to_more : (x y : ℕ) (ts : List ThingRecord) → x ≤ y → UpTo x ts → UpTo y ts
up_to_more x y [] l u = tt
up_to_more x y (t ∷ ts) l u = (omega (arith, u.0), up_to_more x y ts l u.1)

pub up_to_listed : (ts : List ThingRecord) → UpTo (highest_of (ids ts)) ts
unfolding highest_of
up_to_listed [] = tt
up_to_listed (t ∷ ts) = (omega arith, up_to_more (highest_of (ids ts)) (highest_of (ids (t ∷ ts))) ts (omega arith) (up_to_listed ts))

-- ---- things raise the highest as they take their seats, and it has no part in who sits where
seat_raised : (x i : ℕ) (ts : List ThingRecord) (th : Things) →
    seat_all i ts (with_highest x th) ≡ with_highest (max x (highest_of (ids ts))) (seat_all i ts th)
unfolding seat_all put_thing highest_of
seat_raised x i [] th = let e : x ≡ max x 0 = omega arith in ap (λ (y : ℕ). with_highest y th) e
seat_raised x i (t ∷ ts) th =
    let e : max (max x t.id) (highest_of (ids ts)) ≡ max x (max t.id (highest_of (ids ts))) = omega arith in
    seat_raised (max x t.id) (suc i) ts (put_thing i t.id t.thing th) ∙ rw e

from_raised : (x y : ℕ) (ts : List ThingRecord) → things_from x ts ≡ with_highest (max x (highest_of (ids ts))) (things_from y ts)
unfolding things_from
from_raised x y ts = seat_raised x 0 ts (with_highest y no_things)

-- ---- nor in where a cell is kept
store_same : (x : ℕ) (th : Things) (cells : List ℕ) (cs : List CellRecord) → store_all (with_highest x th) cells cs ≡ store_all th cells cs
unfolding store_all store place seat
store_same x th cells [] = refl
store_same x th cells (c ∷ cs) = store_same x th (store th cells c) cs

-- ---- the matrix
abbrev raised : ℕ → Matrix → Matrix
raised x m = matrix_of (with_highest x m.things) m.cells

matrix_raised : (x y : ℕ) (ts : List ThingRecord) (cs : List CellRecord) →
    matrix_from x ts cs ≡ raised (max x (highest_of (ids ts))) (matrix_from y ts cs)
unfolding matrix_from
matrix_raised x y ts cs = rw (from_raised x y ts) (ap (matrix_of _) (store_same _ (things_from y ts) (replicate 2304 0) cs))

-- by its own highest listed id
matrix_listed : (x : ℕ) (ts : List ThingRecord) (cs : List CellRecord) →
    matrix_from (highest_of (ids ts)) ts cs ≡ raised (highest_of (ids ts)) (matrix_from x ts cs)
matrix_listed x ts cs =
    let e : max (highest_of (ids ts)) (highest_of (ids ts)) ≡ highest_of (ids ts) = omega arith in
    matrix_raised (highest_of (ids ts)) x ts cs ∙ ap (λ (y : ℕ). raised y (matrix_from x ts cs)) e

pub listed_from : (x : ℕ) (ts : List ThingRecord) (cs : List CellRecord) → length ts ≤ 48 →
    by_listed (matrix_from x ts cs) ≡ matrix_from (highest_of (ids ts)) ts cs
unfolding by_listed matrix_from
listed_from x ts cs few = ap (λ (y : ℕ). raised y (matrix_from x ts cs)) (listed_ids x ts few) ∙ sym (matrix_listed x ts cs)

pub listed_zero : (ts : List ThingRecord) (cs : List CellRecord) → matrix_from 0 ts cs ≡ matrix_from (highest_of (ids ts)) ts cs
listed_zero ts cs =
    let e : max 0 (highest_of (ids ts)) ≡ highest_of (ids ts) = omega arith in
    matrix_raised 0 0 ts cs ∙ ap (λ (y : ℕ). raised y (matrix_from 0 ts cs)) e ∙ sym (matrix_listed 0 ts cs)
