-- A mark and the bytes of a matrix: a mark moves no thing and no cell, so a matrix and the one that its bytes read as, marked alike, have the same bytes.
-- Assumes nothing.
use Prim.Native.Nat.{ℕ, zero, suc, ◌+◌, ◌≤◌, ◌<◌}
use native.Mathlib.Omega.{arith}
use mathlib.Core.Path.{◌≡◌, refl}
use mathlib.Core.Bool.{Bool, true, false, cond}
use mathlib.Core.List.{List, [], ◌∷◌, map}
use lib.Dec.{T, eqb, ltb}
use lib.ListN.{get_or, set}
use lib.Seq.{get_or-set_same, get_or-set_other}
use borrow.Author.Tests.{eqb-true, eqb-false}
use Rattle.model.specs.Seats.{Matrix, matrix_of, known, seat, place, cell, thing_in}
use Rattle.model.specs.declared.Head.{Head}
use Rattle.model.specs.declared.Things.{Things}
use Rattle.model.proofs.Held.{Held}
use Rattle.model.proofs.Find.{known_nonzero, seat_is, seat_at}
use Rattle.matrix_records.specs.Content.{ThingRecord, record_in, records_from, seated}
use Rattle.matrix_bytes.specs.Content.{insert, rising, things_of, row_of, rows_of, cells_of, matrix_from, reseated}
use Rattle.matrix_bytes.specs.Write.{matrix_bytes}
use Rattle.matrix_bytes.proofs.Seating.{from_highest}
use Rattle.matrix_bytes.proofs.Rising.{ThingsOk, things_ok, things_again}
use Rattle.matrix_bytes.proofs.Cells.{cells_between, cells_each}
use Rattle.matrix_bytes.proofs.Stored.{from_accepted, cells_again}
use Rattle.hold.specs.Marking.{mark_seat}

-- the matrix in which X has this mark
abbrev pub with_mark : Bool → ℕ → Matrix → Matrix
with_mark b x m = matrix_of (mark_seat b (seat m.things x) m.things) m.cells

module _ (b : Bool) (x : ℕ) where
  -- a record with the mark, if it is X's; its id and its type are as they were
  abbrev mark : ThingRecord → ThingRecord
  mark t = record { id = t.id; thing = record { type = t.thing.type; on_hold = cond (eqb t.id x) b t.thing.on_hold } }

  -- ---- the order of the things looks at their ids
  insert_mark : (t : ThingRecord) (us : List ThingRecord) → insert (mark t) (map mark us) ≡ map mark (insert t us)
  unfolding insert
  insert_mark t [] = refl
  insert_mark t (u ∷ us) = go (ltb t.id u.id) (insert_mark t us)
    where
      go : (c : Bool) → insert (mark t) (map mark us) ≡ map mark (insert t us) →
          cond c (mark t ∷ mark u ∷ map mark us) (mark u ∷ insert (mark t) (map mark us)) ≡ map mark (cond c (t ∷ u ∷ us) (u ∷ insert t us))
      go true e = refl
      go false e = rw e

  rising_mark : (ts : List ThingRecord) → rising (map mark ts) ≡ map mark (rising ts)
  unfolding rising
  rising_mark [] = refl
  rising_mark (t ∷ ts) = go (eqb t.id 0) (rising_mark ts)
    where
      go : (c : Bool) → rising (map mark ts) ≡ map mark (rising ts) →
          cond c (rising (map mark ts)) (insert (mark t) (rising (map mark ts))) ≡ map mark (cond c (rising ts) (insert t (rising ts)))
      go true e = e
      go false e = rw e (insert_mark t (rising ts))

  module _ (h : Head) (m : Matrix) where
    -- ---- the cells look at ids and types
    row_mark : (y : ℕ) (us : List ThingRecord) → row_of (with_mark b x m) y (map mark us) ≡ row_of m y us
    unfolding row_of cell place seat mark_seat
    row_mark y [] = refl
    row_mark y (u ∷ us) = rw (row_mark y us)

    rows_mark : (us ts : List ThingRecord) → rows_of h (with_mark b x m) (map mark us) (map mark ts) ≡ rows_of h m us ts
    unfolding rows_of
    rows_mark us [] = refl
    rows_mark us (t ∷ ts) = rw (row_mark t.id us, rows_mark us ts)

    -- ---- who sits where, where X is a thing's id
    module _ (ok : Held h m) (k : T (known m.things x)) where
      abbrev th : Things
      th = m.things

      -- X's is the one seat that has its id
      mark_at : (i : ℕ) → i < 48 → (c : Bool) → eqb (get_or th.ids i 0) x ≡ c →
          get_or (set th.marks (seat th x) b) i false ≡ cond c b (get_or th.marks i false)
      mark_at i l true e =
          let is : get_or th.ids i 0 ≡ x = eqb-true _ x e in
          let here : seat th x ≡ i = rw is at (seat_at h th ok.things i l (rw is (known_nonzero th x k))) in
          rw here (get_or-set_same th.marks i b false (rw ok.things.mark_room l))
      mark_at i l false e = get_or-set_other th.marks (seat th x) i b false (λ q. eqb-false _ x e (rw q (seat_is th x k)))

      record_mark : (i : ℕ) → i < 48 → record_in (with_mark b x m).things i ≡ mark (record_in th i)
      unfolding record_in thing_in mark_seat
      record_mark i l = rw (mark_at i l (eqb (get_or th.ids i 0) x) refl)

      records-mark : (i n : ℕ) → i + n ≤ 48 → records_from (with_mark b x m).things i n ≡ map mark (records_from th i n)
      unfolding records_from
      records-mark i zero l = refl
      records-mark i (suc n) l = rw (record_mark i (omega arith), records-mark (suc i) n (omega arith))

      things_mark : things_of (with_mark b x m) ≡ map mark (things_of m)
      unfolding things_of seated
      things_mark = rw (records-mark 0 48 (omega arith)) (rising_mark (records_from th 0 48))

      cells_mark : cells_of h (with_mark b x m) ≡ cells_of h m
      unfolding cells_of
      cells_mark = rw things_mark (rows_mark (things_of m) (things_of m))

-- ---- a matrix, and what its bytes read as
module _ (h : Head) (m : Matrix) (ok : Held h m) where
  abbrev again : Matrix
  again = reseated h m

  listed : ThingsOk h m.things.highest (things_of m)
  listed = things_ok h m ok

  again_held : Held h again
  again_held = from_accepted h m.things.highest (things_of m) listed (cells_of h m) (cells_each h m ok)

  again_highest : again.things.highest ≡ m.things.highest
  unfolding matrix_from
  again_highest = from_highest m.things.highest (things_of m) listed.below

  pub marked_bytes : (b : Bool) (x : ℕ) → T (known m.things x) → T (known again.things x) →
      matrix_bytes h (with_mark b x again) ≡ matrix_bytes h (with_mark b x m)
  unfolding matrix_bytes mark_seat
  marked_bytes b x k l =
      rw (
        things_mark b x h again again_held l,
        cells_mark b x h again again_held l,
        things_mark b x h m ok k,
        cells_mark b x h m ok k,
        things_again h m.things.highest (things_of m) listed (cells_of h m),
        cells_again h m.things.highest (things_of m) listed (cells_of h m) (cells_each h m ok) (cells_between h m ok),
        again_highest,
      )
