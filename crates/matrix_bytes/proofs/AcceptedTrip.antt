-- A matrix is accepted exactly if some bytes read as one with the same content, and it is tidy. What this adds to the round trips: an accepted matrix's
-- bytes are bytes, below 256; and acceptance depends on the content alone, apart from what is unused. Assumes nothing.
use Prim.Native.Nat.{ℕ, ◌+◌, ◌*◌, ◌/◌, ◌%◌, ◌^◌, ◌≤◌, ◌<◌}
use mathlib.Core.Path.{◌≡◌, refl, sym, ap, ◌∙◌}
use mathlib.Core.Logic.{◌≢◌, ◌⊎◌, inl, inr}
use mathlib.Core.Bool.{Bool, true, false, not, ◌&&◌}
use mathlib.Core.Option.{some}
use mathlib.Core.List.{List, [], ◌∷◌, ◌++◌}
use native.Mathlib.Omega.{arith}
use lib.Dec.{T, eqb, leb}
use lib.ListN.{length, get_or, get_or-eq_default}
use lib.Pow.{pow_pos}
use borrow.Author.Tests.{eqb-true, eqb-false, leb-true, leb-false}
use Rattle.laws.specs.Check.{is_some}
use Rattle.model.specs.Request.{Thing}
use Rattle.model.specs.Seats.{Matrix, among, known, seat, thing_in, thing_at, cell, place, paper_things, stands_for}
use Rattle.model.specs.Accepted.{standing, zero_thing, accepted_seat}
use Rattle.model.specs.declared.Head.{Head}
use Rattle.model.specs.declared.Things.{Things}
use Rattle.laws.proofs.Bools.{is_true}
use Rattle.model.proofs.Held.{Held}
use Rattle.model.proofs.HeldLaws.{seat_below, seat_typed, seat_ok, held, accepted}
use Rattle.model.proofs.Find.{find_lt, among_get, seat_is, some_known, some_thing, known_is, seat_lt}
use Rattle.records.specs.Bytes.{little_endian, record_bytes}
use Rattle.records.proofs.Trip.{Bytes}
use Rattle.records.proofs.Below.{Below, below_bytes, below_append, below_number, below_record}
use Rattle.matrix_records.specs.Content.{Stated, ThingRecord, CellRecord}
use Rattle.matrix_records.specs.Write.{head_bytes, thing_bytes, thing_kind, cell_bytes}
use Rattle.matrix_records.proofs.Trips.{Sized}
use Rattle.matrix_bytes.specs.Content.{things_of, cells_of}
use Rattle.matrix_bytes.specs.Write.{matrix_bytes}
use Rattle.matrix_bytes.specs.Promises.{Tidy, AcceptedIffRead}
use Rattle.matrix_bytes.proofs.Rising.{Rising, things_rising, things_few}
use Rattle.matrix_bytes.proofs.RestTrips.{things, cells}
use Rattle.matrix_bytes.proofs.RoundTrips.{sized, same_content_lem, there, back}
use Rattle.model.specs.Scheme.{no_type}

-- ---- the bytes of a matrix's parts
cells_below : (cs : List CellRecord) → Below (cells cs)
unfolding cell_bytes
cells_below [] = tt
cells_below (c ∷ cs) =
    let ids = below_append (little_endian 2 c.row) (little_endian 2 c.column) (below_number 2 _) (below_number 2 _) in
    below_append (record_bytes 5 (cell_bytes c)) (cells cs)
    (below_record 5 (cell_bytes c) (below_append (little_endian 2 c.row ++ little_endian 2 c.column) (little_endian 8 c.rights) ids (below_number 8 _)))
    (cells_below cs)

module _ (h : Head) (z : Sized h) where
  things_below : (last : ℕ) (ts : List ThingRecord) → Rising h last ts → Below (things ts)
  unfolding thing_bytes
  things_below last [] r = tt
  things_below last (t ∷ ts) r =
      let l : t.thing.type.0 < 256 = omega (arith, r.0.typed, z.types) in
      below_append (record_bytes (thing_kind t) (thing_bytes t)) (things ts)
      (below_record (thing_kind t) (thing_bytes t) (below_append (little_endian 2 t.id) (t.thing.type.0 ∷ []) (below_number 2 _) (l, tt)))
      (things_below t.id ts r.1)

  matrix_below : (m : Matrix) → Held h m → Bytes (matrix_bytes h m)
  unfolding matrix_bytes head_bytes
  matrix_below m ok =
      let stated : Stated = record { count = length (things_of m); highest = m.things.highest } in
      let front : List ℕ = head_bytes h.rights stated in
      let first : Below front = (omega (arith, z.rights), (omega (arith, things_few h m ok), below_number 2 _)) in
      below_bytes (matrix_bytes h m)
      (below_append (record_bytes 7 front ++ things (things_of m)) (cells (cells_of h m))
      (below_append (record_bytes 7 front) (things (things_of m)) (below_record 7 front first) (things_below 0 (things_of m) (things_rising h m ok)))
      (cells_below (cells_of h m)))

-- ---- an accepted matrix is tidy
free_stands : (h : Head) (th : Things) (i j : ℕ) → (get_or th.ids i 0 ≡ 0) ⊎ (get_or th.ids j 0 ≡ 0) → T (not (standing h th i j))
unfolding standing
free_stands h th i j (inl e) = rw e tt
free_stands h th i j (inr e) = rw e (go (not (eqb (get_or th.ids i 0) 0)) _)
  where
    go : (b c : Bool) → T (not (b && false && c))
    go true c = tt
    go false c = tt

seat_free : (h : Head) (th : Things) (x : ℕ) (t : Thing) → T (accepted_seat h th x t) → x ≡ 0 → T (zero_thing t)
unfolding accepted_seat
seat_free h th x t k e = rw e at k

free_seat : (h : Head) (th : Things) (x : ℕ) (t : Thing) → T (zero_thing t) → x ≡ 0 → T (accepted_seat h th x t)
unfolding accepted_seat
free_seat h th x t z e = rw e z

held_tidy : (h : Head) (m : Matrix) → Held h m → Tidy m
held_tidy h m ok = record {
  id_room = ok.things.id_room;
  type_room = ok.things.type_room;
  mark_room = ok.things.mark_room;
  cell_room = ok.cells.room;
  apart = ok.things.apart;
  free = λ i l e. seat_free h m.things _ _ (ok.things.seat i l) e;
  bare = λ i j l f. ok.cells.bare i j l (free_stands h m.things i j f);
}

-- ---- a tidy matrix with the content of an accepted one is accepted
thing_is : (th : Things) (x : ℕ) → T (known th x) → thing_at th x ≡ some (thing_in th (seat th x))
unfolding thing_at
thing_is th x k = rw (is_true (known th x) k)

right_is : (m : Matrix) (x y : ℕ) → T (known m.things x) → T (known m.things y) →
    (stands_for m).rights x y ≡ get_or m.cells (seat m.things x * 48 + seat m.things y) 0
unfolding stands_for cell place
right_is m x y k l = rw (is_true (known m.things x) k, is_true (known m.things y) l)

-- who sits at i, in a tidy matrix
module _ (m : Matrix) (tidy : Tidy m) (i : ℕ) (nz : get_or m.things.ids i 0 ≢ 0) where
  abbrev who : ℕ
  who = get_or m.things.ids i 0

  taken_lt : i < 48
  taken_lt = go (leb 48 i) refl
    where
      go : (b : Bool) → leb 48 i ≡ b → i < 48
      go true e = let l : length m.things.ids ≤ i = omega (arith, tidy.id_room, leb-true 48 i e) in absurd (nz (get_or-eq_default m.things.ids 0 l))
      go false e = leb-false 48 i e

  who_among : T (among m.things.ids who)
  who_among = among_get m.things.ids i (omega (arith, tidy.id_room, taken_lt))

  who_known : T (known m.things who)
  who_known = known_is m.things who nz who_among

  who_low : seat m.things who < 48
  unfolding seat
  who_low = rw tidy.id_room at (find_lt m.things.ids who who_among)

  who_seat : seat m.things who ≡ i
  who_seat = sym (tidy.apart i _ taken_lt who_low nz (sym (seat_is m.things who who_known)))

module _ (h : Head) (m read : Matrix) (tidy : Tidy m) (ok : Held h read) (same : stands_for read ≡ stands_for m) where
  abbrev id : ℕ → ℕ
  id i = get_or m.things.ids i 0

  abbrev there_seat : ℕ → ℕ
  there_seat i = seat read.things (id i)

  same_highest : read.things.highest ≡ m.things.highest
  unfolding stands_for paper_things
  same_highest = ap (λ p. p.things.highest) same

  -- who sits at i is a thing of the other, of the same type
  module _ (i : ℕ) (nz : get_or m.things.ids i 0 ≢ 0) where
    found : thing_at read.things (id i) ≡ some (thing_in m.things i)
    unfolding stands_for paper_things
    found = ap (λ p. p.things.thing (id i)) same ∙ thing_is m.things (id i) (who_known m tidy i nz) ∙ rw (who_seat m tidy i nz)

    found_known : T (known read.things (id i))
    unfolding is_some
    found_known = some_known read.things (id i) (rw found tt)

    found_id : get_or read.things.ids (there_seat i) 0 ≡ id i
    found_id = seat_is read.things (id i) found_known

    found_thing : thing_in read.things (there_seat i) ≡ thing_in m.things i
    found_thing = some_thing read.things (id i) _ found

    found_low : there_seat i < 48
    found_low = seat_lt h read.things ok.things (id i) found_known

    found_seat : T (accepted_seat h m.things (id i) (thing_in m.things i))
    found_seat =
        let t = ok.things.seat (there_seat i) found_low in
        let below : id i ≤ m.things.highest = rw (found_id, same_highest) at (seat_below h read.things _ _ t) in
        let typed : (thing_in m.things i).type.0 < h.types = rw found_thing at (seat_typed h read.things _ _ t (λ e. nz (sym found_id ∙ e))) in
        seat_ok h m.things (id i) (thing_in m.things i) nz below typed

  -- the cell of two of them is the other's
  found_cell : (i j : ℕ) → id i ≢ 0 → id j ≢ 0 → get_or m.cells (i * 48 + j) 0 ≡ get_or read.cells (there_seat i * 48 + there_seat j) 0
  found_cell i j p q =
      let mine = rw (who_seat m tidy i p, who_seat m tidy j q) at (right_is m (id i) (id j) (who_known m tidy i p) (who_known m tidy j q)) in
      sym mine ∙ sym (ap (λ s. s.rights (id i) (id j)) same) ∙ right_is read (id i) (id j) (found_known i p) (found_known j q)

  -- so what holds of 0 and of the other's cells holds of every place
  by_cell : (P : ℕ → Type 0) (i j : ℕ) → j < 48 → P 0 → (id i ≢ 0 → id j ≢ 0 → P (get_or read.cells (there_seat i * 48 + there_seat j) 0)) →
      P (get_or m.cells (i * 48 + j) 0)
  by_cell P i j l none full = go (eqb (id i) 0) refl (eqb (id j) 0) refl
    where
      go : (a : Bool) → eqb (id i) 0 ≡ a → (b : Bool) → eqb (id j) 0 ≡ b → P (get_or m.cells (i * 48 + j) 0)
      go true e b f = rw (tidy.bare i j l (inl (eqb-true (id i) 0 e))) none
      go false e true f = rw (tidy.bare i j l (inr (eqb-true (id j) 0 f))) none
      go false e false f = let p = eqb-false (id i) 0 e in let q = eqb-false (id j) 0 f in rw (found_cell i j p q) (full p q)

  by_thing : (P : Type 0) (i : ℕ) → (id i ≡ 0 → P) → (id i ≢ 0 → P) → P
  by_thing P i f g = go (eqb (id i) 0) refl
    where
      go : (b : Bool) → eqb (id i) 0 ≡ b → P
      go true e = f (eqb-true (id i) 0 e)
      go false e = g (eqb-false (id i) 0 e)

  same_standing : (i j : ℕ) → id i ≢ 0 → id j ≢ 0 → standing h read.things (there_seat i) (there_seat j) ≡ standing h m.things i j
  unfolding standing thing_in
  same_standing i j p q =
      let type : get_or read.things.types (there_seat i) no_type ≡ get_or m.things.types i no_type = ap (λ t. t.type) (found_thing i p) in
      rw (found_id i p, found_id j q, type)

  tidy_held : Held h m
  tidy_held = record {
    things = record {
      id_room = tidy.id_room;
      type_room = tidy.type_room;
      mark_room = tidy.mark_room;
      reach = rw same_highest at ok.things.reach;
      apart = tidy.apart;
      seat = λ i l. by_thing (T (accepted_seat h m.things (id i) (thing_in m.things i))) i (λ e. free_seat h m.things _ _ (tidy.free i l e) e) (found_seat i);
    };
    cells = record {
      room = tidy.cell_room;
      small = λ k.
          let e : k / 48 * 48 + k % 48 ≡ k = omega arith in
          rw e at (by_cell (λ v. v < 2 ^ h.rights) (k / 48) (k % 48) (omega arith) (pow_pos h.rights) (λ p q. ok.cells.small _));
      bare = λ i j l n. by_cell (λ v. v ≡ 0) i j l refl (λ p q.
          ok.cells.bare (there_seat i) (there_seat j) (found_low j q) (rw (same_standing i j p q) n));
    };
  }

-- ---- accepted exactly if read
pub accepted_iff_read : AcceptedIffRead
accepted_iff_read = record {
  reads = λ s m t u.
      let h = s.head in
      let z = sized s t in
      let ok = held h m u in
      (held_tidy h m ok, matrix_below h z m ok, there h z m ok, same_content_lem h m ok);
  accepts = λ s m read bytes next t g e same tidy.
      let ok = (back s.head (sized s t) bytes read next g e).0 in
      accepted s.head m (tidy_held s.head m read tidy ok same);
}
