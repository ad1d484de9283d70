-- The matrix made of a rising list of things and a rising list of cells of them: it is accepted, and says just what the lists say.
-- Assumes nothing.
use Prim.Native.Nat.{ℕ, zero, suc, ◌+◌, ◌*◌, ◌/◌, ◌%◌, ◌^◌, ◌≤◌, ◌<◌}
use mathlib.Core.Path.{◌≡◌, refl, sym, ◌∙◌}
use mathlib.Core.Bool.{Bool, true, false, not, cond, ◌&&◌}
use mathlib.Core.List.{List, [], ◌∷◌}
use native.Mathlib.Omega.{arith}
use lib.Dec.{T, eqb}
use lib.ListN.{length, get_or, set, replicate, length-set, length-replicate}
use lib.Pow.{pow_pos}
use lib.Seq.{get_or-set_same, get_or-set_other}
use borrow.Author.Tests.{eqb-true, eqb-false}
use Rattle.laws.specs.Check.{is_some}
use Rattle.model.specs.Scheme.{is_subject, no_type}
use Rattle.model.specs.Seats.{Matrix, known, seat, place, cell, stands_for}
use Rattle.model.specs.Accepted.{standing}
use Rattle.model.specs.declared.Head.{Head}
use Rattle.model.specs.declared.Things.{Things}
use Rattle.laws.proofs.Bools.{from_true, and_left, and_right, and_both, not_both, eqb_not}
use Rattle.model.proofs.Held.{HeldThings, Held}
use Rattle.model.proofs.HeldLaws.{ids_small}
use Rattle.model.proofs.Find.{known_nonzero, seat_is, seat_lt}
use Rattle.model.proofs.SeatChange.{stored}
use Rattle.matrix_records.specs.Content.{ThingRecord, CellRecord}
use Rattle.matrix_records.specs.Read.{thing_with}
use Rattle.matrix_records.proofs.Trips.{CellOk}
use Rattle.matrix_bytes.specs.Content.{things_from, store, store_all, matrix_from, cells_of}
use Rattle.matrix_bytes.proofs.Rising.{ThingsOk, from_held, from_thing}
use Rattle.matrix_bytes.proofs.Spots.{spot, spot_of, Between, EachCell, rights_or, each_map, or_below, or_unlisted, Full, same_cells}
use Rattle.matrix_bytes.proofs.Spots.Between.{stop, on}
use Rattle.matrix_bytes.proofs.Spots.EachCell.{no, also}
use Rattle.matrix_bytes.proofs.Cells.{is_thing, is_row_lem, cells_between, cells_each, cells_at}

all_zero : (n k : ℕ) → get_or (replicate n 0) k 0 ≡ zero
all_zero zero k = refl
all_zero (suc n) zero = refl
all_zero (suc n) (suc k) = all_zero n k

filled : {h : Head} {ts : List ThingRecord} (c : CellRecord) → CellOk h ts c → Full c
filled c o = record { low = o.column_small; some = o.full }

module _ (h : Head) (highest : ℕ) (ts : List ThingRecord) (listed : ThingsOk h highest ts) where
  abbrev th : Things
  th = things_from highest ts

  things_held : HeldThings h (things_from highest ts)
  things_held = from_held h highest ts listed

  -- ---- what is found in the list has a seat
  seated : (x : ℕ) → is_some (thing_with ts x) ≡ known th x
  seated x = rw (← (from_thing h highest ts listed x)) (is_thing th x)

  row_seated : (c : CellRecord) → CellOk h ts c → T (known th c.row && is_subject h (get_or th.types (seat th c.row) no_type))
  row_seated c o = rw (← (is_row_lem h th c.row), from_thing h highest ts listed) o.row_is

  row_known : (c : CellRecord) → CellOk h ts c → T (known th c.row)
  row_known c o = and_left (known th c.row) _ (row_seated c o)

  column_known : (c : CellRecord) → CellOk h ts c → T (known th c.column)
  column_known c o = rw (← (seated c.column)) o.column_is

  known_small : (x : ℕ) → T (known th x) → x ≤ 65535
  known_small x k = rw (seat_is th x k) at (ids_small h th things_held (seat th x))

  -- ---- places
  place_lt : (x y : ℕ) → T (known th x) → T (known th y) → place th x y < 2304
  unfolding place
  place_lt x y kx ky = omega (arith, seat_lt h th things_held x kx, seat_lt h th things_held y ky)

  same_seat : (a x : ℕ) → T (known th a) → T (known th x) → seat th a ≡ seat th x → a ≡ x
  same_seat a x ka kx e = sym (seat_is th a ka) ∙ rw e (seat_is th x kx)

  same_place : (a b x y : ℕ) → T (known th a) → T (known th b) → T (known th x) → T (known th y) → place th a b ≡ place th x y → spot a b ≡ spot x y
  unfolding place
  same_place a b x y ka kb kx ky e =
      let lb = seat_lt h th things_held b kb in
      let ly = seat_lt h th things_held y ky in
      rw (same_seat a x ka kx (omega arith), same_seat b y kb ky (omega arith))

  -- ---- stores
  store_at : (x y : ℕ) → T (known th x) → T (known th y) → {k b : ℕ} {cs : List CellRecord} → Between k cs b → EachCell (CellOk h ts) cs →
      (cells : List ℕ) → length cells ≡ 2304 → get_or (store_all th cells cs) (place th x y) 0 ≡ rights_or (get_or cells (place th x y) 0) cs (spot x y)
  unfolding store_all store rights_or
  store_at x y kx ky (stop l) no cells room = refl
  store_at x y kx ky (on {c = c} {cs = cs} o w) (also p q) cells room =
      store_at x y kx ky w q _ (length-set cells (place th c.row c.column) c.rights ∙ room) ∙ go (eqb (spot_of c) (spot x y)) refl
    where
      kr : T (known th c.row)
      kr = row_known c p

      kc : T (known th c.column)
      kc = column_known c p

      go : (b : Bool) → eqb (spot_of c) (spot x y) ≡ b →
          rights_or (get_or (set cells (place th c.row c.column) c.rights) (place th x y) 0) cs (spot x y)
          ≡ cond b c.rights (rights_or (get_or cells (place th x y) 0) cs (spot x y))
      go true e =
          let at : spot_of c ≡ spot x y = eqb-true (spot_of c) (spot x y) e in
          let sy = known_small y ky in
          let er : c.row ≡ x = omega (arith, p.column_small) in
          let ec : c.column ≡ y = omega (arith, p.column_small) in
          or_below _ w (spot x y) (omega arith) ∙ rw (er, ec) (get_or-set_same cells (place th x y) c.rights 0 (rw room (place_lt x y kx ky)))
      go false e =
          rw (get_or-set_other cells (place th c.row c.column) (place th x y) c.rights 0
          (λ z. eqb-false (spot_of c) (spot x y) e (same_place c.row c.column x y kr kc kx ky (sym z))))

  -- what holds of each store and of all that stood there holds of each place
  store_all_lem : (P : ℕ → ℕ → Type 0) → ((c : CellRecord) → CellOk h ts c → P (place th c.row c.column) c.rights) →
      {cs : List CellRecord} → EachCell (CellOk h ts) cs → (cells : List ℕ) → length cells ≡ 2304 → ((k : ℕ) → P k (get_or cells k 0)) →
      (k : ℕ) → P k (get_or (store_all th cells cs) k 0)
  unfolding store_all store
  store_all_lem P f no cells room base = base
  store_all_lem P f (also {c = c} p q) cells room base =
      let at : ℕ = place th c.row c.column in
      store_all_lem P f q (set cells at c.rights) (length-set cells at c.rights ∙ room)
      (λ k. stored (P k) cells at c.rights k 0 (rw room (place_lt _ _ (row_known c p) (column_known c p))) (λ e. rw e (f c p)) (λ ne. base k))

  store_room : (cells : List ℕ) (cs : List CellRecord) → length (store_all th cells cs) ≡ length cells
  unfolding store_all store
  store_room cells [] = refl
  store_room cells (c ∷ cs) = store_room (set cells (place th c.row c.column) c.rights) cs ∙ length-set cells (place th c.row c.column) c.rights

  cell_stands : (c : CellRecord) → CellOk h ts c → T (standing h th (seat th c.row) (seat th c.column))
  unfolding standing
  cell_stands c o =
      let kr = row_known c o in
      let kc = column_known c o in
      rw (
        seat_is th c.row kr,
        seat_is th c.column kc,
        eqb_not c.row 0 (known_nonzero th c.row kr),
        eqb_not c.column 0 (known_nonzero th c.column kc),
      ) (and_right (known th c.row) _ (row_seated c o))

  not_here : (i j : ℕ) → j < 48 → T (not (standing h th i j)) → (c : CellRecord) → CellOk h ts c → place th c.row c.column ≡ i * 48 + j → ⊥
  unfolding place
  not_here i j l n c o e =
      let lc = seat_lt h th things_held c.column (column_known c o) in
      let ei : i ≡ seat th c.row = omega arith in
      let ej : j ≡ seat th c.column = omega arith in
      not_both (standing h th i j) (rw (ei, ej) (cell_stands c o)) n

  -- ---- the matrix
  module _ (cs : List CellRecord) (each : EachCell (CellOk h ts) cs) where
    -- all its places, from those of an empty matrix
    stored_all : (P : ℕ → ℕ → Type 0) → ((k : ℕ) → P k 0) → ((c : CellRecord) → CellOk h ts c → P (place th c.row c.column) c.rights) →
        (k : ℕ) → P k (get_or (matrix_from highest ts cs).cells k 0)
    unfolding matrix_from
    stored_all P z f = store_all_lem P f each (replicate 2304 0) (length-replicate 2304 zero) (λ k. rw (all_zero 2304 k) (z k))

    pub from_accepted : Held h (matrix_from highest ts cs)
    unfolding matrix_from
    from_accepted = record {
      things = things_held;
      cells = record {
        room = store_room (replicate 2304 0) cs ∙ length-replicate 2304 zero;
        small = stored_all (λ k v. v < 2 ^ h.rights) (λ k. pow_pos h.rights) (λ c o. o.within);
        bare = λ i j l n. stored_all (λ k v. k ≡ i * 48 + j → v ≡ 0) (λ k e. refl) (λ c o e. absurd (not_here i j l n c o e)) (i * 48 + j) refl;
      };
    }

    module _ {b : ℕ} (up : Between 0 cs b) where
      pub from_rights : (x y : ℕ) → y ≤ 65535 → (stands_for (matrix_from highest ts cs)).rights x y ≡ rights_or 0 cs (spot x y)
      unfolding stands_for matrix_from cell
      from_rights x y l = go (known th x && known th y) refl
        where
          go : (t : Bool) → (known th x && known th y) ≡ t → cond t (cell (matrix_from highest ts cs) x y) 0 ≡ rights_or 0 cs (spot x y)
          go true e =
              let kx : T (known th x) = and_left (known th x) (known th y) (from_true e) in
              let ky : T (known th y) = and_right (known th x) (known th y) (from_true e) in
              store_at x y kx ky up each (replicate 2304 0) (length-replicate 2304 zero) ∙ rw (all_zero 2304)
          go false e = sym (or_unlisted 0 each (spot x y) (λ c o z.
              let er : c.row ≡ x = omega (arith, o.column_small) in
              let ec : c.column ≡ y = omega (arith, o.column_small) in
              rw e at (and_both (known th x) (known th y) (rw er at (row_known c o)) (rw ec at (column_known c o)))))

      -- its cells are those that were given
      pub cells_again : cells_of h (matrix_from highest ts cs) ≡ cs
      cells_again =
          same_cells (cells_between h M ok) up (each_map (λ c. filled c) (cells_each h M ok)) (each_map (λ c. filled c) each) (λ j.
          let e : spot (j / 65536) (j % 65536) ≡ j = omega arith in
          rw e at (cells_at h M ok (j / 65536) (j % 65536) (omega arith) ∙ from_rights (j / 65536) (j % 65536) (omega arith)))
        where
          M : Matrix
          M = matrix_from highest ts cs

          ok : Held h M
          ok = from_accepted
