-- The cells that a matrix's rows list: by rising place, each one that may be read, and together what the matrix stands for.
-- Assumes nothing.
use Prim.Native.Nat.{ℕ, ◌^◌, ◌≤◌, ◌<◌}
use mathlib.Core.Path.{◌≡◌, refl, sym, ◌∙◌}
use mathlib.Core.Logic.{◌≢◌}
use mathlib.Core.Bool.{Bool, true, false, not, cond, ◌&&◌}
use mathlib.Core.Option.{none, some}
use mathlib.Core.List.{List, [], ◌∷◌}
use native.Mathlib.Omega.{arith}
use lib.Dec.{T, eqb, not_T}
use lib.ListN.{get_or}
use borrow.Author.Tests.{eqb-true, eqb-false, eq-eqb}
use Rattle.laws.specs.Check.{is_some}
use Rattle.model.specs.Scheme.{is_subject, no_type}
use Rattle.model.specs.Request.{Thing}
use Rattle.model.specs.Seats.{Matrix, known, seat, thing_in, thing_at, place, cell, stands_for}
use Rattle.model.specs.Accepted.{standing}
use Rattle.model.specs.declared.Head.{Head}
use Rattle.model.specs.declared.Things.{Things}
use Rattle.laws.proofs.Bools.{and_right, not_both, eqb_not}
use Rattle.model.proofs.Held.{Held}
use Rattle.model.proofs.Find.{seat_lt}
use Rattle.matrix_records.specs.Content.{ThingRecord, CellRecord}
use Rattle.matrix_records.specs.Read.{thing_with, is_row}
use Rattle.matrix_records.proofs.Trips.{CellOk}
use Rattle.matrix_bytes.specs.Content.{row_of, rows_of, cells_of, things_of}
use Rattle.matrix_bytes.proofs.Rising.{Rising, with_below, things_rising, things_with}
use Rattle.matrix_bytes.proofs.Spots.{spot, spot_of, Between, EachCell, rights_or}
use Rattle.matrix_bytes.proofs.Spots.{between_lower, between_append, each_append, or_append, or_head, or_tail, or_below}
use Rattle.matrix_bytes.proofs.Spots.Between.{stop, on}
use Rattle.matrix_bytes.proofs.Spots.EachCell.{no, also}

-- what is found in a part of the things is found in all of them
abbrev Inside : List ThingRecord → List ThingRecord → Type 0
Inside ts us = (y : ℕ) (u : Thing) → thing_with ts y ≡ some u → thing_with us y ≡ some u

inside_head : (t : ThingRecord) (ts us : List ThingRecord) → Inside (t ∷ ts) us → thing_with us t.id ≡ some t.thing
unfolding thing_with
inside_head t ts us p = p t.id t.thing (rw (eq-eqb t.id t.id refl))

inside_tail : (h : Head) (k : ℕ) (t : ThingRecord) (ts us : List ThingRecord) → Rising h k (t ∷ ts) → Inside (t ∷ ts) us → Inside ts us
unfolding thing_with
inside_tail h k t ts us r p y u e = p y u (rw (eqb_not t.id y apart) e)
  where
    apart : t.id ≢ y
    apart z =
        let n : thing_with ts y ≡ none = with_below h t.id ts r.1 y (omega arith) in
        let q : ◌≡◌ {A = ℕ} 0 1 = cc in omega arith

-- ---- one row
module _ (h : Head) (m : Matrix) (x : ℕ) where
  abbrev its : ThingRecord → CellRecord
  its t = record { row = x; column = t.id; rights = cell m x t.id }

  row_between : (k : ℕ) (ts : List ThingRecord) → Rising h k ts → k ≤ 65535 → Between (spot x k) (row_of m x ts) (spot x 65535)
  unfolding row_of
  row_between k [] r l = let p : spot x k ≤ spot x 65535 = omega arith in stop p
  row_between k (t ∷ ts) r l = go (eqb (cell m x t.id) 0) (row_between t.id ts r.1 r.0.small)
    where
      go : (b : Bool) → Between (spot x t.id) (row_of m x ts) (spot x 65535) →
          Between (spot x k) (cond b (row_of m x ts) (its t ∷ row_of m x ts)) (spot x 65535)
      go true w = let p : spot x k ≤ spot x t.id = omega (arith, r.0.over) in between_lower p w
      go false w = let p : spot x k < spot_of (its t) = omega (arith, r.0.over) in on p w

  row_each : (us : List ThingRecord) → T (is_row h (thing_with us x)) → x ≤ 65535 → ((y : ℕ) → cell m x y < 2 ^ h.rights) →
      (k : ℕ) (ts : List ThingRecord) → Rising h k ts → Inside ts us → EachCell (CellOk h us) (row_of m x ts)
  unfolding row_of is_some
  row_each us row small low k [] r p = no
  row_each us row small low k (t ∷ ts) r p =
      go (eqb (cell m x t.id) 0) refl (row_each us row small low t.id ts r.1 (inside_tail h k t ts us r p))
    where
      go : (b : Bool) → eqb (cell m x t.id) 0 ≡ b → EachCell (CellOk h us) (row_of m x ts) →
          EachCell (CellOk h us) (cond b (row_of m x ts) (its t ∷ row_of m x ts))
      go true e w = w
      go false e w =
          let ok : CellOk h us (its t) = record {
            row_is = row;
            column_is = rw (inside_head t ts us p) tt;
            row_small = small;
            column_small = r.0.small;
            within = low t.id;
            full = eqb-false (cell m x t.id) 0 e;
          } in also ok w

  -- it lists each cell of the row that isn't empty, and no other
  row_at : (ts : List ThingRecord) (y : ℕ) → rights_or 0 (row_of m x ts) (spot x y) ≡ cond (is_some (thing_with ts y)) (cell m x y) 0
  unfolding row_of rights_or thing_with is_some
  row_at [] y = refl
  row_at (t ∷ ts) y = go (eqb t.id y) refl (eqb (cell m x t.id) 0) refl (row_at ts y)
    where
      none_kept : (b : Bool) (v : ℕ) → v ≡ 0 → cond b v 0 ≡ v
      none_kept true v e = refl
      none_kept false v e = sym e

      go : (a : Bool) → eqb t.id y ≡ a → (b : Bool) → eqb (cell m x t.id) 0 ≡ b →
          rights_or 0 (row_of m x ts) (spot x y) ≡ cond (is_some (thing_with ts y)) (cell m x y) 0 →
          rights_or 0 (cond b (row_of m x ts) (its t ∷ row_of m x ts)) (spot x y) ≡ cond (is_some (cond a (some t.thing) (thing_with ts y))) (cell m x y) 0
      go true e true f q =
          let at : t.id ≡ y = eqb-true t.id y e in
          q ∙ none_kept (is_some (thing_with ts y)) (cell m x y) (rw at at (eqb-true (cell m x t.id) 0 f))
      go true e false f q =
          let at : t.id ≡ y = eqb-true t.id y e in
          or_head 0 (its t) (row_of m x ts) (spot x y) (rw at) ∙ rw at
      go false e true f q = q
      go false e false f q =
          let n = eqb-false t.id y e in
          or_tail 0 (its t) (row_of m x ts) (spot x y) (λ z. n (omega arith)) ∙ q

  row_other : (d z y : ℕ) → x ≢ z → y ≤ 65535 → (k : ℕ) (ts : List ThingRecord) → Rising h k ts → rights_or d (row_of m x ts) (spot z y) ≡ d
  unfolding row_of rights_or
  row_other d z y n l k [] r = refl
  row_other d z y n l k (t ∷ ts) r = go (eqb (cell m x t.id) 0) (row_other d z y n l t.id ts r.1)
    where
      go : (b : Bool) → rights_or d (row_of m x ts) (spot z y) ≡ d → rights_or d (cond b (row_of m x ts) (its t ∷ row_of m x ts)) (spot z y) ≡ d
      go true q = q
      go false q = or_tail d (its t) (row_of m x ts) (spot z y) (λ e. n (omega (arith, r.0.small))) ∙ q

-- ---- all rows
module _ (h : Head) (m : Matrix) (us : List ThingRecord) (all : Rising h 0 us) where
  rows_between : (k : ℕ) (ts : List ThingRecord) → Rising h k ts → k ≤ 65535 → Between (spot k 65535) (rows_of h m us ts) (spot 65535 65535)
  unfolding rows_of
  rows_between k [] r l = let p : spot k 65535 ≤ spot 65535 65535 = omega arith in stop p
  rows_between k (t ∷ ts) r l = between_append (first (is_subject h t.thing.type)) (rows_between t.id ts r.1 r.0.small)
    where
      first : (b : Bool) → Between (spot k 65535) (cond b (row_of m t.id us) []) (spot t.id 65535)
      first true = let p : spot k 65535 ≤ spot t.id 0 = omega (arith, r.0.over) in between_lower p (row_between h m t.id 0 us all (omega arith))
      first false = let p : spot k 65535 ≤ spot t.id 65535 = omega (arith, r.0.over) in stop p

  rows_each : ((x y : ℕ) → cell m x y < 2 ^ h.rights) → (k : ℕ) (ts : List ThingRecord) → Rising h k ts → Inside ts us → EachCell (CellOk h us) (rows_of h m us ts)
  unfolding rows_of is_row
  rows_each low k [] r p = no
  rows_each low k (t ∷ ts) r p =
      each_append (first (is_subject h t.thing.type) refl) (rows_each low t.id ts r.1 (inside_tail h k t ts us r p))
    where
      first : (b : Bool) → is_subject h t.thing.type ≡ b → EachCell (CellOk h us) (cond b (row_of m t.id us) [])
      first true e = row_each h m t.id us (rw (inside_head t ts us p, e) tt) r.0.small (low t.id) 0 us all (λ y u q. q)
      first false e = no

  rows_at : (x y : ℕ) → y ≤ 65535 → (k : ℕ) (ts : List ThingRecord) → Rising h k ts →
      rights_or 0 (rows_of h m us ts) (spot x y) ≡ cond (is_row h (thing_with ts x)) (rights_or 0 (row_of m x us) (spot x y)) 0
  unfolding rows_of thing_with is_row rights_or
  rows_at x y l k [] r = refl
  rows_at x y l k (t ∷ ts) r =
      or_append 0 (cond (is_subject h t.thing.type) (row_of m t.id us) []) (rows_of h m us ts) (spot x y)
      ∙ go (eqb t.id x) refl (rows_at x y l t.id ts r.1)
    where
      others : (b : Bool) (d : ℕ) → t.id ≢ x → rights_or d (cond b (row_of m t.id us) []) (spot x y) ≡ d
      others true d n = row_other h m t.id d x y n l 0 us all
      others false d n = refl

      mine : (b : Bool) → t.id ≡ x → rights_or 0 (cond b (row_of m t.id us) []) (spot x y) ≡ cond b (rights_or 0 (row_of m x us) (spot x y)) 0
      mine true e = rw e
      mine false e = refl

      go : (a : Bool) → eqb t.id x ≡ a →
          rights_or 0 (rows_of h m us ts) (spot x y) ≡ cond (is_row h (thing_with ts x)) (rights_or 0 (row_of m x us) (spot x y)) 0 →
          rights_or (rights_or 0 (rows_of h m us ts) (spot x y)) (cond (is_subject h t.thing.type) (row_of m t.id us) []) (spot x y)
          ≡ cond (is_row h (cond a (some t.thing) (thing_with ts x))) (rights_or 0 (row_of m x us) (spot x y)) 0
      go true e q =
          let at : t.id ≡ x = eqb-true t.id x e in
          let later : rights_or 0 (rows_of h m us ts) (spot x y) ≡ 0 =
          or_below 0 (rows_between t.id ts r.1 r.0.small) (spot x y) (omega arith) in
          rw later (mine (is_subject h t.thing.type) at)
      go false e q = others (is_subject h t.thing.type) _ (eqb-false t.id x e) ∙ q

-- ---- what the things say of an id, as the seats have it
pub is_thing : (th : Things) (x : ℕ) → is_some (thing_at th x) ≡ known th x
unfolding is_some thing_at
is_thing th x = go (known th x)
  where
    go : (b : Bool) → is_some (cond b (some (thing_in th (seat th x))) none) ≡ b
    go true = refl
    go false = refl

pub is_row_lem : (h : Head) (th : Things) (x : ℕ) → is_row h (thing_at th x) ≡ (known th x && is_subject h (get_or th.types (seat th x) no_type))
unfolding is_row thing_at thing_in
is_row_lem h th x = go (known th x)
  where
    go : (b : Bool) → is_row h (cond b (some (thing_in th (seat th x))) none) ≡ (b && is_subject h (get_or th.types (seat th x) no_type))
    go true = refl
    go false = refl

no_subject : (h : Head) (th : Things) (i j : ℕ) → T (not (is_subject h (get_or th.types i no_type))) → T (not (standing h th i j))
unfolding standing
no_subject h th i j n = not_T (standing h th i j) (λ t. not_both (is_subject h (get_or th.types i no_type)) (search and_right) n)

-- ---- a matrix's cells
module _ (h : Head) (m : Matrix) (ok : Held h m) where
  abbrev ts : List ThingRecord
  ts = things_of m

  pub cells_between : Between (spot 0 0) (cells_of h m) (spot 65535 65535)
  unfolding cells_of
  cells_between =
      let p : spot 0 0 ≤ spot 0 65535 = omega arith in
      between_lower p (rows_between h m ts (things_rising h m ok) 0 ts (things_rising h m ok) (omega arith))

  pub cells_each : EachCell (CellOk h (things_of m)) (cells_of h m)
  unfolding cells_of cell
  cells_each = rows_each h m ts (things_rising h m ok) (λ x y. ok.cells.small _) 0 ts (things_rising h m ok) (λ y u q. q)

  -- a place whose row has no subject type is empty
  no_row : (x y : ℕ) → T (known m.things x) → T (known m.things y) → T (not (is_subject h (get_or m.things.types (seat m.things x) no_type))) →
      cell m x y ≡ 0
  unfolding cell place
  no_row x y kx ky n = ok.cells.bare (seat m.things x) (seat m.things y) (seat_lt h m.things ok.things y ky) (no_subject h m.things _ _ n)

  pub cells_at : (x y : ℕ) → y ≤ 65535 → rights_or 0 (cells_of h m) (spot x y) ≡ (stands_for m).rights x y
  unfolding cells_of stands_for
  cells_at x y l =
      rows_at h m ts (things_rising h m ok) x y l 0 ts (things_rising h m ok)
      ∙ rw (row_at h m x ts y, things_with h m ok x, things_with h m ok y, is_thing, is_row_lem) (go (known m.things x) (known m.things y) _ (no_row x y))
    where
      go : (a b c : Bool) {v : ℕ} → (T a → T b → T (not c) → v ≡ 0) → cond (a && c) (cond b v 0) 0 ≡ cond (a && b) v 0
      go true true true f = refl
      go true true false f = sym (f tt tt tt)
      go true false true f = refl
      go true false false f = refl
      go false b c f = refl
