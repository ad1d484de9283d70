-- The round trips of a matrix's records: its head, a thing, a cell; and what may stand in each.
-- Assumes nothing.
use Prim.Native.Nat.{ℕ, ◌^◌, ◌≤◌, ◌<◌}
use native.Mathlib.Omega.{arith}
use native.Mathlib.Nat.{zero-add}
use mathlib.Core.Bool.{Bool, true, false, not, cond, ◌||◌}
use mathlib.Core.Logic.{◌≢◌, ◌⊎◌, inl, inr}
use mathlib.Core.Option.{Option, none, some}
use mathlib.Core.List.{List}
use mathlib.Core.Path.{◌≡◌, refl, sym, ap}
use lib.Dec.{T, leb→le, le→leb, eqb, leb, ltb, eqb→eq, eqb_refl, ltb→lt, lt→ltb}
use lib.Pow.{pow_mono}
use mir.Facts.{eqb_no, no_eqb}
use Rattle.rights.specs.Numberings.{type}
use Rattle.laws.specs.Check.{is_some, passes, between}
use Rattle.model.specs.Accepted.{head_fault, all_from}
use Rattle.model.proofs.HeldLaws.{from_at}
use borrow.Author.Tests.{eqb-true}
use Rattle.model.specs.Request.{Thing}
use Rattle.model.specs.declared.Head.{Head}
use Rattle.laws.proofs.Bools.{and_left, and_right, must_pass, first_pass, then_pass}
use Rattle.records.specs.Bytes.{record_bytes, little_endian}
use Rattle.rights.specs.Sets.{has}
use Rattle.records.specs.Front.{allowed, in_record}
use Rattle.records.proofs.RecordAt.{allowed_small}
use Rattle.records.proofs.Trip.{Trip, body, input, trip_as, trip_done, trip_check, trip_then, trip_last}
use Rattle.records.proofs.TripFields.{trip_number, trip_field}
use Rattle.records.proofs.TripRecord.{trip_record, trip_kind}
use Rattle.matrix_records.specs.Content.{Stated, ThingRecord, CellRecord}
use Rattle.matrix_records.specs.Read.{head, thing, cell, thing_with, is_row, above}
use Rattle.matrix_records.specs.Write.{head_bytes, thing_bytes, thing_kind, cell_bytes}

-- what a matrix's bytes need of its scheme's head, which a head that passes gives
pub record Sized (h : Head) : Type 0 where
  pub rights : (1 ≤ h.rights) × (h.rights ≤ 64)
  pub types : h.types ≤ 16

pub head_sized : (h : Head) → T (passes (head_fault h)) → Sized h
unfolding head_fault between
head_sized h t = search (and_left, and_right, must_pass, first_pass, then_pass, leb→le) depth 8

-- what a head may state
pub record StatedOk (st : Stated) : Type 0 where
  pub few : st.count ≤ 48
  pub reach : st.highest ≤ 65535

-- a thing that may stand behind one with the id `last`; and one up to the highest
pub record ThingOk (h : Head) (last : ℕ) (t : ThingRecord) : Type 0 where
  pub over : last < t.id
  pub small : t.id ≤ 65535
  pub typed : t.thing.type.0 < h.types

abbrev pub UpToOk : Head → ℕ → ℕ → ThingRecord → Type 0
UpToOk h highest last t = ThingOk h last t × (t.id ≤ highest)

-- a cell that may be read against these things; and one that may stand behind the cell `last`
pub record CellOk (h : Head) (ts : List ThingRecord) (c : CellRecord) : Type 0 where
  pub row_is : T (is_row h (thing_with ts c.row))
  pub column_is : T (is_some (thing_with ts c.column))
  pub row_small : c.row ≤ 65535
  pub column_small : c.column ≤ 65535
  pub within : c.rights < 2 ^ h.rights
  pub full : c.rights ≢ 0

abbrev pub NextOk : Head → List ThingRecord → CellRecord → CellRecord → Type 0
NextOk h ts last c = T (above last c.row c.column) × CellOk h ts c

-- ---- the two kinds of a thing's record, 4 and 8, as a set

unfoldable one_of_two : ℕ → Bool
one_of_two kind = not (allowed 272 kind) || eqb kind 4 || eqb kind 8

-- a kind in a set is below 16, so all are looked through
all_of_two : T (all_from one_of_two 0 16)
unfolding all_from one_of_two allowed has
all_of_two = tt

two_kinds : (kind : ℕ) → T (allowed 272 kind) → (kind ≡ 4) ⊎ (kind ≡ 8)
unfolding one_of_two
two_kinds kind t =
    go (allowed 272 kind) (eqb kind 4) (eqb kind 8) refl refl t (rw (zero-add kind) at (from_at one_of_two 0 16 all_of_two kind (allowed_small 272 kind t)))
  where
    go : (a b c : Bool) → eqb kind 4 ≡ b → eqb kind 8 ≡ c → T a → T (not a || b || c) → (kind ≡ 4) ⊎ (kind ≡ 8)
    go true true c e f t u = inl (eqb-true kind 4 e)
    go true false true e f t u = inr (eqb-true kind 8 f)
    go true false false e f t u = absurd u
    go false b c e f t u = absurd t

kind_marked : (t : Thing) → T (allowed 272 (cond t.on_hold 8 4)) × (t.on_hold ≡ eqb (cond t.on_hold 8 4) 8)
unfolding allowed has
kind_marked t = go t.on_hold
  where
    go : (b : Bool) → T (allowed 272 (cond b 8 4)) × (b ≡ eqb (cond b 8 4) 8)
    go true = (tt, refl)
    go false = (tt, refl)

-- the kind that was read is the one that is written
marked_kind : (kind : ℕ) (b : Bool) → T (allowed 272 kind) → b ≡ eqb kind 8 → cond b 8 4 ≡ kind
marked_kind kind b t e = go (two_kinds kind t)
  where
    go : (kind ≡ 4) ⊎ (kind ≡ 8) → cond b 8 4 ≡ kind
    go (inl f) = rw (e, f)
    go (inr f) = rw (e, f)

pub row_thing_lem : (h : Head) (t : Option Thing) → T (is_row h t) → T (is_some t)
unfolding is_row is_some
row_thing_lem h none t = t
row_thing_lem h (some u) t = tt

module _ (h : Head) (z : Sized h) where
  -- ---- bodies
  head_trip : Trip body (head h) (head_bytes h.rights) StatedOk
  unfolding head head_bytes
  head_trip =
      trip_as
      (trip_then (trip_field 1 65 4) (λ st. h.rights) (λ r st l o. sym (eqb→eq r h.rights o.0)) λ r l.
      trip_check (eqb r h.rights) 6 λ same.
      trip_then (trip_field 0 49 4) (λ st. st.count) (λ n st l o. cc) λ n l.
      trip_last (trip_number 2) (λ v. record { count = n; highest = v }) (λ st. st.highest) λ v l. refl)
      (λ st o. refl)
      (λ st o. search arith)
      (λ st o. let same = eqb_refl h.rights in search arith)

  thing_trip : (highest last kind : ℕ) →
      Trip body (thing h highest last kind) thing_bytes (λ t. UpToOk h highest last t × (t.thing.on_hold ≡ eqb kind 8))
  unfolding thing thing_bytes
  thing_trip highest last kind =
      trip_as
      (trip_then (trip_number 2) (λ t. t.id) (λ x t l o. cc) λ x l.
      trip_check (not (eqb x 0)) 6 λ nz. trip_check (ltb last x) 7 λ over. trip_check (leb x highest) 6 λ below.
      trip_last (trip_field 0 h.types 5) (λ v. record { id = x; thing = record { type = type v; on_hold = eqb kind 8 } }) (λ t. t.thing.type.0) λ v l. refl)
      (λ t o. refl)
      (λ t o. (search (arith, ltb→lt, leb→le), ap (λ (u : ThingRecord). u.thing.on_hold) o.1.1.1.1.1))
      (λ t o.
      let nz : t.id ≢ 0 = omega (arith, o.0.0.over) in
      let same : t ≡ record { id = t.id; thing = record { type = t.thing.type; on_hold = eqb kind 8 } } =
      λ i. record { id = t.id; thing = record { type = t.thing.type; on_hold = o.1 i } } in
      search (arith, no_eqb, lt→ltb, le→leb))

  cell_trip : (ts : List ThingRecord) (last : CellRecord) → Trip body (cell h ts last) cell_bytes (NextOk h ts last)
  unfolding cell cell_bytes little_endian
  cell_trip ts last =
      trip_as
      (trip_then (trip_number 2) (λ c. c.row) (λ x c l o. cc) λ x l.
      trip_check (is_some (thing_with ts x)) 5 λ row_thing. trip_check (is_row h (thing_with ts x)) 6 λ row_is.
      trip_then (trip_number 2) (λ c. c.column) (λ y c l o. cc) λ y l.
      trip_check (is_some (thing_with ts y)) 5 λ column_is. trip_check (above last x y) 7 λ over.
      trip_then (trip_number 8) (λ c. c.rights) (λ v c l o. cc) λ v l.
      trip_check (ltb v (2 ^ h.rights)) 5 λ within. trip_check (not (eqb v 0)) 6 λ full. trip_done (record { row = x; column = y; rights = v }))
      (λ c o. refl)
      (λ c o. search (arith, ltb→lt, eqb_no))
      (λ c o. let low = pow_mono z.rights.1 in search (arith, row_thing_lem, lt→ltb, no_eqb))

  -- ---- their records; of the one kind that may stand there, but a thing's
  module _ (s : List ℕ) where
    pub head_record : Trip (input s) (in_record s 128 (λ kind. head h)) (λ st. record_bytes 7 (head_bytes h.rights st)) StatedOk
    unfolding head_bytes little_endian
    head_record = trip_kind s 7 (omega arith) head_trip (λ st o. omega arith)

    pub thing_record : (highest last : ℕ) →
        Trip (input s) (in_record s 272 (thing h highest last)) (λ t. record_bytes (thing_kind t) (thing_bytes t)) (UpToOk h highest last)
    unfolding thing_bytes thing_kind little_endian
    thing_record highest last =
        trip_as
        (trip_record s 272 (thing h highest last) thing_kind {Ok = λ kind t. UpToOk h highest last t × (t.thing.on_hold ≡ eqb kind 8)}
        (λ kind m. thing_trip highest last kind) (λ kind t m o. marked_kind kind t.thing.on_hold m o.1))
        (λ t o. refl) (λ t o. o.1.0) (λ t o. let (m, e) = kind_marked t.thing in (m, (o, e), omega arith))

    pub cell_record : (ts : List ThingRecord) (last : CellRecord) →
        Trip (input s) (in_record s 32 (λ kind. cell h ts last)) (λ c. record_bytes 5 (cell_bytes c)) (NextOk h ts last)
    unfolding cell_bytes little_endian
    cell_record ts last = trip_kind s 5 (omega arith) (cell_trip ts last) (λ c o. omega arith)
