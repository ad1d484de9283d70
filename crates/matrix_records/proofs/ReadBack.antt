-- From what a record's reader answers back to what was read; and what holds of a cell that was read: its record has bytes and lies in the input, and
-- its place is one of the 2304.
-- Assumes nothing.
use Prim.Native.Nat.{ℕ, ◌^◌, ◌≤◌, ◌<◌}
use native.Mathlib.Omega.{arith}
use mathlib.Core.Bool.{Bool, true, false, not}
use mathlib.Core.List.{List, []}
use mathlib.Core.Path.{◌≡◌, refl}
use lib.Dec.{T, eqb, leb, ltb}
use lib.ListN.{length}
use Rattle.std.specs.Prelude.{Ok, Err}
use Rattle.rights.specs.Numberings.{type}
use Rattle.rights.specs.declared.ThingType.{ThingType}
use Rattle.laws.specs.Check.{is_some}
use Rattle.model.specs.Accepted.{accepted_head}
use Rattle.model.specs.declared.Head.{Head}
use Rattle.model.specs.declared.Things.{Things}
use Rattle.laws.proofs.Bools.{is_true}
use Rattle.laws.proofs.Differ.{constructors_differ}
use Rattle.records.specs.Bytes.{part}
use Rattle.records.specs.Reading.{Read, got, fault, Reader, ◌>>=◌, ◌>>◌, done, check, number, field}
use Rattle.records.specs.Front.{Refusal, in_record}
use Rattle.records.specs.Results.{item_of, refused}
use Rattle.records.specs.declared.Refused.{Refused}
use Rattle.records.proofs.Trip.{never, got_same, bind_got}
use Rattle.records.proofs.TripRecord.{in_record_back}
use Rattle.matrix_records.specs.Content.{ThingRecord, CellRecord, listed}
use Rattle.matrix_records.specs.Read.{head, thing, cell, thing_with, is_row, above}
use Rattle.matrix_records.specs.Answers.{kind_at, named, found_thing, as_head_at, as_thing_at, as_cell_at, place_in, read_head, read_thing, read_cell}
use Rattle.matrix_records.specs.declared.answers.FoundThing.{FoundThing}
use Rattle.matrix_records.proofs.Listed.{listed_near}
use Rattle.matrix_records.proofs.BodyLaws.{cell_with}

-- ---- against a head that a reading gives, nothing is left of 27
module _ (s : List ℕ) (at kinds : ℕ) (h : Head) (ok : T (accepted_head h)) where
  pub head_opened : read_head s at kinds h ≡ as_head_at (kind_at s at) (in_record s kinds (λ kind. head h) at)
  unfolding read_head
  head_opened = rw (is_true (accepted_head h) ok)

  pub thing_opened : (highest last : ℕ) →
      read_thing s at kinds h highest last ≡ as_thing_at (kind_at s at) (in_record s kinds (thing h highest last) at)
  unfolding read_thing
  thing_opened highest last = rw (is_true (accepted_head h) ok)

  pub cell_opened : (th : Things) (n : ℕ) (last : CellRecord) →
      read_cell s at kinds h th n last ≡ as_cell_at n th.ids (kind_at s at) (in_record s kinds (λ kind. cell h (listed n th) last) at)
  unfolding read_cell
  cell_opened th n last = rw (is_true (accepted_head h) ok)

-- ---- from what a record's reader gives; `f` is how it has what was read
module _ {A B : Type 0} (f : A → B) (m : Read ℕ Refusal A) where
  pub item_back : {p : B × ℕ} → Ok p ≡ item_of (named f m) → (a : A) × (m ≡ got a p.1) × (p.0 ≡ f a)
  item_back {p} e = go m e
    where
      go : (m : Read ℕ Refusal A) → Ok p ≡ item_of (named f m) → (a : A) × (m ≡ got a p.1) × (p.0 ≡ f a)
      go (got a j) e = let x : p ≡ (f a, j) = cc in (a, rw x, rw x)
      go (fault g) e = constructors_differ (cc)

  pub item_stopped : {r : Refused} → Err r ≡ item_of (named f m) → (g : Refusal) × (m ≡ fault g) × (r ≡ refused g.number g.at)
  item_stopped {r} e = go m e
    where
      go : (m : Read ℕ Refusal A) → Err r ≡ item_of (named f m) → (g : Refusal) × (m ≡ fault g) × (r ≡ refused g.number g.at)
      go (got a j) e = constructors_differ (cc)
      go (fault g) e = (g, refl, cc)

-- ---- what holds of all that a reader gives
module _ {I F A : Type 0} where
  abbrev Gives : Reader I F A → (A → Type 0) → Type 0
  Gives p P = (i : I) (a : A) (j : I) → p i ≡ got a j → P a

  gives_done : (P : A → Type 0) (c : A) → P c → Gives (done c) P
  gives_done P c h i a j e = got_same (λ a j. P a) e h

  gives_check : {P : A → Type 0} (b : Bool) (k : F) {q : Reader I F A} → (T b → Gives q P) → Gives (check b k >> q) P
  gives_check true k f i a j e = f tt i a j e
  gives_check false k f i a j e = never e

  gives_then : {B : Type 0} {P : A → Type 0} (p : Reader I F B) {q : B → Reader I F A} → ((b : B) → Gives (q b) P) → Gives (p >>= q) P
  gives_then p {q} f i a j e = let m = bind_got (p i) q e in f m.0 m.1 a j m.3

-- ---- a thing

abbrev pub thing_with_mark : ℕ → ThingType → Bool → ThingRecord
thing_with_mark id of mark = record { id = id; thing = record { type = of; on_hold = mark } }

-- its mark is told by its record's kind alone
MarkedBy : ℕ → ThingRecord → Type 0
MarkedBy kind t = t.thing.on_hold ≡ eqb kind 8

thing_marked : (h : Head) (highest last kind : ℕ) → Gives (thing h highest last kind) (MarkedBy kind)
unfolding thing MarkedBy
thing_marked h highest last kind =
    gives_then (number 2) λ id. gives_check (not (eqb id 0)) 6 λ z. gives_check (ltb last id) 7 λ o. gives_check (leb id highest) 6 λ l.
    gives_then (field 0 h.types 5) λ t. gives_done (MarkedBy kind) (thing_with_mark id (type t) (eqb kind 8)) refl

module _ (s : List ℕ) (at kinds : ℕ) (h : Head) (highest last : ℕ) where
  abbrev read_as : Read ℕ Refusal ThingRecord
  read_as = in_record s kinds (thing h highest last) at

  kind_marks : {t : ThingRecord} {j : ℕ} → read_as ≡ got t j → MarkedBy (kind_at s at) t
  kind_marks {t} e =
      let (kind, start, len, f, r, next) = in_record_back s kinds (thing h highest last) at e in
      rw (← f.its_kind) (thing_marked h highest last kind (part s start len) t [] r)

  pub thing_read : {p : FoundThing × ℕ} → Ok p ≡ as_thing_at (kind_at s at) read_as → read_as ≡ got (thing_with_mark p.0.id p.0.of (eqb p.0.kind 8)) p.1
  thing_read {p} e = go (item_back (found_thing (kind_at s at)) read_as e)
    where
      go : (t : ThingRecord) × (read_as ≡ got t p.1) × (p.0 ≡ found_thing (kind_at s at) t) →
          read_as ≡ got (thing_with_mark p.0.id p.0.of (eqb p.0.kind 8)) p.1
      go (t, em, ef) =
          let v : t.thing.on_hold ≡ eqb (kind_at s at) 8 = unfold MarkedBy in kind_marks em in
          rw (em, ef, ← v)

-- ---- a cell that was read: both its things are known
abbrev BothIn : List ThingRecord → CellRecord → Type 0
BothIn ts c = T (is_some (thing_with ts c.row)) × T (is_some (thing_with ts c.column))

cell_things : (h : Head) (ts : List ThingRecord) (last : CellRecord) → Gives (cell h ts last) (BothIn ts)
unfolding cell
cell_things h ts last =
    gives_then (number 2) λ row. gives_check (is_some (thing_with ts row)) 5 λ x. gives_check (is_row h (thing_with ts row)) 6 λ s.
    gives_then (number 2) λ column. gives_check (is_some (thing_with ts column)) 5 λ y. gives_check (above last row column) 7 λ o.
    gives_then (number 8) λ rights. gives_check (ltb rights (2 ^ h.rights)) 5 λ w. gives_check (not (eqb rights 0)) 6 λ f.
    gives_done (BothIn ts) (cell_with row column rights) (x, y)

module _ (s : List ℕ) (kinds : ℕ) (h : Head) (th : Things) (n : ℕ) (last : CellRecord) (p : ℕ) {c : CellRecord} {q : ℕ}
    (e : in_record s kinds (λ kind. cell h (listed n th) last) p ≡ got c q) where
  pub cell_after : (p < q) × (q ≤ length s)
  cell_after = let (kind, start, len, f, r, next) = in_record_back s kinds (λ kind. cell h (listed n th) last) p e in (omega arith, omega arith)

  pub cell_place_lem : length th.ids ≡ 48 → place_in n th.ids c < 2304
  unfolding place_in
  cell_place_lem room =
      let (kind, start, len, f, r, next) = in_record_back s kinds (λ kind. cell h (listed n th) last) p e in
      let (x, y) = cell_things h (listed n th) last (part s start len) c [] r in
      omega (arith, listed_near th n room c.row x, listed_near th n room c.column y)
