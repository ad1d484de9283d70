-- The round trips of what stands behind a head: so many things, and the cells to the end of the input, from a position on, whatever stands before it.
-- Every head that may stand before them shares these. Assumes nothing.
use Prim.Native.Nat.{ℕ, ◌≤◌}
use mathlib.Core.Path.{◌≡◌, refl}
use mathlib.Core.List.{List, ◌++◌}
use native.Mathlib.Omega.{arith}
use lib.ListN.{length}
use Rattle.model.specs.Seats.{Matrix}
use Rattle.model.specs.declared.Head.{Head}
use Rattle.records.specs.Bytes.{record_bytes, each_bytes}
use Rattle.records.specs.Reading.{got, steps}
use Rattle.records.specs.Front.{in_record}
use Rattle.records.proofs.Trip.{Bytes, Stand, bind_got, got_same, stand_split, stand_join}
use Rattle.matrix_records.specs.Content.{ThingRecord, CellRecord}
use Rattle.matrix_records.specs.Read.{thing, cell, start}
use Rattle.matrix_records.specs.Write.{thing_bytes, thing_kind, cell_bytes}
use Rattle.matrix_records.proofs.Trips.{Sized, CellOk}
use Rattle.matrix_bytes.specs.Content.{matrix_from}
use Rattle.matrix_bytes.specs.Read.{to_end, rest}
use Rattle.matrix_bytes.proofs.Rising.{ThingsOk}
use Rattle.matrix_bytes.proofs.Spots.{Between, EachCell}
use Rattle.matrix_bytes.proofs.Trips.{top, stand_le, things_trip, cells_there, cells_back}

-- the bytes of each, and of both
abbrev pub things : List ThingRecord → List ℕ
things = each_bytes (λ t. record_bytes (thing_kind t) (thing_bytes t))

abbrev pub cells : List CellRecord → List ℕ
cells = each_bytes (λ c. record_bytes 5 (cell_bytes c))

abbrev pub content : List ThingRecord → List CellRecord → List ℕ
content ts cs = things ts ++ cells cs

-- what may stand behind a head with this highest
pub record ContentOk (h : Head) (highest : ℕ) (ts : List ThingRecord) (cs : List CellRecord) : Type 0 where
  pub listed : ThingsOk h highest ts
  pub between : Between 0 cs top
  pub each : EachCell (CellOk h ts) cs

-- what a reading from i on found there: a matrix of these things and cells, whose bytes are the rest of the input
pub record Found (h : Head) (s : List ℕ) (highest count i : ℕ) (m : Matrix) (next : ℕ) : Type 0 where
  pub its : List ThingRecord
  pub filled : List CellRecord
  pub is : m ≡ matrix_from highest its filled
  pub fine : ContentOk h highest its filled
  pub many : length its ≡ count
  pub stands : Stand s (content its filled) i next
  pub end : next ≡ length s

module _ (h : Head) (z : Sized h) (s : List ℕ) where
  -- ---- written, then read
  pub rest_there : (highest : ℕ) (ts : List ThingRecord) (cs : List CellRecord) → ContentOk h highest ts cs → (i : ℕ) → Stand s (content ts cs) i (length s) →
      rest h highest (length ts) s i ≡ got (matrix_from highest ts cs) (length s)
  unfolding rest
  rest_there highest ts cs ok i r =
      let (j, a, b) = stand_split s (things ts) (cells cs) r in
      let things-are = (things_trip h z s highest (length ts)).there ts (ok.listed.rise, ok.listed.below, refl) i j a in
      let cells_are = cells_there h z s ts ok.between ok.each j b in
      rw (things-are, cells_are)

  -- ---- read, then written
  module _ (highest count i : ℕ) (reach : highest ≤ 65535) (few : count ≤ 48) (near : i ≤ length s) (g : Bytes s) where
    found : (j k : ℕ) (ts : List ThingRecord) (cs : List CellRecord) →
        steps (λ last. in_record s 272 (thing h highest last)) (λ last t. t.id) count 0 i ≡ got ts j →
        to_end s (λ last. in_record s 32 (λ kind. cell h ts last)) (λ last c. c) (length s) start j ≡ got cs k → Found h s highest count i (matrix_from highest ts cs) k
    found j k ts cs e f =
        let (a, (rise, below, n)) = (things_trip h z s highest count).back i j ts g e in
        let (b, between, each, end) = cells_back h z s ts g j k cs (stand_le a near) f in
        record {
          its = ts;
          filled = cs;
          is = refl;
          fine = record { listed = record { reach = reach; rise = rise; below = below; few = omega arith }; between = between; each = each };
          many = n;
          stands = stand_join s (things ts) (cells cs) a b;
          end = end;
        }

    pub rest_back : (m : Matrix) (next : ℕ) → rest h highest count s i ≡ got m next → Found h s highest count i m next
    unfolding rest
    rest_back m next e =
        let (ts, j, e1, f1) = bind_got (steps (λ last. in_record s 272 (thing h highest last)) (λ last t. t.id) count 0 i) _ e in
        let (cs, k, e2, f2) = bind_got (to_end s (λ last. in_record s 32 (λ kind. cell h ts last)) (λ last c. c) (length s) start j) _ f1 in
        got_same (Found h s highest count i) f2 (found j k ts cs e1 e2)
