-- Reading the body of a matrix's record: the outline, "Bytes" and "Refusal numbers", in field order.
-- Assumes nothing.
use Rattle.std.specs.Prelude.{ℕ, ◌^◌, Bool, false, cond, not, ◌&&◌, ◌||◌, List, [], ◌∷◌, eqb, leb, ltb}
use Rattle.std.proofs.Math.Option.{Option, none, some}
use Rattle.rights.specs.Numberings.{type}
use Rattle.laws.specs.Check.{is_some}
use Rattle.model.specs.Scheme.{is_subject}
use Rattle.model.specs.Request.{Thing}
use Rattle.model.specs.declared.Head.{Head}
use Rattle.records.specs.Reading.{Body, ◌>>=◌, ◌>>◌, done, check, field, number}
use Rattle.matrix_records.specs.Content.{Stated, ThingRecord, CellRecord}

-- ---- the head: n (1), the scheme's; things (1); the highest id that there ever was (2), any number
unfoldable pub head : Head → Body Stated
head h = do
  n ← field 1 65 4
  check (eqb n h.rights) 6
  count ← field 0 49 4
  highest ← number 2
  done (record { count = count; highest = highest })

-- ---- a thing, on hold where its record is of kind 8: id (2), not 0, above the one before and not above the highest; type (1)
unfoldable pub thing : Head → ℕ → ℕ → ℕ → Body ThingRecord
thing h highest last kind = do
  id ← number 2
  check (not (eqb id 0)) 6
  check (ltb last id) 7
  check (leb id highest) 6
  t ← field 0 h.types 5
  done (record { id = id; thing = record { type = type t; on_hold = eqb kind 8 } })

-- ---- a cell: row id (2), column id (2), rights as an 8-byte set

-- the thing with this id
unfoldable pub thing_with : List ThingRecord → ℕ → Option Thing
thing_with [] x = none
thing_with (t ∷ ts) x = cond (eqb t.id x) (some t.thing) (thing_with ts x)

unfoldable pub is_row : Head → Option Thing → Bool
is_row h none = false
is_row h (some t) = is_subject h t.type

-- a place above the one before
unfoldable pub above : CellRecord → ℕ → ℕ → Bool
above last row column = ltb last.row row || (eqb last.row row && ltb last.column column)

-- before the first cell
unfoldable pub start : CellRecord
start = record { row = 0; column = 0; rights = 0 }

unfoldable pub cell : Head → List ThingRecord → CellRecord → Body CellRecord
cell h things last = do
  row ← number 2
  check (is_some (thing_with things row)) 5
  check (is_row h (thing_with things row)) 6
  column ← number 2
  check (is_some (thing_with things column)) 5
  check (above last row column) 7
  rights ← number 8
  check (ltb rights (2 ^ h.rights)) 5
  check (not (eqb rights 0)) 6
  done (record { row = row; column = column; rights = rights })
