-- The bytes of a matrix's records: the body of the head, of a thing and of a cell; and the kind of a thing's record, which tells its mark.
-- Assumes nothing.
use Rattle.std.specs.Prelude.{ℕ, cond, List, [], ◌∷◌, ◌++◌}
use Rattle.rights.specs.Numberings.{type_byte}
use Rattle.records.specs.Bytes.{little_endian}
use Rattle.matrix_records.specs.Content.{Stated, ThingRecord, CellRecord}

unfoldable pub head_bytes : ℕ → Stated → List ℕ
head_bytes n st = n ∷ st.count ∷ little_endian 2 st.highest

unfoldable pub thing_bytes : ThingRecord → List ℕ
thing_bytes t = little_endian 2 t.id ++ type_byte t.thing.type ∷ []

unfoldable pub thing_kind : ThingRecord → ℕ
thing_kind t = cond t.thing.on_hold 8 4

unfoldable pub cell_bytes : CellRecord → List ℕ
cell_bytes c = little_endian 2 c.row ++ little_endian 2 c.column ++ little_endian 8 c.rights
