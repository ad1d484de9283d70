-- Bytes placed in a lent buffer: what stands elsewhere is unchanged, and a refused writing leaves all of it.
-- Assumes nothing.
use Rattle.std.specs.Prelude.{ℕ, ◌+◌, cond, List, ◌++◌, leb, length, take, drop}
use Rattle.records.specs.Bytes.{record_bytes}
use Rattle.records.specs.Outcome.Writing.{Writing}
use Rattle.records.specs.Outcome.Writing.{Done, Refused}

-- the buffer with these bytes from a position on
unfoldable pub placed : List ℕ → ℕ → List ℕ → List ℕ
placed out at bytes = take at out ++ bytes ++ drop (at + length bytes) out

-- the bytes, if there is room for them (9): the next position, and what the buffer then holds
unfoldable pub write_bytes : List ℕ → ℕ → List ℕ → Writing × List ℕ
write_bytes out at bytes =
    cond (leb (at + length bytes) (length out)) (Done (at + length bytes), placed out at bytes) (Refused 9, out)

-- one record with this body; a body of more than 65535 bytes has no length field (4)
unfoldable pub write_record : List ℕ → ℕ → ℕ → List ℕ → Writing × List ℕ
write_record out at kind body =
    cond (leb (length body) 65535) (write_bytes out at (record_bytes kind body)) (Refused 4, out)
