-- A request's bytes, and writing them: over 8 ids 4, then 9.
-- Assumes nothing.
use Rattle.std.specs.Prelude.{ℕ, cond, List, ◌∷◌, leb, length}
use Rattle.records.specs.Bytes.{little_endian, record_bytes, each_bytes}
use Rattle.records.specs.Writing.{write_bytes}
use Rattle.records.specs.Outcome.Writing.{Writing}
use Rattle.records.specs.Outcome.Writing.{Refused}

unfoldable pub request_bytes : ℕ → List ℕ → List ℕ
request_bytes command ids = record_bytes 6 (command ∷ length ids ∷ each_bytes (little_endian 2) ids)

unfoldable pub write_request : List ℕ → ℕ → ℕ → List ℕ → Writing × List ℕ
write_request out at command ids =
    cond (leb (length ids) 8) (write_bytes out at (request_bytes command ids)) (Refused 4, out)
