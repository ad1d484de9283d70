-- A matrix's bytes, and writing them: 27, then 9.
-- Assumes nothing.
use Rattle.std.specs.Prelude.{ℕ, cond, ◌&&◌, List, ◌++◌, length}
use Rattle.model.specs.Seats.{Matrix}
use Rattle.model.specs.Accepted.{accepted_head, accepted_scheme, accepted_matrix}
use Rattle.model.specs.declared.Head.{Head}
use Rattle.model.specs.declared.Scheme.{Scheme}
use Rattle.records.specs.Bytes.{record_bytes, each_bytes}
use Rattle.records.specs.Writing.{write_bytes}
use Rattle.records.specs.Outcome.Writing.{Writing}
use Rattle.records.specs.Outcome.Writing.{Refused}
use Rattle.matrix_records.specs.Write.{head_bytes, thing_bytes, thing_kind, cell_bytes}
use Rattle.matrix_bytes.specs.Content.{things_of, cells_of}

unfoldable pub matrix_bytes : Head → Matrix → List ℕ
matrix_bytes h m =
    record_bytes 7 (head_bytes h.rights (record { count = length (things_of m); highest = m.things.highest }))
    ++ each_bytes (λ t. record_bytes (thing_kind t) (thing_bytes t)) (things_of m)
    ++ each_bytes (λ c. record_bytes 5 (cell_bytes c)) (cells_of h m)

unfoldable pub write_matrix : List ℕ → Scheme → Matrix → Writing × List ℕ
write_matrix out s m =
    cond (accepted_scheme s && accepted_matrix s.head m) (write_bytes out 0 (matrix_bytes s.head m)) (Refused 27, out)

-- the same where the head is all that is known of the scheme
unfoldable pub write_matrix_by_head : List ℕ → Head → Matrix → Writing × List ℕ
write_matrix_by_head out h m =
    cond (accepted_head h && accepted_matrix h m) (write_bytes out 0 (matrix_bytes h m)) (Refused 27, out)
