-- What the functions give, from what the definitions give: the things, and what the lent cells then hold; where the reading is refused, both as
-- they stood.
-- Assumes nothing.
use Rattle.std.specs.Prelude.{ℕ, cond, ◌&&◌, List, Result, eqb, leb, length}
use Rattle.model.specs.Seats.{Matrix}
use Rattle.model.specs.Accepted.{accepted_head, accepted_scheme}
use Rattle.model.specs.declared.Head.{Head}
use Rattle.model.specs.declared.Scheme.{Scheme}
use Rattle.model.specs.declared.Things.{Things}
use Rattle.records.specs.Reading.{Read, got, fault}
use Rattle.records.specs.Front.{Refusal}
use Rattle.records.specs.Outcome.Reading.{Done, Refused}
use Rattle.records.specs.Results.{reading_result}
use Rattle.records.specs.declared.Refused as result
use Rattle.matrix_bytes.specs.Read.{rest, matrix}
use Rattle.matrix_bytes.specs.MatrixAnswer.{MatrixAnswer}

abbrev pub as_matrix : Things → List ℕ → Read ℕ Refusal Matrix → MatrixAnswer × List ℕ
as_matrix things cells (got m next) = (record { answer = Done next; things = m.things }, m.cells)
as_matrix things cells (fault f) = (record { answer = Refused f.number f.at; things = things }, cells)

-- where a reading ended, with what the lent things and cells then hold
abbrev pub matrix_result : MatrixAnswer × List ℕ → Result ℕ result.Refused × Things × List ℕ
matrix_result r = (reading_result r.0.answer, r.0.things, r.1)

-- 27 at position 0 for a scheme that no reading gives, and for lent cells that are no 48 times 48
unfoldable pub read_matrix : List ℕ → Scheme → Things → List ℕ → MatrixAnswer × List ℕ
read_matrix bytes s things cells =
    cond (accepted_scheme s && eqb (length cells) 2304) (as_matrix things cells (matrix s.head bytes 0))
    (record { answer = Refused 27 0; things = things }, cells)

-- the same where the head is all that is known of the scheme
unfoldable pub read_matrix_by_head : List ℕ → Head → Things → List ℕ → MatrixAnswer × List ℕ
read_matrix_by_head bytes h things cells =
    cond (accepted_head h && eqb (length cells) 2304) (as_matrix things cells (matrix h bytes 0))
    (record { answer = Refused 27 0; things = things }, cells)

-- what stands from a position on, behind a head that states so many things and this highest id; 27 too for a position behind the end, and for more than 48 things
unfoldable pub read_rest : List ℕ → ℕ → Head → ℕ → ℕ → Things → List ℕ → MatrixAnswer × List ℕ
read_rest bytes at h highest count things cells =
    cond (accepted_head h && leb count 48 && leb at (length bytes) && eqb (length cells) 2304)
    (as_matrix things cells (rest h highest count bytes at))
    (record { answer = Refused 27 0; things = things }, cells)
