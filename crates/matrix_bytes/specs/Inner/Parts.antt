-- What the functions give that read the cells of a matrix: each in its place.
-- Assumes nothing.
use Rattle.std.specs.Prelude.{ℕ, List, [], ◌∷◌, Result, Ok, Err, ◌≡◌, length, set}
use Rattle.model.specs.declared.Head.{Head}
use Rattle.model.specs.declared.Things.{Things}
use Rattle.records.specs.Reading.{Read, got, fault}
use Rattle.records.specs.Front.{Refusal, in_record}
use Rattle.records.specs.Results.{refused}
use Rattle.records.specs.declared.Refused as result
use Rattle.matrix_records.specs.Content.{CellRecord, listed}
use Rattle.matrix_records.specs.Read.{cell, start}
use Rattle.matrix_records.specs.Answers.{place_in}
use Rattle.matrix_bytes.specs.Read.{to_end}

-- the cells from a position to the end of the input, of the first n things
abbrev pub cells_from : List ℕ → Head → Things → ℕ → ℕ → Read ℕ Refusal (List CellRecord)
cells_from s h th n = to_end s (λ last. in_record s 32 (λ kind. cell h (listed n th) last)) (λ last c. c) (length s) start

-- each at its place
unfoldable pub stored_in : ℕ → List ℕ → List ℕ → List CellRecord → List ℕ
stored_in n ids cells [] = cells
stored_in n ids cells (c ∷ cs) = stored_in n ids (set cells (place_in n ids c) c.rights) cs

-- the result, and what it leaves of the lent cells; where it is a refusal, nobody looks at them
unfoldable pub CellsRead : ℕ → List ℕ → List ℕ → Result ℕ result.Refused → List ℕ → Read ℕ Refusal (List CellRecord) → Type 0
CellsRead n ids cells read new (got cs next) = (read ≡ Ok next) × (new ≡ stored_in n ids cells cs)
CellsRead n ids cells read new (fault f) = read ≡ Err (refused f.number f.at)
