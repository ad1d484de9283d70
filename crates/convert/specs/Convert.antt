-- What the conversion calls give: 27, then 20, 21, 22, each over all of the scheme, then 9.
-- Assumes nothing.
use Rattle.std.specs.Prelude.{ℕ, cond, ◌&&◌, List, []}
use Rattle.std.proofs.Math.Option.{none, some}
use Rattle.laws.specs.Check.{Fault}
use Rattle.model.specs.Seats.{Matrix}
use Rattle.model.specs.Accepted.{accepted_scheme, accepted_matrix}
use Rattle.model.specs.declared.Scheme.{Scheme}
use Rattle.conversion.specs.Conversion.{conversion_fault, convert_scheme, convert_matrix}
use Rattle.records.specs.Told.{Told, told}
use Rattle.records.specs.Writing.{write_bytes}
use Rattle.records.specs.Outcome.Writing.{Writing}
use Rattle.records.specs.Outcome.Writing as writing
use Rattle.scheme_bytes.specs.Write.{scheme_bytes}
use Rattle.matrix_bytes.specs.Write.{matrix_bytes}
use Rattle.convert.specs.Outcome.Conversion.{Conversion}
use Rattle.convert.specs.Outcome.Conversion.{Done, Refused}
use Rattle.convert.specs.Outcome.SchemeConversion.{SchemeConversion}

-- the first fault of a scheme handed in, and of a scheme with a matrix
unfoldable pub scheme_fault : Scheme → Fault
scheme_fault s = cond (accepted_scheme s) (conversion_fault s) (some 27)

unfoldable pub matrix_fault : Scheme → Matrix → Fault
matrix_fault s m = cond (accepted_scheme s && accepted_matrix s.head m) (conversion_fault s) (some 27)

-- ---- as values: a refused one is given back as it was handed in

-- what the answer tells: nothing but the number of the refusal, 0 for success
abbrev pub of_conversion : Conversion → Told
of_conversion Done = told 0 []
of_conversion (Refused k) = told k []

abbrev pub converted_by : Scheme → Fault → SchemeConversion
converted_by s none = record { answer = Done; scheme = convert_scheme s }
converted_by s (some k) = record { answer = Refused k; scheme = s }

unfoldable pub converted_scheme : Scheme → SchemeConversion
converted_scheme s = converted_by s (scheme_fault s)

abbrev pub cells_by : Scheme → Matrix → Fault → Conversion × List ℕ
cells_by s m none = (Done, (convert_matrix s.head m).cells)
cells_by s m (some k) = (Refused k, m.cells)

unfoldable pub converted_cells : Scheme → Matrix → Conversion × List ℕ
converted_cells s m = cells_by s m (matrix_fault s m)

-- ---- as bytes in a lent buffer, from its start
abbrev pub written_by : List ℕ → List ℕ → Fault → Writing × List ℕ
written_by out bytes none = write_bytes out 0 bytes
written_by out bytes (some k) = (writing.Refused k, out)

unfoldable pub convert_scheme_into : List ℕ → Scheme → Writing × List ℕ
convert_scheme_into out s = written_by out (scheme_bytes (convert_scheme s)) (scheme_fault s)

unfoldable pub convert_matrix_into : List ℕ → Scheme → Matrix → Writing × List ℕ
convert_matrix_into out s m = written_by out (matrix_bytes (convert_scheme s).head (convert_matrix s.head m)) (matrix_fault s m)
