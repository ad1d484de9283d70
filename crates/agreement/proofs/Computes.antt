-- What a computed example of the functions looks through, gathered once by what it speaks of, as model's `Computes` does for requests.
-- Assumes nothing.
use Rattle.rights.specs.Sets.{partner, gained, converted}
use Rattle.conversion.specs.Conversion.{conversion_fault, convert_test, on_partner, convert_operations, convert_command, convert_scheme, convert_cells, convert_matrix}
use Rattle.records.specs.Bytes.{little_endian, record_bytes, number2, part}
use Rattle.records.specs.Front.{allowed, record_at, in_record}
use Rattle.records.specs.Reading.{field, whole}
use Rattle.records.specs.Writing.{placed, write_bytes}
use Rattle.command_bytes.specs.Write.{head_bytes, type_bytes, test_bytes, operation_bytes, command_bytes}
use Rattle.scheme_bytes.specs.Write.{write_scheme, scheme_bytes}
use Rattle.matrix_records.specs.Content.{record_in, records_from, seated}
use Rattle.matrix_records.specs.Write.{thing_bytes, cell_bytes, head_bytes as matrix_head_bytes}
use Rattle.matrix_bytes.specs.Content.{row_of, rows_of, cells_of, insert, rising, things_of}
use Rattle.matrix_bytes.specs.Write.{write_matrix, matrix_bytes}
use Rattle.request_bytes.specs.Read.{request_of, request, request_at, read_request}
use Rattle.request_bytes.specs.Write.{request_bytes}
use Rattle.request_list.specs.List.{read_from, read_list}
use Rattle.engine.specs.Step.{request_on}
use Rattle.engine.specs.List.{run_on}
use Rattle.convert.specs.Convert.{scheme_fault, matrix_fault, converted_scheme, converted_cells, convert_scheme_into, convert_matrix_into}
use Rattle.model.proofs.Computes.{requests_compute, papers_compute, seats_compute, key_computes, accepted_computes}

-- requests on the key example, in memory and on paper, and what is accepted
unfoldable pub examples_compute : Unit {0}
unfolding requests_compute papers_compute seats_compute key_computes accepted_computes
examples_compute = tt

-- the conversion, on values and into bytes
unfoldable pub conversion_computes : Unit {0}
unfolding partner gained converted conversion_fault convert_test on_partner convert_operations convert_command convert_scheme convert_cells convert_matrix
conversion_computes = tt

unfoldable pub converting_computes : Unit {0}
unfolding conversion_computes scheme_fault matrix_fault converted_scheme converted_cells convert_scheme_into convert_matrix_into
converting_computes = tt

-- bytes written: a record, a scheme, a matrix
unfoldable pub writing_computes : Unit {0}
unfolding little_endian record_bytes placed write_bytes
writing_computes = tt

unfoldable pub schemes_compute : Unit {0}
unfolding writing_computes head_bytes type_bytes test_bytes operation_bytes command_bytes scheme_bytes write_scheme
schemes_compute = tt

unfoldable pub matrices_compute : Unit {0}
unfolding writing_computes record_in records_from seated insert rising things_of row_of rows_of cells_of matrix_head_bytes thing_bytes cell_bytes matrix_bytes write_matrix
matrices_compute = tt

-- a list of requests read, and run
unfoldable pub lists_compute : Unit {0}
unfolding request_bytes number2 part allowed record_at in_record field whole request_of request request_at read_request read_from read_list request_on run_on
lists_compute = tt
