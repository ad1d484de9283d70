-- The cells are copied and converted; the converted matrix is accepted, so nothing but room can refuse its writing.
use Rattle.std.proofs.lemmas.Result.{err_from_is_err_and}
use Rattle.model.specs.Seats.{matrix_of}
use Rattle.conversion.proofs.Converted.{converts}
use Rattle.convert.proofs.AnswerLaws.{matrix_27, rights_few, matrix_refused, matrix_done}
use Rattle.convert.proofs.bytes.convert_matrix.Goals as goal

pub returns-then-cells-ne-CELLS : goal.returns-then-cells-ne-CELLS
returns-then-cells-ne-CELLS c = matrix_27 _ _ _ c.if-cells-ne-CELLS.true

pub converted_head-requires : goal.converted_head-requires
converted_head-requires c =
    let a = c.args in
    rights_few _ (matrix_of a.th a.cells.now) _ c.copy_from_slice.ensures.after c.converted_cells.ensures c.in_ok-converted_cells.was

pub returns-in_err-converted_cells : goal.returns-in_err-converted_cells
returns-in_err-converted_cells c =
    let p = err_from_is_err_and c.from_residual.result c.from_residual.ensures.1 in
    rw (p.1, p.2) (matrix_refused _ _ _ c.copy_from_slice.ensures.after c.converted_cells.ensures _ c.in_err-converted_cells.was)

pub returns : goal.returns
returns c =
    matrix_done _ _ _ c.copy_from_slice.ensures.after c.converted_cells.ensures _ converts c.in_ok-converted_cells.was _
    c.converted_head.ensures _ c.write_matrix_by_head.ensures
