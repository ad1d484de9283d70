-- 27 for the scheme and for the matrix, before the three checks, then the cells; a refusal stores nothing.
use Rattle.std.proofs.Common.{arith, tests}
use Rattle.std.proofs.lemmas.Result.{err_from_is_err_and}
use Rattle.laws.proofs.Bools.{from_true}
use Rattle.conversion.proofs.Lists.{few_rights}
use Rattle.convert.proofs.AnswerLaws.{convertible_if, cells_27, cells_refused, cells_done}
use Rattle.convert.proofs.matrix.converted_cells.Goals as goal
use Rattle.convert.proofs.matrix.converted_cells.Goals.{then-not-scheme_accepted-via-then-not-scheme_accepted, then-not-scheme_accepted-via-else-not-scheme_accepted+then-not-matrix_accepted}

pub returns-then-not-scheme_accepted : goal.returns-then-not-scheme_accepted
returns-then-not-scheme_accepted c =
    cells_27 _ _ (elim c.then-not-scheme_accepted.branch [
      | then-not-scheme_accepted-via-then-not-scheme_accepted w ↦ grind (arith, tests)
      | then-not-scheme_accepted-via-else-not-scheme_accepted+then-not-matrix_accepted w ↦ grind (arith, tests)
    ])

pub returns-in_err-conversion_fault : goal.returns-in_err-conversion_fault
returns-in_err-conversion_fault c =
    let p = err_from_is_err_and c.from_residual.result c.from_residual.ensures.1 in
    rw (p.1, p.2) (cells_refused _ _ (grind arith) (grind arith) c.in_err-conversion_fault.ensures)

pub convert_cells-requires : goal.convert_cells-requires
convert_cells-requires c = (few_rights _ (convertible_if _ c.in_ok-conversion_fault.ensures), from_true (grind arith))

pub returns : goal.returns
returns c = cells_done _ _ (grind arith) (grind arith) c.in_ok-conversion_fault.ensures _ c.convert_cells.ensures
