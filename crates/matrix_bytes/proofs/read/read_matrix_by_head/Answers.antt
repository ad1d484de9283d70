-- `matrix_bytes::read::read_matrix_by_head` meets its contract: 27, then the head, and the rest where that ends.
-- Assumes nothing.
use mathlib.Core.Path.{sym, ap, ◌∙◌}
use Rattle.std.proofs.lemmas.Result.{err_from_is_err_and}
use Rattle.faults.specs.Numbers.{fault_of}
use Rattle.laws.proofs.Bools.{from_true}
use Rattle.matrix_records.proofs.Trips.{head_sized}
use Rattle.matrix_bytes.specs.Answers.{matrix_result}
use Rattle.matrix_bytes.proofs.ReadMatrix.{refuted, matrix_refused, matrix_no_head, matrix_rest}
use Rattle.matrix_bytes.proofs.ReadThings.{head_is, head_few}
use Rattle.matrix_bytes.proofs.read.read_matrix_by_head.Goals as goal
use Rattle.matrix_bytes.proofs.read.read_matrix_by_head.Goals.{then-cells-ne-CELLS-via-then-cells-ne-CELLS, then-cells-ne-CELLS-via-else-cells-ne-CELLS+then-not-head_accepted}

pub returns-then-cells-ne-CELLS : goal.returns-then-cells-ne-CELLS
unfolding fault_of
returns-then-cells-ne-CELLS c =
    ap matrix_result (matrix_refused _ _ _ _ λ (ok, room).
    elim c.then-cells-ne-CELLS.branch [
      | then-cells-ne-CELLS-via-then-cells-ne-CELLS w ↦ w.if-cells-ne-CELLS.true room
      | then-cells-ne-CELLS-via-else-cells-ne-CELLS+then-not-head_accepted w ↦ refuted w.if-not-head_accepted.ensures ok
    ])

pub returns-in_err-head : goal.returns-in_err-head
returns-in_err-head c =
    let p = err_from_is_err_and c.from_residual.result c.from_residual.ensures.1 in
    rw (p.1, p.2) (matrix_no_head _ _ _ _ (from_true (sym c.if-not-head_accepted.ensures)) c.if-cells-ne-CELLS.false c.in_err-head.ensures)

pub rest_of-requires : goal.rest_of-requires
rest_of-requires c =
    let ok = from_true (sym c.if-not-head_accepted.ensures) in
    let (few, near) = head_few c.args.s.now c.args.h (head_sized _ ok) (λ i. (c.type_inv.s i).fits) _ _ (head_is _ _ ok c.in_ok-head.ensures) in
    (few, near, c.if-cells-ne-CELLS.false)

pub returns : goal.returns
returns c =
    let ok = from_true (sym c.if-not-head_accepted.ensures) in
    c.rest_of.ensures ∙ ap matrix_result (matrix_rest _ _ _ _ ok c.if-cells-ne-CELLS.false (head_is _ _ ok c.in_ok-head.ensures))
