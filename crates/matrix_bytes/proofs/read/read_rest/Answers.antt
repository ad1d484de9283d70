-- `matrix_bytes::read::read_rest` meets its contract: 27, then what stands behind a head.
-- Assumes nothing.
use native.Mathlib.Omega.{arith}
use mathlib.Core.Path.{sym, ap, ◌∙◌}
use Rattle.faults.specs.Numbers.{fault_of}
use Rattle.laws.proofs.Bools.{from_true}
use Rattle.matrix_bytes.specs.Answers.{matrix_result}
use Rattle.matrix_bytes.proofs.ReadMatrix.{refuted, rest_refused, rest_opened}
use Rattle.matrix_bytes.proofs.read.read_rest.Goals as goal
use Rattle.matrix_bytes.proofs.read.read_rest.Goals.{then-cells-ne-CELLS-via-then-cells-ne-CELLS, then-cells-ne-CELLS-via-else-cells-ne-CELLS+then-s-at, then-cells-ne-CELLS-via-else-cells-ne-CELLS+else-s-at+then-count-gt-LIMIT, then-cells-ne-CELLS-via-else-cells-ne-CELLS+else-s-at+else-count-gt-LIMIT+then-not-head_accepted}

pub returns-then-cells-ne-CELLS : goal.returns-then-cells-ne-CELLS
unfolding fault_of
returns-then-cells-ne-CELLS c =
    let a = c.args in
    ap matrix_result (rest_refused a.s.now a.at a.h a.highest a.count a.things.now a.cells.now λ (ok, few, near, room).
    elim c.then-cells-ne-CELLS.branch [
      | then-cells-ne-CELLS-via-then-cells-ne-CELLS w ↦ w.if-cells-ne-CELLS.true room
      | then-cells-ne-CELLS-via-else-cells-ne-CELLS+then-s-at w ↦ omega (arith, w.if-s-at.true)
      | then-cells-ne-CELLS-via-else-cells-ne-CELLS+else-s-at+then-count-gt-LIMIT w ↦ omega (arith, w.if-count-gt-LIMIT.true)
      | then-cells-ne-CELLS-via-else-cells-ne-CELLS+else-s-at+else-count-gt-LIMIT+then-not-head_accepted w ↦ refuted w.if-not-head_accepted.ensures ok
    ])

pub returns : goal.returns
returns c =
    c.rest_of.ensures
    ∙ ap matrix_result (sym (rest_opened _ _ _ _ _ _ _ (from_true (sym c.if-not-head_accepted.ensures), c.if-count-gt-LIMIT.false, c.if-s-at.false, c.if-cells-ne-CELLS.false)))
