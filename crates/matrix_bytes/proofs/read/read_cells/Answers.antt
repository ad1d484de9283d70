-- `matrix_bytes::read::read_cells` meets its contract: each turn reads one cell's record, which has bytes and lies in the input.
-- Assumes nothing.
use native.Mathlib.Omega.{arith}
use borrow.Author.Rules.{rules}
use Rattle.std.proofs.lemmas.Result.{err_from_is_err_and}
use Rattle.matrix_bytes.proofs.ReadCells.{far_none, far_on, far_stop, far_all, cell_ends, cell_near}
use Rattle.matrix_bytes.proofs.read.read_cells.Goals as goal

pub loop-p-init : goal.loop-p-init
loop-p-init c = (search rules, far_none _ _ _ _ _ _ c.requires)

pub returns-in_err-found : goal.returns-in_err-found
returns-in_err-found c =
    let p = err_from_is_err_and c.from_residual.result c.from_residual.ensures.1 in
    rw (p.1, p.2) (far_stop _ _ _ _ _ _ c.loop-p.invariant.1 c.loop-p-test.true c.args.h.passes c.in_err-found.ensures)

pub offset_bounds-cells-found : goal.offset_bounds-cells-found
offset_bounds-cells-found c = let h = cell_near _ _ _ _ _ _ c.args.h.passes c.in_ok-found.ensures (search rules) in search rules

pub bounds-cells-found : goal.bounds-cells-found
bounds-cells-found c = let h = cell_near _ _ _ _ _ _ c.args.h.passes c.in_ok-found.ensures (search rules) in search rules

pub loop-p-smaller : goal.loop-p-smaller
loop-p-smaller c = omega (arith, cell_ends _ _ _ _ _ _ c.args.h.passes c.in_ok-found.ensures)

pub loop-p-preserved : goal.loop-p-preserved
loop-p-preserved c = (search rules, far_on _ _ _ _ _ _ c.loop-p.invariant.1 c.loop-p-test.true c.args.h.passes c.in_ok-found.ensures)

pub returns : goal.returns
returns c = far_all _ _ _ _ _ _ c.loop-p.invariant.1 c.loop-p-test.false
