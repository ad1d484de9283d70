-- `matrix_bytes::read::read_cells` meets its contract: each turn reads one cell's record, which has bytes and lies in the input.
-- Assumes nothing.
use Prim.Native.Nat.{◌-◌}
use mathlib.Core.Path.{◌≡◌}
use lib.ListN.{length}
use Rattle.matrix_bytes.proofs.ReadCells.{SoFar}
use Rattle.matrix_bytes.proofs.read.read_cells.Given as goal

abbrev pub invariant-loop-p : goal.invariant-loop-p
invariant-loop-p l = (length l.cells ≡ 2304) × SoFar l.s l.h.head l.th l.n l.at l.initial.cells l.cells l.over l.by l.p

abbrev pub decreases-loop-p : goal.decreases-loop-p
decreases-loop-p l = length l.s - l.p
