-- What is done and what is left are the whole: each turn is a step of the model, and its reply is stored where there is room.
-- Assumes nothing.
use Prim.Native.Nat.{◌-◌, ◌≤◌}
use lib.ListN.{length}
use Rattle.model.specs.Seats.{matrix_of}
use Rattle.engine.proofs.ListLaws.{Running}
use Rattle.engine.proofs.list.run_all.Given as goal

abbrev pub invariant-loop-next : goal.invariant-loop-next
invariant-loop-next l = record {
  near : l.p ≤ length l.bytes;
  running : Running l.s (matrix_of l.initial.th l.initial.cells) l.bytes l.initial.out (matrix_of l.th l.cells) l.out l.n l.p;
}

abbrev pub decreases-loop-next : goal.decreases-loop-next
decreases-loop-next l = length l.bytes - l.p
