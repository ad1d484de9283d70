-- `records::put_each` meets its contract: after j turns, what is left to store is what remains of the bytes.
-- Assumes nothing.
use Prim.Native.Nat.{◌+◌}
use mathlib.Core.Path.{◌≡◌}
use lib.ListN.{drop}
use lib.Seq.{sets}
use Rattle.records.proofs.put_each.Given as goal

abbrev pub invariant-loop-j : goal.invariant-loop-j
invariant-loop-j l = sets l.initial.out l.i l.bytes ≡ sets l.out (l.i + l.j) (drop l.j l.bytes)
