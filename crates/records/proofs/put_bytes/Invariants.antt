-- `records::put_bytes` meets its contract: after j turns, what is left to store is what remains of the bytes.
-- Assumes nothing.
use Prim.Native.Nat.{◌+◌}
use mathlib.Core.Path.{◌≡◌}
use lib.ListN.{length, drop}
use lib.Seq.{sets}
use Rattle.records.proofs.put_bytes.Given as goal

abbrev pub invariant-loop-j : goal.invariant-loop-j
invariant-loop-j l = (length l.part ≡ length l.initial.part) × (sets l.initial.part l.i l.bytes ≡ sets l.part (l.i + l.j) (drop l.j l.bytes))
