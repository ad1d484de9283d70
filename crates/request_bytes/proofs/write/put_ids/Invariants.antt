-- `request_bytes::write::put_ids` meets its contract: after j turns, what is left to store is what remains of the ids' bytes.
-- Assumes nothing.
use Prim.Native.Nat.{◌+◌, ◌*◌}
use mathlib.Core.Path.{◌≡◌}
use lib.ListN.{drop}
use lib.Seq.{sets}
use Rattle.records.specs.Bytes.{little_endian, each_bytes}
use Rattle.request_bytes.proofs.write.put_ids.Given as goal

abbrev pub invariant-loop-j : goal.invariant-loop-j
invariant-loop-j l =
    sets l.initial.part l.i (each_bytes (little_endian 2) l.ids) ≡ sets l.part (l.i + 2 * l.j) (each_bytes (little_endian 2) (drop l.j l.ids))
