-- `request_bytes::read::ids_at` meets its contract: after j turns j ids are read, and stand at the array's start.
-- Assumes nothing.
use Prim.Native.Nat.{ℕ, ◌+◌, ◌*◌, ◌-◌, ◌≤◌}
use mathlib.Core.List.{◌++◌, map}
use mathlib.Core.Path.{◌≡◌}
use lib.ListN.{drop, replicate}
use Rattle.records.specs.Reading.{number}
use Rattle.records.proofs.Loop.{Looped}
use Rattle.request_bytes.proofs.read.ids_at.Given as goal

abbrev pub invariant-loop-j : goal.invariant-loop-j
invariant-loop-j l =
    (l.j ≤ l.count) ×
    (v : Looped (λ (u : Unit {0}). number 2) (λ u x. u) l.count tt (drop l.i l.b) l.j tt (drop (l.i + 2 * l.j) l.b)) ×
    (l.ids ≡ map (λ (x : ℕ). x) v.items ++ replicate (8 - l.j) 0)
