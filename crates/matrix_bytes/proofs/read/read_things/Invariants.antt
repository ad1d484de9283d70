-- `matrix_bytes::read::read_things` meets its contract: after j turns j things are read, and sit at the first seats.
-- Assumes nothing.
use mathlib.Core.Path.{◌≡◌}
use Rattle.records.specs.Front.{in_record}
use Rattle.records.proofs.Loop.{Looped}
use Rattle.matrix_records.specs.Read.{thing}
use Rattle.matrix_bytes.specs.Content.{things_from}
use Rattle.matrix_bytes.proofs.read.read_things.Given as goal

abbrev pub invariant-loop-j : goal.invariant-loop-j
invariant-loop-j l =
    (v : Looped (λ last'. in_record l.s 272 (thing l.h.head l.highest last')) (λ last' t. t.id) l.count 0 l.at l.j l.last l.p) ×
    (l.th ≡ things_from l.highest v.items)
