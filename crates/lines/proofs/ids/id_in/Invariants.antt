-- `lines::id_in` meets its contract: what was read are digits that stand for n, and what is left decides the id.
-- Assumes nothing.
use Rattle.lines.proofs.IdLaws.{Read}
use Rattle.lines.proofs.ids.id_in.Given as goal

abbrev pub invariant-loop-byte : goal.invariant-loop-byte
invariant-loop-byte l = Read l.word l.n l.byte-index
