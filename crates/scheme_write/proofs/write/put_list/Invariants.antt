-- `write::put_list` meets its contract: after so many turns, what is left to store is what remains of the items' bytes.
-- Assumes nothing.
use Rattle.scheme_write.proofs.WriteLaws.{Storing}
use Rattle.scheme_write.proofs.write.put_list.Given as goal

abbrev pub invariant-loop-item : goal.invariant-loop-item
invariant-loop-item g l = Storing g.T.Stored.bytes l.items l.initial.part l.initial.p l.part l.p l.item-index
