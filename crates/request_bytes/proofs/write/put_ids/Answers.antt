-- `request_bytes::write::put_ids` meets its contract: after j turns, what is left to store is what remains of the ids' bytes.
-- Assumes nothing.
use native.Mathlib.Nat.{add-zero}
use mathlib.Core.Path.{refl, sym, ◌∙◌}
use Rattle.request_bytes.proofs.Laws.{ids_next, ids_all}
use Rattle.request_bytes.proofs.write.put_ids.Goals as goal

pub loop-j-init : goal.loop-j-init
loop-j-init c = rw add-zero refl

pub loop-j-preserved : goal.loop-j-preserved
loop-j-preserved c = c.loop-j.invariant ∙ ids_next _ _ _ _ c.loop-j-test.true ∙ rw c.put2.ensures

pub returns : goal.returns
returns c = sym (c.loop-j.invariant ∙ ids_all _ _ _ _ c.loop-j-test.false)
