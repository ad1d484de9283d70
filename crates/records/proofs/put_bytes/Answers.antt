-- `records::put_bytes` meets its contract: after j turns, what is left to store is what remains of the bytes.
-- Assumes nothing.
use native.Mathlib.Nat.{add-zero}
use mathlib.Core.Path.{refl, sym, ◌∙◌}
use lib.ListN.{length-set}
use Rattle.records.proofs.BytesLaws.{sets_next, sets_all}
use Rattle.records.proofs.put_bytes.Goals as goal

pub loop-j-init : goal.loop-j-init
loop-j-init c = (refl, rw add-zero)

pub loop-j-preserved : goal.loop-j-preserved
loop-j-preserved c =
    let l = c.loop-j in
    (simp length-set l.invariant.0, l.invariant.1 ∙ sets_next _ _ _ _ c.loop-j-test.true)

pub returns : goal.returns
returns c = sym (c.loop-j.invariant.1 ∙ sets_all _ _ _ _ c.loop-j-test.false)
