-- `records::put_each` meets its contract: after j turns, what is left to store is what remains of the bytes; what is past the end is not stored, and `sets`
-- leaves it out too.
-- Assumes nothing.
use native.Mathlib.Nat.{add-zero}
use mathlib.Core.Path.{refl, sym, ◌∙◌}
use Rattle.records.proofs.BytesLaws.{sets_out, sets_next, sets_all}
use Rattle.records.proofs.put_each.Goals as goal

pub loop-j-init : goal.loop-j-init
loop-j-init c = rw add-zero refl

pub loop-j-preserved : goal.loop-j-preserved
loop-j-preserved c = c.loop-j.invariant ∙ sets_next _ _ _ _ c.loop-j-test.true ∙ rw c.put1.ensures

pub returns-after-loop-j : goal.returns-after-loop-j
returns-after-loop-j c = sym (c.loop-j.invariant ∙ sets_all _ _ _ _ c.loop-j-test.false)

pub returns-else-i-out : goal.returns-else-i-out
returns-else-i-out c = sym (sets_out _ _ c.args.bytes.now c.if-i-out.false)
