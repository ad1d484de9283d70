-- `write::put_list` meets its contract: after so many turns, what is left to store is what remains of the items' bytes.
-- Assumes nothing.
use native.Mathlib.Omega.{arith}
use native.Mathlib.Numerals.{add-one}
use mathlib.Core.Path.{◌∙◌}
use Rattle.scheme_write.proofs.WriteLaws.{storing_start, storing_on, storing_end}
use Rattle.scheme_write.proofs.write.put_list.Goals as goal

pub put-p-requires : goal.put-p-requires
put-p-requires g c = omega (arith, c.loop-item.invariant.near, c.loop-item-test.true)

pub loop-item-init : goal.loop-item-init
loop-item-init g c = storing_start

pub loop-item-preserved : goal.loop-item-preserved
loop-item-preserved g c =
    storing_on c.loop-item.invariant _ _ _ _ c.loop-item-test.true c.item-item.is (g.met.T.Stored.few _) c.put-p.ensures.stored c.put-p.ensures.behind

pub returns : goal.returns
returns g c =
    let (stored, behind) = storing_end c.loop-item.invariant c.loop-item-test.false in
    record { stored = stored ∙ rw (c.put1.ensures, add-one); behind = behind }
