-- The walk over all places carries along whether each was accepted.
use Rattle.std.proofs.Common.{arith, rules}
use Rattle.laws.proofs.Walks.{long}
use Rattle.accepted.proofs.SchemeLaws.{filled_start, filled_on, filled_end}
use Rattle.accepted.proofs.scheme.commands_accepted.Goals as goal

pub loop-i-init : goal.loop-i-init
loop-i-init c = filled_start _ _ _ 32 _ (search (rules, long))

pub loop-i-preserved : goal.loop-i-preserved
loop-i-preserved c = filled_on _ _ _ c.loop-i.invariant _ _ (omega arith) c.place_accepted-fine.ensures

pub returns : goal.returns
returns c = filled_end _ _ _ c.loop-i.invariant (omega arith)
