-- Each way out is one case of `type_fault`.
use Rattle.plan.proofs.PlaceLaws.{spot_wrong, spot_held, spot_fits}
use Rattle.plan.proofs.places.spot_at.Goals as goal

pub returns-then-not-is : goal.returns-then-not-is
returns-then-not-is c = spot_wrong _ _ _ _ _ c.is.ensures c.if-not-is.true

pub returns-then-mark : goal.returns-then-mark
returns-then-mark c = spot_held _ _ _ _ _ c.is.ensures c.if-not-is.false c.if-mark.true

pub returns : goal.returns
returns c = spot_fits _ _ _ _ _ c.is.ensures c.if-not-is.false c.if-mark.false
