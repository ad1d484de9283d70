-- Each way out is one case of `spot_of`.
use mathlib.Core.Path.{◌∙◌}
use Rattle.plan.proofs.PlaceLaws.{spot_0, spot_new, spot_unknown, spot_there}
use borrow.Author.Rules.{rules}
use Rattle.plan.proofs.places.spot_of.Goals as goal

pub returns-then-x-eq0 : goal.returns-then-x-eq0
returns-then-x-eq0 c = spot_0 _ _ _ _ c.if-x-eq0.true

pub returns-then-new : goal.returns-then-new
returns-then-new c = spot_new _ _ _ _ c.if-x-eq0.false c.ranges.x c.if-new.true

pub returns-then-i-ge-LIMIT : goal.returns-then-i-ge-LIMIT
returns-then-i-ge-LIMIT c =
    spot_unknown c.args.th.now _ _ _ c.if-x-eq0.false c.ranges.x c.if-new.false (search rules) _ c.seat_of-i.ensures c.if-i-ge-LIMIT.true

pub returns : goal.returns
returns c =
    c.spot_at.ensures
    ∙ spot_there c.args.th.now _ _ _ c.if-x-eq0.false c.ranges.x c.if-new.false (search rules) _ c.seat_of-i.ensures c.if-i-ge-LIMIT.false
