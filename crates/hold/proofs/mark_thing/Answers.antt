-- `hold::mark_thing` meets its contract: each way out is one case of `mark_thing`.
-- Assumes nothing.
use borrow.Author.Rules.{rules}
use Rattle.faults.specs.Numbers.{fault_of}
use Rattle.hold.specs.Marking.{mark_seat}
use Rattle.hold.proofs.MarkLaws.{mark_0, mark_unknown, mark_here}
use Rattle.hold.proofs.mark_thing.Goals as goal

pub returns-then-x-eq0 : goal.returns-then-x-eq0
unfolding fault_of
returns-then-x-eq0 c = let a = c.args in rw (mark_0 a.mark a.x a.th.now c.if-x-eq0.true)

pub returns-then-i-ge-LIMIT : goal.returns-then-i-ge-LIMIT
unfolding fault_of
returns-then-i-ge-LIMIT c =
    let a = c.args in
    rw (mark_unknown a.mark a.x a.th.now c.if-x-eq0.false (search rules) _ c.seat_of-i.ensures c.if-i-ge-LIMIT.true)

pub returns : goal.returns
unfolding mark_seat
returns c =
    let a = c.args in
    rw (mark_here a.mark a.x a.th.now c.if-x-eq0.false (search rules) _ c.seat_of-i.ensures c.if-i-ge-LIMIT.false)
