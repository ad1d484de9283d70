-- By the test of the number of seats.
use Rattle.plan.proofs.PlanLaws.{seat_free, none_free}
use borrow.Author.Rules.{rules}
use Rattle.plan.proofs.plan.free_seat.Goals as goal

pub returns-then-i-lt-LIMIT : goal.returns-then-i-lt-LIMIT
returns-then-i-lt-LIMIT c = seat_free c.args.th (search rules) _ c.seat_of-i.ensures c.if-i-lt-LIMIT.true

pub returns-else-i-lt-LIMIT : goal.returns-else-i-lt-LIMIT
returns-else-i-lt-LIMIT c = none_free c.args.th (search rules) _ c.seat_of-i.ensures c.if-i-lt-LIMIT.false
