-- Both ways out are `plan_destroy`'s, by who sits at the parameter's seat.
use mathlib.Core.Path.{◌≡◌, sym, ◌∙◌}
use lib.ListN.{get_or}
use borrow.Author.Rules.{rules}
use Rattle.plan.proofs.PlanLaws.{destroy_gone, destroy_done}
use Rattle.plan.proofs.plan.plan_destroy.Goals as goal

pub returns-then-unwrap_or-x : goal.returns-then-unwrap_or-x
returns-then-unwrap_or-x c =
    let there : c.unwrap_or.result ≡ get_or c.args.plan.now.things.ids c.seat_at-i.result 0 = search rules in
    destroy_gone _ _ _ _ _ c.seat_at-i.ensures (λ e. c.if-unwrap_or-x.true (there ∙ e))

pub returns : goal.returns
returns c =
    let there : c.unwrap_or.result ≡ get_or c.args.plan.now.things.ids c.seat_at-i.result 0 = search rules in
    rw c.put_thing-plan.ensures
    (destroy_done _ _ _ _ _ c.seat_at-i.ensures (sym there ∙ c.if-unwrap_or-x.false))
