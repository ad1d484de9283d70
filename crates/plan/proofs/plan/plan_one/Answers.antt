-- Each arm is a case of `plan_by`.
use mathlib.Core.Path.{◌≡◌}
use mathlib.Core.Logic.{inl, inr}
use lib.ListN.{get_or}
use borrow.Author.Rules.{rules}
use Rattle.model.specs.Request.{answer, after}
use Rattle.model.specs.Scheme.{id_at}
use Rattle.plan.specs.Plan.{plan_by}
use Rattle.plan.proofs.plan.plan_one.Goals as goal

pub returns-in-Enter : goal.returns-in-Enter
unfolding plan_by answer after
returns-in-Enter c = elim c.in-Enter.is [ inl e ↦ rw e | inr e ↦ rw e ]

pub returns-in-Create : goal.returns-in-Create
unfolding plan_by id_at
returns-in-Create c =
    let x : c.unwrap_or-x.result ≡ get_or c.args.ids.now c.args.o.row.0 0 = search rules in
    rw (c.in-Create.is, ← x, ← c.type_at.ensures) c.plan_create.ensures

pub returns-in-Destroy : goal.returns-in-Destroy
unfolding plan_by id_at
returns-in-Destroy c =
    let x : c.unwrap_or-x.result ≡ get_or c.args.ids.now c.args.o.row.0 0 = search rules in
    rw (c.in-Destroy.is, ← x) c.plan_destroy.ensures
