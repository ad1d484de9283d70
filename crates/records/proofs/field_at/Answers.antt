-- `records::field_at` meets its contract: the byte there, and then its range.
-- Assumes nothing.
use mathlib.Core.Logic.{inl, inr}
use mathlib.Core.Path.{sym, ap, ◌∙◌}
use Rattle.std.proofs.lemmas.Result.{err_from_is_err_and}
use Rattle.std.specs.Prelude.{Err}
use Rattle.records.proofs.FieldLaws.{field_none, field_outside, field_inside}
use Rattle.records.proofs.field_at.Goals as goal
use Rattle.records.proofs.field_at.Goals.{then-v-low-via-then-v-low, then-v-low-via-else-v-low+then-limit-v}

pub returns-in_err-v : goal.returns-in_err-v
returns-in_err-v c =
    let p = err_from_is_err_and c.from_residual.result c.from_residual.ensures.1 in
    rw (p.1, p.2) (field_none _ _ _ _ (sym c.in_err-v.ensures))

pub returns-then-v-low : goal.returns-then-v-low
returns-then-v-low c =
    let e = sym c.in_ok-v.ensures in
    ap Err c.from.ensures
    ∙ field_outside _ _ _ _ e
    (elim c.then-v-low.branch [ then-v-low-via-then-v-low w ↦ inl w.if-v-low.true | then-v-low-via-else-v-low+then-limit-v w ↦ inr w.if-limit-v.true ])

pub returns : goal.returns
returns c = field_inside _ _ _ _ (sym c.in_ok-v.ensures) c.if-v-low.false c.if-limit-v.false
