-- After i turns the first i rows are the converted ones.
use Prim.Native.Nat.{◌<◌}
use mathlib.Core.Path.{sym, ◌∙◌}
use borrow.Author.Rules.{rules}
use Rattle.model.specs.Scheme.{is_subject}
use Rattle.convert.proofs.CellLaws.{converting_start, row_long, row_small, free_row, object_row, converting_row, converting_none, converting_end}
use Rattle.convert.proofs.matrix.convert_cells.Goals as goal
use Rattle.convert.proofs.matrix.convert_cells.Goals.{then-th-i-ne0+then-has, else-th-i-ne0, else-th-i-ne0-via-then-th-i-ne0+else-has, else-th-i-ne0-via-else-th-i-ne0}

pub loop-i-init : goal.loop-i-init
loop-i-init c = converting_start _ _ _ c.requires.1

pub convert_row-requires : goal.convert_row-requires
convert_row-requires c =
    let p = c.requires in
    let l : c.loop-i.i < 48 = search rules in
    (p.0, row_long _ _ _ p.1 c.loop-i.invariant l, row_small _ _ _ p.1 c.loop-i.invariant l)

pub loop-i-preserved : goal.loop-i-preserved
unfolding is_subject
loop-i-preserved c =
    let p = c.requires.1 in
    let l : c.loop-i.i < 48 = search rules in
    elim c.if-th-i-ne0.branch [
      | then-th-i-ne0+then-has w ↦ rw w.cells-is
          (converting_row _ _ _ p c.loop-i.invariant l _ w.if-th-i-ne0.true (sym w.has.ensures ∙ w.if-has.true) w.convert_row.ensures)
      | else-th-i-ne0 w ↦ rw w.cells-is (converting_none _ _ _ p c.loop-i.invariant l (λ j.
          elim w.else-th-i-ne0.branch [
            | else-th-i-ne0-via-then-th-i-ne0+else-has v ↦ object_row _ _ _ j (sym v.has.ensures ∙ v.if-has.false)
            | else-th-i-ne0-via-else-th-i-ne0 v ↦ free_row _ _ _ j v.if-th-i-ne0.false
          ]))
    ]

pub returns : goal.returns
returns c = converting_end _ _ _ c.requires.1 c.loop-i.invariant (search rules)
