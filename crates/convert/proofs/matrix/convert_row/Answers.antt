-- After j turns the first j cells of the row are the converted ones.
use borrow.Author.Rules.{rules}
use Rattle.convert.proofs.CellLaws.{row_start, row_there, row_on, row_past, row_end}
use Rattle.convert.proofs.matrix.convert_row.Goals as goal
use Rattle.convert.proofs.matrix.convert_row.Goals.{else-ids-j-ne0, then-ids-j-ne0}

pub loop-j-init : goal.loop-j-init
loop-j-init c = row_start _ _ _ (search rules) c.requires.1

pub convert_set-requires : goal.convert_set-requires
convert_set-requires c =
    let p = c.requires in
    (p.0, rw (row_there c.loop-j.invariant (search rules)) (p.2 _ (search rules)))

pub loop-j-preserved : goal.loop-j-preserved
loop-j-preserved c =
    elim c.if-ids-j-ne0.branch [
      | then-ids-j-ne0 w ↦ rw w.row-is (row_on c.loop-j.invariant (search rules) _ w.if-ids-j-ne0.true w.convert_set.ensures)
      | else-ids-j-ne0 w ↦ rw w.row-is (row_past c.loop-j.invariant (search rules) w.if-ids-j-ne0.false)
    ]

pub returns : goal.returns
returns c = row_end c.loop-j.invariant (search rules)
