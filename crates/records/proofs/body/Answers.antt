-- `records::body` meets its contract: of a part that runs past the end, what there is of it.
-- Assumes nothing.
use Rattle.records.proofs.FrontLaws.{part_none, part_short, part_whole}
use Rattle.records.proofs.body.Goals as goal

pub returns-then-n-start : goal.returns-then-n-start
returns-then-n-start c = part_none _ _ _ c.if-n-start.true

pub returns-then-n-start-2 : goal.returns-then-n-start-2
returns-then-n-start-2 c = part_short _ _ _ c.if-n-start-2.true

pub returns : goal.returns
returns c = part_whole _ _ _
