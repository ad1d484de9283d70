-- `records::Kinds::has` meets its contract: below 16 it is the binary digit, from 16 on there is no kind.
-- Assumes nothing.
use Rattle.records.proofs.FrontLaws.{allowed_below, allowed_above}
use Rattle.records.proofs.Kinds.has.Goals as goal

pub returns-then-kind-lt16 : goal.returns-then-kind-lt16
returns-then-kind-lt16 c = allowed_below _ _ c.if-kind-lt16.true

pub returns-else-kind-lt16 : goal.returns-else-kind-lt16
returns-else-kind-lt16 c = allowed_above _ _ c.if-kind-lt16.false
