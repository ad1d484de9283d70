-- The things afterwards, which are those before where the mark was refused.
-- Assumes nothing.
use Rattle.model.specs.declared.Things.{Things}
use Rattle.hold.specs.Outcome.Marking.{Marking}

pub record Marked : Type 0 where
  pub things : Things
  pub answer : Marking
