-- What reading a matrix gives.
-- Assumes nothing.
use Rattle.model.specs.declared.Things.{Things}
use Rattle.records.specs.Outcome.Reading.{Reading}

-- where the reading ended, and the things; those that stood before where it was refused
pub record MatrixAnswer : Type 0 where
  pub answer : Reading
  pub things : Things
