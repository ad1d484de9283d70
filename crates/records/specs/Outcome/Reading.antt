-- Where a reading ended.
-- Assumes nothing.
use Rattle.std.specs.Prelude.{ℕ}

-- the next position; or the refusal's number with the record's position
pub data Reading : Type 0 where
  Done : ℕ → Reading
  Refused : ℕ → ℕ → Reading
