-- Where the reading of a request ended.
-- Assumes nothing.
use Rattle.std.specs.Prelude.{ℕ}

-- the next position; the end of the list; or the refusal's number with the record's position
pub data RequestReading : Type 0 where
  Done : ℕ → RequestReading
  End : RequestReading
  Refused : ℕ → ℕ → RequestReading
