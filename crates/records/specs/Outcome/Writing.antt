-- Where a writing ended.
-- Assumes nothing.
use Rattle.std.specs.Prelude.{ℕ}

-- the next position; or the refusal's number
pub data Writing : Type 0 where
  Done : ℕ → Writing
  Refused : ℕ → Writing
