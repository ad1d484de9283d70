-- Whether a mark was set.
-- Assumes nothing.
use Rattle.std.specs.Prelude.{ℕ}

-- done, or the refusal's number
pub data Marking : Type 0 where
  Done : Marking
  Refused : ℕ → Marking
