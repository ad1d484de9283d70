-- Whether something was converted.
-- Assumes nothing.
use Rattle.std.specs.Prelude.{ℕ}

-- done, or the refusal's number
pub data Conversion : Type 0 where
  Done : Conversion
  Refused : ℕ → Conversion
