-- What a move answers.
-- Assumes nothing.
use Rattle.std.specs.Prelude.{ℕ}

-- how many bytes the image has that was written; or the refusal's number, with the position in the image that was handed in
pub data Moved : Type 0 where
  Done : ℕ → Moved
  Refused : ℕ → ℕ → Moved
