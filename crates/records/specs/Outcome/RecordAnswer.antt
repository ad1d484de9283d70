-- What stands at a position.
-- Assumes nothing.
use Rattle.std.specs.Prelude.{ℕ}

-- a record, with its kind, where its body is and how long that is; or the refusal's number with the record's position
pub data RecordAnswer : Type 0 where
  Record : ℕ → ℕ → ℕ → RecordAnswer
  Refused : ℕ → ℕ → RecordAnswer
