-- What a request and a list of requests are answered, with the things that they leave.
-- Assumes nothing.
use Rattle.std.specs.Prelude.{ℕ}
use Rattle.model.specs.declared.Reply.{Reply}
use Rattle.model.specs.declared.Things.{Things}

pub record Stepped : Type 0 where
  pub things : Things
  pub answer : Reply

-- a list of requests ended with its end, after so many; or with a record that can't be read, after so many requests, for the reason of this number, and
-- at this position; or it was refused as a whole, by this number
pub data RunAnswer : Type 0 where
  Whole : ℕ → RunAnswer
  Bad : ℕ → ℕ → ℕ → RunAnswer
  Refused : ℕ → RunAnswer

pub record Ran : Type 0 where
  pub things : Things
  pub answer : RunAnswer
