-- What the reading of a request answers.
-- Assumes nothing.
use Rattle.request_bytes.specs.Outcome.RequestReading.{RequestReading}
use Rattle.request_bytes.specs.declared.Request.{Request}

-- with no request beside an end or a refusal
pub record RequestAnswer : Type 0 where
  pub answer : RequestReading
  pub request : Request
