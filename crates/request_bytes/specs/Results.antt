-- What the functions give for the reading of a request: the next position, None at the list's end, or the fault with the record's position.
-- Assumes nothing.
use Rattle.std.specs.Prelude.{ℕ, Result, Ok, Err, Option, Some, None}
use Rattle.records.specs.Results.{refused}
use Rattle.records.specs.declared.Refused.{Refused as Refusal}
use Rattle.request_bytes.specs.declared.Request.{Request}
use Rattle.request_bytes.specs.Outcome.RequestReading.{RequestReading}
use Rattle.request_bytes.specs.Outcome.RequestReading.{Done, End, Refused}
use Rattle.request_bytes.specs.Outcome.RequestAnswer.{RequestAnswer}

-- only the next position
abbrev pub skip_result : RequestReading → Result (Option ℕ) Refusal
skip_result (Done next) = Ok (Some next)
skip_result End = Ok None
skip_result (Refused k at) = Err (refused k at)

-- with what the lent request then holds: at the end, and where it is refused, one of zeros
abbrev pub request_lent : RequestAnswer → Result (Option ℕ) Refusal × Request
request_lent a = (skip_result a.answer, a.request)
