-- What a request's reading tells: for each of its cases the outline's number, 0 for success, and the values that go with it.
-- Assumes nothing.
use Rattle.std.specs.Prelude.{[], ◌∷◌}
use Rattle.records.specs.Told.{Told, told}
use Rattle.request_bytes.specs.Outcome.RequestReading.{RequestReading}
use Rattle.request_bytes.specs.Outcome.RequestReading.{Done, End, Refused}

-- the next position; nothing at the list's end; or the number and the record's position
abbrev pub of_request_reading : RequestReading → Told
of_request_reading (Done next) = told 0 (next ∷ [])
of_request_reading End = told 0 []
of_request_reading (Refused k at) = told k (at ∷ [])
