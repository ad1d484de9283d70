-- Reading a request's record at a position of a list; the end of the list is its own answer.
-- Assumes nothing.
use Rattle.std.specs.Prelude.{ℕ, ◌-◌, cond, List, [], ◌++◌, eqb, length, take, replicate}
use Rattle.records.specs.Reading.{Read, got, fault, Body, ◌>>=◌, done, steps, byte, field, number}
use Rattle.records.specs.Front.{Refusal, in_record}
use Rattle.request_bytes.specs.declared.Request.{Request}
use Rattle.request_bytes.specs.Outcome.RequestReading.{Done, End, Refused}
use Rattle.request_bytes.specs.Outcome.RequestAnswer.{RequestAnswer}

-- the ids that the array holds, and a request with these ids, with zeros behind them
abbrev pub ids_of : Request → List ℕ
ids_of q = take q.count q.ids

unfoldable pub request_of : ℕ → List ℕ → Request
request_of command ids = record { command = command; count = length ids; ids = ids ++ replicate (8 - length ids) 0 }

-- so many ids, of two bytes each
abbrev pub ids_in : ℕ → Body (List ℕ)
ids_in count = steps (λ (u : Unit {0}). number 2) (λ u x. u) count tt

-- command (1), ids (1), 2 bytes an id; neither the command number nor the ids are checked here
unfoldable pub request : Body Request
request = do
  command ← byte
  count ← field 0 9 4
  ids ← ids_in count
  done (request_of command ids)

-- kind 6 is bit 6 of the kinds that may stand there
unfoldable pub request_at : List ℕ → ℕ → Read ℕ Refusal Request
request_at s = in_record s 64 (λ kind. request)

unfoldable pub no_request : Request
no_request = request_of 0 []

abbrev pub as_request : Read ℕ Refusal Request → RequestAnswer
as_request (got q next) = record { answer = Done next; request = q }
as_request (fault f) = record { answer = Refused f.number f.at; request = no_request }

unfoldable pub read_request : List ℕ → ℕ → RequestAnswer
read_request s at = cond (eqb at (length s)) (record { answer = End; request = no_request }) (as_request (request_at s at))
