-- A list of requests as bytes: records to the end; an empty list is a list.
-- Assumes nothing.
use Rattle.std.specs.Prelude.{ℕ, zero, suc, List, [], ◌∷◌, length}
use Rattle.model.specs.Request.{Request}
use Rattle.records.specs.Bytes.{each_bytes}
use Rattle.records.specs.Outcome.Reading.{Reading}
use Rattle.records.specs.Outcome.Reading as reading
use Rattle.request_bytes.specs.Read.{ids_of, read_request}
use Rattle.request_bytes.specs.Write.{request_bytes}
use Rattle.request_bytes.specs.declared.Request.{Request as Form}
use Rattle.request_bytes.specs.Outcome.RequestReading.{RequestReading}
use Rattle.request_bytes.specs.Outcome.RequestReading as request_reading

-- the requests up to the list's end or to the first record that can't be read, and which of the two it was
pub record Listed : Type 0 where
  pub requests : List Request
  pub ending : Reading

-- the request in the form that was read
abbrev pub asked : Form → Request
asked q = record { command = q.command; ids = ids_of q }

abbrev pub on_answer : ℕ → Form → (ℕ → Listed) → RequestReading → Listed
on_answer at q rest (request_reading.Done next) = record { requests = asked q ∷ (rest next).requests; ending = (rest next).ending }
on_answer at q rest request_reading.End = record { requests = []; ending = reading.Done at }
on_answer at q rest (request_reading.Refused k p) = record { requests = []; ending = reading.Refused k p }

-- from a position on; no list holds more requests than bytes
unfoldable pub read_from : ℕ → List ℕ → ℕ → Listed
read_from zero bytes at = record { requests = []; ending = reading.Done at }
read_from (suc fuel) bytes at = on_answer at (read_request bytes at).request (read_from fuel bytes) (read_request bytes at).answer

unfoldable pub read_list : List ℕ → Listed
read_list bytes = read_from (length bytes) bytes 0

-- the bytes of a list of requests
abbrev pub list_bytes : List Request → List ℕ
list_bytes qs = each_bytes (λ (q : Request). request_bytes q.command q.ids) qs
