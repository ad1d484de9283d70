-- What is promised of lists of requests as bytes; the proof stands in proofs/.
-- Assumes nothing.
use Rattle.std.specs.Prelude.{ℕ, ◌-◌, ◌<◌, ◌≤◌, ◌≡◌, List, length, take, get_or}
use Rattle.laws.specs.Check.{Each}
use Rattle.model.specs.Request.{Request}
use Rattle.records.specs.Bytes.{part}
use Rattle.records.specs.Writing.{placed}
use Rattle.records.specs.Outcome.Reading as reading
use Rattle.records.specs.Outcome.Writing.{Writing}
use Rattle.records.specs.Outcome.Writing as writing
use Rattle.request_list.specs.List.{read_list, list_bytes}
use Rattle.request_list.specs.Write.{Sized, Writable, write_list}

pub record ListTrips : Type 0 where
  -- Writing then reading gives the same requests: a list of requests that can be written reads from its bytes as that list, to their end.
  pub there : (qs : List Request) → Each Writable qs →
      read_list (list_bytes qs) ≡ record { requests = qs; ending = reading.Done (length (list_bytes qs)) }
  -- Reading then writing gives the same bytes: if the reading of a list of bytes came to its end, then that is the bytes' end, and they are the bytes of
  -- the requests that were read.
  pub back : (bytes : List ℕ) (next : ℕ) → ((i : ℕ) → get_or bytes i 0 < 256) → (read_list bytes).ending ≡ reading.Done next →
      (next ≡ length bytes) × (bytes ≡ list_bytes (read_list bytes).requests)
  -- If it ended with a refusal at a position, then that position is before the bytes' end, and the bytes before it are those of the requests that were
  -- read.
  pub cut : (bytes : List ℕ) (k at : ℕ) → ((i : ℕ) → get_or bytes i 0 < 256) → (read_list bytes).ending ≡ reading.Refused k at →
      (at < length bytes) × (take at bytes ≡ list_bytes (read_list bytes).requests)
  -- Every request that is read can be written.
  pub writable : (bytes : List ℕ) → ((i : ℕ) → get_or bytes i 0 < 256) → Each Writable (read_list bytes).requests

pub record ListFunctionTrips : Type 0 where
  -- Requests were written one behind the other by `write_request`, from a position of the buffer on, and all of them were. Then the buffer holds their
  -- bytes there and elsewhere what it held, and the part from that position to the next reads as exactly those requests, to its end.
  pub written : (out : List ℕ) (at : ℕ) (qs : List Request) (next : ℕ) (left : List ℕ) → at ≤ length out → Each Sized qs →
      ◌≡◌ {A = Writing × List ℕ} (write_list out at qs) (writing.Done next, left) →
      (left ≡ placed out at (list_bytes qs))
      × (read_list (part left at (next - at)) ≡ record { requests = qs; ending = reading.Done (next - at) })
  -- From the buffer's start on: its front up to the next position reads as exactly those requests.
  pub written_first : (out : List ℕ) (qs : List Request) (next : ℕ) (left : List ℕ) → Each Sized qs →
      ◌≡◌ {A = Writing × List ℕ} (write_list out 0 qs) (writing.Done next, left) →
      read_list (take next left) ≡ record { requests = qs; ending = reading.Done next }
