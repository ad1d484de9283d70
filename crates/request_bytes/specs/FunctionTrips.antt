-- The round trips of requests as what follows of the functions: said of the very definitions that `read_request` and `write_request` are proved equal
-- to; the proof stands in proofs/.
-- Assumes nothing.
use Rattle.std.specs.Prelude.{ℕ, ◌+◌, ◌-◌, ◌<◌, ◌≤◌, ◌≡◌, List, length, take, drop, get_or}
use Rattle.records.specs.Writing.{placed}
use Rattle.records.specs.Outcome.Writing.{Writing}
use Rattle.records.specs.Outcome.Writing as writing
use Rattle.request_bytes.specs.Read.{ids_of, request_of, read_request}
use Rattle.request_bytes.specs.Write.{write_request}
use Rattle.request_bytes.specs.declared.Request.{Request}
use Rattle.request_bytes.specs.Outcome.RequestReading.{Done}

pub record FunctionTrips : Type 0 where
  -- Writing then reading gives the same content. A request of a command number (a byte) and ids (of two bytes each) was written at a position, and the
  -- answer was the next position. Then a reading at that position gives that command number, those ids and that next position: in the buffer as it was
  -- left, in its front up to the next position, and in all that begins with that front, whatever follows.
  pub written : (out : List ℕ) (at command : ℕ) (ids : List ℕ) (next : ℕ) (left : List ℕ) → command < 256 → ((i : ℕ) → get_or ids i 0 < 65536) →
      ◌≡◌ {A = Writing × List ℕ} (write_request out at command ids) (writing.Done next, left) →
      (ids_of (request_of command ids) ≡ ids)
      × ((bytes : List ℕ) → take next bytes ≡ take next left → read_request bytes at ≡ record { answer = Done next; request = request_of command ids })
  -- Reading then writing gives the same bytes. A request was read at a position of a list of bytes, and the answer was the next position. Then the
  -- next position is above that one and not past the list's end; and writing the request's command number and ids at any position of any buffer with
  -- room for as many bytes places there the bytes between the two positions, changes nothing else, and answers the position behind them.
  pub read : (bytes : List ℕ) (at next : ℕ) (q : Request) → ((i : ℕ) → get_or bytes i 0 < 256) →
      read_request bytes at ≡ record { answer = Done next; request = q } →
      (at < next)
      × (next ≤ length bytes)
      × ((out : List ℕ) (to : ℕ) → to + (next - at) ≤ length out →
      ◌≡◌ {A = Writing × List ℕ} (write_request out to q.command (ids_of q))
      (writing.Done (to + (next - at)), placed out to (take (next - at) (drop at bytes))))
