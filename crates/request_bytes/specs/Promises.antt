-- What is promised of requests as bytes; the proof stands in proofs/.
-- Assumes nothing.
use Rattle.std.specs.Prelude.{ℕ, ◌+◌, ◌-◌, ◌<◌, ◌≤◌, ◌≡◌, List, length, get_or}
use Rattle.records.specs.Bytes.{part}
use Rattle.records.specs.Reading.{got}
use Rattle.records.specs.Writing.{placed}
use Rattle.request_bytes.specs.Read.{ids_of, request_of, request_at}
use Rattle.request_bytes.specs.Write.{request_bytes}
use Rattle.request_bytes.specs.declared.Request.{Request}

pub record RoundTrips : Type 0 where
  -- Writing then reading gives the same content, wherever the record was written.
  pub there : (out : List ℕ) (at command : ℕ) (ids : List ℕ) → command < 256 → length ids ≤ 8 → ((i : ℕ) → get_or ids i 0 < 65536) →
      at + length (request_bytes command ids) ≤ length out →
      request_at (placed out at (request_bytes command ids)) at ≡ got (request_of command ids) (at + length (request_bytes command ids))
  -- Reading then writing gives the same bytes: those between the record's position and the next.
  pub back : (bytes : List ℕ) (at next : ℕ) (q : Request) → ((i : ℕ) → get_or bytes i 0 < 256) → request_at bytes at ≡ got q next →
      (part bytes at (next - at) ≡ request_bytes q.command (ids_of q)) × (q ≡ request_of q.command (ids_of q))
