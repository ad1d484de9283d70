-- The round trips of schemes as what follows of the functions: said of the very definitions that `read_scheme` and `write_scheme` are proved equal to;
-- the proof stands in proofs/.
-- Assumes nothing.
use Rattle.std.specs.Prelude.{ℕ, ◌<◌, ◌≤◌, ◌≡◌, List, length, take, get_or}
use Rattle.model.specs.declared.Scheme.{Scheme}
use Rattle.records.specs.Writing.{placed}
use Rattle.records.specs.Outcome.Reading.{Done}
use Rattle.records.specs.Outcome.Writing.{Writing}
use Rattle.records.specs.Outcome.Writing as writing
use Rattle.scheme_bytes.specs.Answers.{read_scheme}
use Rattle.scheme_bytes.specs.Write.{write_scheme}

pub record FunctionTrips : Type 0 where
  -- Writing then reading gives the same content. A scheme was written, and the answer was that it took n bytes. Then a reading of the buffer's first
  -- n bytes gives that scheme and ends behind the last of them, whatever the table held before.
  pub written : (out : List ℕ) (s : Scheme) (n : ℕ) (left : List ℕ) → ◌≡◌ {A = Writing × List ℕ} (write_scheme out s) (writing.Done n, left) →
      (table : Scheme) → read_scheme (take n left) table ≡ record { answer = Done n; scheme = s }
  -- Reading then writing gives the same bytes. A scheme was read from a list of bytes. Then the reading ended at the list's end; and writing the scheme
  -- into any buffer with room for as many bytes places those bytes at its start, changes nothing else, and answers how many they are.
  pub read : (bytes : List ℕ) (table s : Scheme) (next : ℕ) → ((i : ℕ) → get_or bytes i 0 < 256) →
      read_scheme bytes table ≡ record { answer = Done next; scheme = s } →
      (next ≡ length bytes)
      × ((out : List ℕ) → length bytes ≤ length out →
      ◌≡◌ {A = Writing × List ℕ} (write_scheme out s) (writing.Done (length bytes), placed out 0 bytes))
