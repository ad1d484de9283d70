-- The round trips of matrices as what follows of the functions: said of the very definitions that `read_matrix` and `write_matrix` are proved equal
-- to; the proof stands in proofs/.
-- Assumes nothing.
use Rattle.std.specs.Prelude.{ℕ, ◌<◌, ◌≤◌, ◌≡◌, List, length, take, get_or}
use Rattle.model.specs.Seats.{Matrix, stands_for}
use Rattle.model.specs.declared.Scheme.{Scheme}
use Rattle.model.specs.declared.Things.{Things}
use Rattle.records.specs.Writing.{placed}
use Rattle.records.specs.Outcome.Reading.{Done}
use Rattle.records.specs.Outcome.Writing.{Writing}
use Rattle.records.specs.Outcome.Writing as writing
use Rattle.matrix_bytes.specs.Answers.{read_matrix}
use Rattle.matrix_bytes.specs.Content.{reseated}
use Rattle.matrix_bytes.specs.Write.{write_matrix}
use Rattle.matrix_bytes.specs.MatrixAnswer.{MatrixAnswer}

pub record FunctionTrips : Type 0 where
  -- Writing then reading gives the same content. A matrix was written against a scheme, and the answer was that it took n bytes. Then a reading of the
  -- buffer's first n bytes against that scheme, into 48 times 48 cells that are lent, ends behind the last of those bytes and gives the matrix with
  -- its things in the seats by rising id, whatever the things and the cells were before; and that stands for the same papers' matrix: the same highest,
  -- the same things, and the same cells by id.
  pub written : (out : List ℕ) (s : Scheme) (m : Matrix) (n : ℕ) (left : List ℕ) →
      ◌≡◌ {A = Writing × List ℕ} (write_matrix out s m) (writing.Done n, left) →
      ((things : Things) (cells : List ℕ) → length cells ≡ 2304 →
      ◌≡◌ {A = MatrixAnswer × List ℕ} (read_matrix (take n left) s things cells)
      (record { answer = Done n; things = (reseated s.head m).things }, (reseated s.head m).cells))
      × (stands_for (reseated s.head m) ≡ stands_for m)
  -- Reading then writing gives the same bytes. A matrix was read from a list of bytes against a scheme. Then the reading ended at the list's end; and
  -- writing the things and the cells that it gave, against that scheme, into any buffer with room for as many bytes places those bytes at its start,
  -- changes nothing else, and answers how many they are.
  pub read : (bytes : List ℕ) (s : Scheme) (things : Things) (cells : List ℕ) (next : ℕ) (th : Things) (new : List ℕ) →
      ((i : ℕ) → get_or bytes i 0 < 256) →
      ◌≡◌ {A = MatrixAnswer × List ℕ} (read_matrix bytes s things cells) (record { answer = Done next; things = th }, new) →
      (next ≡ length bytes)
      × ((out : List ℕ) → length bytes ≤ length out →
      ◌≡◌ {A = Writing × List ℕ} (write_matrix out s (record { things = th; cells = new })) (writing.Done (length bytes), placed out 0 bytes))
