-- Both ways as what follows of the functions: said of the very definitions that `forward`, `back` and `read_matrix` are proved equal to. Whatever scheme is
-- handed in, and whatever the lent buffers hold; the proof stands in proofs/.
-- Assumes nothing.
use Rattle.std.specs.Prelude.{ℕ, ◌<◌, ◌≤◌, ◌≡◌, List, length, take, get_or}
use Rattle.model.specs.Seats.{Matrix}
use Rattle.model.specs.declared.Scheme.{Scheme}
use Rattle.model.specs.declared.Things.{Things}
use Rattle.records.specs.Reading.{got}
use Rattle.records.specs.Writing.{placed}
use Rattle.records.specs.Outcome.Reading as reading
use Rattle.matrix_bytes.specs.Answers.{read_matrix}
use Rattle.matrix_bytes.specs.MatrixAnswer.{MatrixAnswer}
use Rattle.moving.specs.Old.{old_matrix}
use Rattle.moving.specs.Answers.{forward_into, back_into}
use Rattle.moving.specs.Outcome.Moved.{Moved}
use Rattle.moving.specs.Outcome.Moved.{Done}

pub record FunctionMoves : Type 0 where
  -- An old image was moved forward, and the answer was that the new one has n bytes. Then the old one holds a matrix, and the first n bytes of the buffer read as
  -- it, against the same scheme, into any 48 times 48 cells that are lent;
  pub reads : (old : List ℕ) (s : Scheme) (out : List ℕ) (n : ℕ) (left : List ℕ) → ((i : ℕ) → get_or old i 0 < 256) →
      ◌≡◌ {A = Moved × List ℕ} (forward_into old s out) (Done n, left) →
      (m : Matrix) × (old_matrix s.head old 0 ≡ got m (length old))
      × ((things : Things) (cells : List ℕ) → length cells ≡ 2304 →
      ◌≡◌ {A = MatrixAnswer × List ℕ} (read_matrix (take n left) s things cells) (record { answer = reading.Done n; things = m.things }, m.cells))
  -- and moving them back, into any buffer with room for them, places the first image's bytes at its start, changes nothing else, and answers how many they are.
  pub there_and_back : (old : List ℕ) (s : Scheme) (out : List ℕ) (n : ℕ) (left : List ℕ) → ((i : ℕ) → get_or old i 0 < 256) →
      ◌≡◌ {A = Moved × List ℕ} (forward_into old s out) (Done n, left) → (other : List ℕ) → length old ≤ length other →
      ◌≡◌ {A = Moved × List ℕ} (back_into (take n left) s other) (Done (length old), placed other 0 old)
  -- The same the other way round, where the way back was taken.
  pub back_and_there : (new : List ℕ) (s : Scheme) (out : List ℕ) (n : ℕ) (left : List ℕ) → ((i : ℕ) → get_or new i 0 < 256) →
      ◌≡◌ {A = Moved × List ℕ} (back_into new s out) (Done n, left) → (other : List ℕ) → length new ≤ length other →
      ◌≡◌ {A = Moved × List ℕ} (forward_into (take n left) s other) (Done (length new), placed other 0 new)
