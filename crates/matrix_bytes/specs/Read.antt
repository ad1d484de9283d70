-- Reading a matrix against a scheme: its records in order, each as `matrix_records` reads it.
-- Assumes nothing.
use Rattle.std.specs.Prelude.{ℕ, zero, suc, cond, List, [], ◌∷◌, eqb, length}
use Rattle.model.specs.Seats.{Matrix}
use Rattle.model.specs.declared.Head.{Head}
use Rattle.records.specs.Reading.{got, Reader, ◌>>=◌, done, steps}
use Rattle.records.specs.Front.{Refusal, in_record}
use Rattle.matrix_records.specs.Read.{head, thing, cell, start}
use Rattle.matrix_bytes.specs.Content.{matrix_from}

-- ---- records to the end of the input; no input holds more of them than it has bytes
module _ {A S : Type 0} (s : List ℕ) (p : S → Reader ℕ Refusal A) (next : S → A → S) where
  unfoldable pub to_end : ℕ → S → Reader ℕ Refusal (List A)
  to_end zero st = done []
  to_end (suc fuel) st = λ at. cond (eqb at (length s)) (got [] at) ((p st >>= λ a. to_end fuel (next st a) >>= λ xs. done (a ∷ xs)) at)

-- ---- what stands behind a head: so many things (kind 4, or 8 for one on hold) with ids up to the highest, then cells (kind 5) to the end
unfoldable pub rest : Head → ℕ → ℕ → List ℕ → Reader ℕ Refusal Matrix
rest h highest count s = do
  things ← steps (λ last. in_record s 272 (thing h highest last)) (λ last t. t.id) count 0
  cells ← to_end s (λ last. in_record s 32 (λ kind. cell h things last)) (λ last c. c) (length s) start
  done (matrix_from highest things cells)

-- ---- a matrix: a head (kind 7), and the rest
unfoldable pub matrix : Head → List ℕ → Reader ℕ Refusal Matrix
matrix h s = do
  stated ← in_record s 128 (λ kind. head h)
  rest h stated.highest stated.count s
