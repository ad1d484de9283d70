-- A matrix as it was stored before the highest id: a head of kind 3, which states no highest, and behind it what stands behind a head of kind 7.
-- Assumes nothing.
use Rattle.std.specs.Prelude.{ℕ, max, List, [], ◌∷◌, eqb}
use Rattle.model.specs.Seats.{Matrix, matrix_of, with_highest}
use Rattle.model.specs.declared.Head.{Head}
use Rattle.model.specs.declared.Things.{Things}
use Rattle.records.specs.Reading.{Reader, Body, ◌>>=◌, ◌>>◌, done, check, field}
use Rattle.records.specs.Front.{Refusal, in_record}
use Rattle.matrix_bytes.specs.Read.{rest}

-- ---- the head: n (1), the scheme's; things (1)
unfoldable pub old_head : Head → Body ℕ
old_head h = do
  n ← field 1 65 4
  check (eqb n h.rights) 6
  field 0 49 4

-- ---- the head (kind 3), and what stands behind it; no id is above 65,535
unfoldable pub old_content : Head → List ℕ → Reader ℕ Refusal Matrix
old_content h s = do
  count ← in_record s 8 (λ kind. old_head h)
  rest h 65535 count s

-- ---- its highest is the highest id that it lists, 0 for none; the id of a free seat is 0 too
unfoldable pub highest_of : List ℕ → ℕ
highest_of [] = 0
highest_of (x ∷ xs) = max x (highest_of xs)

unfoldable pub highest_listed : Things → ℕ
highest_listed th = highest_of th.ids

unfoldable pub by_listed : Matrix → Matrix
by_listed m = matrix_of (with_highest (highest_listed m.things) m.things) m.cells

unfoldable pub old_matrix : Head → List ℕ → Reader ℕ Refusal Matrix
old_matrix h s = do
  m ← old_content h s
  done (by_listed m)
