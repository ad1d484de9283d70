-- Forward and back: an image is read whole; then its head is written anew, and what stands behind the head stays as it is.
-- Assumes nothing.
use Rattle.std.specs.Prelude.{ℕ, List, ◌++◌, eqb, drop}
use Rattle.model.specs.declared.Head.{Head}
use Rattle.records.specs.Bytes.{little_endian, record_bytes, part}
use Rattle.records.specs.Reading.{Reader, ◌>>=◌, ◌>>◌, done, check}
use Rattle.records.specs.Front.{Refusal}
use Rattle.matrix_bytes.specs.Read.{matrix}
use Rattle.moving.specs.Old.{highest_listed, old_matrix}

-- the head of the old image has a body of 2 bytes, which is that of the new one without the highest
unfoldable pub new_image : List ℕ → ℕ → List ℕ
new_image old highest = record_bytes 7 (part old 4 2 ++ little_endian 2 highest) ++ drop 6 old

unfoldable pub old_image : List ℕ → List ℕ
old_image new = record_bytes 3 (part new 4 2) ++ drop 8 new

unfoldable pub forward : Head → List ℕ → Reader ℕ Refusal (List ℕ)
forward h old = do
  m ← old_matrix h old
  done (new_image old m.things.highest)

-- 23 where the old image wouldn't bring the highest back
unfoldable pub back : Head → List ℕ → Reader ℕ Refusal (List ℕ)
back h new = do
  m ← matrix h new
  check (eqb m.things.highest (highest_listed m.things)) (record { number = 23; at = 0 })
  done (old_image new)
