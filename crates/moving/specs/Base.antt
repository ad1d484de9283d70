-- What a robot that hasn't been updated reads: the base's own reading of a matrix, as it was before the highest id and the mark. On an image without things on
-- hold it is the reading of kind 3 in `Old`, refusals and positions included; and it never loses a mark. The proof stands in proofs/.
-- Assumes nothing.
use Rattle.std.specs.Prelude.{ℕ, ◌<◌, ◌≡◌, ◌⊎◌, true, false, not, List, eqb, ltb, length, get_or}
use Rattle.rights.specs.Numberings.{type}
use Rattle.model.specs.Request.{of_type}
use Rattle.model.specs.Seats.{Matrix}
use Rattle.model.specs.declared.Head.{Head}
use Rattle.records.specs.Reading.{Reader, Body, got, fault, ◌>>=◌, ◌>>◌, done, check, steps, field, number}
use Rattle.records.specs.Front.{Refusal, in_record}
use Rattle.matrix_records.specs.Content.{ThingRecord}
use Rattle.matrix_records.specs.Read.{cell, start}
use Rattle.matrix_records.specs.Answers.{kind_at}
use Rattle.matrix_bytes.specs.Content.{matrix_from}
use Rattle.matrix_bytes.specs.Read.{to_end}
use Rattle.moving.specs.Old.{old_head, old_matrix}

-- a thing: id (2), not 0 and above the one before; type (1)
unfoldable pub base_thing : Head → ℕ → Body ThingRecord
base_thing h last = do
  id ← number 2
  check (not (eqb id 0)) 6
  check (ltb last id) 7
  t ← field 0 h.types 5
  done (record { id = id; thing = of_type (type t) })

-- a head (kind 3), so many things (kind 4), then cells (kind 5) to the end. The base keeps no highest; here the things raise it as they take their seats
unfoldable pub base_matrix : Head → List ℕ → Reader ℕ Refusal Matrix
base_matrix h s = do
  count ← in_record s 8 (λ kind. old_head h)
  things ← steps (λ last. in_record s 16 (λ kind. base_thing h last)) (λ last t. t.id) count 0
  cells ← to_end s (λ last. in_record s 32 (λ kind. cell h things last)) (λ last c. c) (length s) start
  done (matrix_from 0 things cells)

-- it stops with 2, at a record of kind 8
abbrev pub StopsAtHold : Head → List ℕ → Type 0
StopsAtHold h s = (at : ℕ) × (base_matrix h s 0 ≡ fault (record { number = 2; at = at })) × (kind_at s at ≡ 8)

pub record BaseReads (h : Head) (s : List ℕ) : Type 0 where
  -- The two readings are the same, refusals and positions included, but where the base meets a record of kind 8.
  pub same : (base_matrix h s 0 ≡ old_matrix h s 0) ⊎ StopsAtHold h s
  -- Where no thing is on hold, the base reads what is read here;
  pub unmarked : (m : Matrix) (end : ℕ) → old_matrix h s 0 ≡ got m end → ((i : ℕ) → get_or m.things.marks i false ≡ false) → base_matrix h s 0 ≡ got m end
  -- and where one is, it refuses the image rather than lose the mark.
  pub marked : (m : Matrix) (end : ℕ) → old_matrix h s 0 ≡ got m end → (i : ℕ) → get_or m.things.marks i false ≡ true → StopsAtHold h s

-- of every scheme's head and all bytes
abbrev pub AsTheBase : Type 0
AsTheBase = (h : Head) (s : List ℕ) → ((i : ℕ) → get_or s i 0 < 256) → BaseReads h s
