-- What is promised of matrices as bytes; the proofs stand in proofs/.
-- Assumes nothing.
use Rattle.std.specs.Prelude.{ℕ, ◌+◌, ◌*◌, ◌<◌, ◌≡◌, ◌≢◌, ◌⊎◌, List, T, length, get_or}
use Rattle.model.specs.Seats.{Matrix, thing_in, stands_for}
use Rattle.model.specs.Accepted.{zero_thing, accepted_scheme, accepted_matrix}
use Rattle.model.specs.declared.Scheme.{Scheme}
use Rattle.records.specs.Reading.{got}
use Rattle.matrix_bytes.specs.Content.{reseated}
use Rattle.matrix_bytes.specs.Read.{matrix}
use Rattle.matrix_bytes.specs.Write.{matrix_bytes}

pub record RoundTrips : Type 0 where
  -- Writing then reading gives the same content: an accepted matrix's bytes read as the matrix with its things in the seats by rising id.
  pub there : (s : Scheme) (m : Matrix) → T (accepted_scheme s) → T (accepted_matrix s.head m) →
      matrix s.head (matrix_bytes s.head m) 0 ≡ got (reseated s.head m) (length (matrix_bytes s.head m))
  -- which stands for the same papers' matrix: the same highest, the same things, and the same cells by id
  pub same_content : (s : Scheme) (m : Matrix) → T (accepted_scheme s) → T (accepted_matrix s.head m) →
      stands_for (reseated s.head m) ≡ stands_for m
  -- Reading then writing gives the same bytes, and what was read is accepted.
  pub back : (s : Scheme) (bytes : List ℕ) (m : Matrix) (next : ℕ) → T (accepted_scheme s) → ((i : ℕ) → get_or bytes i 0 < 256) →
      matrix s.head bytes 0 ≡ got m next → T (accepted_matrix s.head m) × (bytes ≡ matrix_bytes s.head m) × (next ≡ length bytes)

-- nothing stands in what is unused: the arrays are as long as they are declared, no id stands twice, what sits at a free seat is at zero, and a
-- place of a free seat is 0
pub record Tidy (m : Matrix) : Type 0 where
  pub id_room : length m.things.ids ≡ 48
  pub type_room : length m.things.types ≡ 48
  pub mark_room : length m.things.marks ≡ 48
  pub cell_room : length m.cells ≡ 2304
  pub apart : (i j : ℕ) → i < 48 → j < 48 → get_or m.things.ids i 0 ≢ 0 → get_or m.things.ids i 0 ≡ get_or m.things.ids j 0 → i ≡ j
  pub free : (i : ℕ) → i < 48 → get_or m.things.ids i 0 ≡ 0 → T (zero_thing (thing_in m.things i))
  pub bare : (i j : ℕ) → j < 48 → (get_or m.things.ids i 0 ≡ 0) ⊎ (get_or m.things.ids j 0 ≡ 0) → get_or m.cells (i * 48 + j) 0 ≡ 0

-- 27 for a matrix: accepted exactly if some bytes read, against that scheme, as a matrix with the same content (the same highest, the same things, the
-- same cells by id), and nothing stands in what is unused.
pub record AcceptedIffRead : Type 0 where
  -- an accepted matrix is tidy; its bytes are bytes, and read as a matrix with the same content
  pub reads : (s : Scheme) (m : Matrix) → T (accepted_scheme s) → T (accepted_matrix s.head m) →
      Tidy m
      × ((i : ℕ) → get_or (matrix_bytes s.head m) i 0 < 256)
      × (matrix s.head (matrix_bytes s.head m) 0 ≡ got (reseated s.head m) (length (matrix_bytes s.head m)))
      × (stands_for (reseated s.head m) ≡ stands_for m)
  -- a tidy matrix with the content of what any bytes read as is accepted
  pub accepts : (s : Scheme) (m read : Matrix) (bytes : List ℕ) (next : ℕ) → T (accepted_scheme s) → ((i : ℕ) → get_or bytes i 0 < 256) →
      matrix s.head bytes 0 ≡ got read next → stands_for read ≡ stands_for m → Tidy m → T (accepted_matrix s.head m)
