-- What is promised of a converted scheme and matrix by themselves; the proofs stand in proofs/. Demand 3 has its own file.
-- Assumes nothing.
use Rattle.std.specs.Prelude.{ℕ, ◌+◌, ◌*◌, ◌^◌, ◌≡◌, T}
use Rattle.rights.specs.Sets.{complement}
use Rattle.model.specs.Papers.{cell_exists}
use Rattle.model.specs.Seats.{Matrix, stands_for}
use Rattle.model.specs.Accepted.{accepted_scheme, accepted_matrix}
use Rattle.model.specs.declared.Scheme.{Scheme}
use Rattle.conversion.specs.Conversion.{convertible, convert_scheme, tests_presence, convert_state, convert_matrix}

pub record Converts : Type 0 where
  -- A converted scheme is accepted, and tests no absence.
  pub scheme : (s : Scheme) → T (accepted_scheme s) → T (convertible s) → T (accepted_scheme (convert_scheme s)) × T (tests_presence (convert_scheme s))
  -- A converted matrix is an accepted matrix of the converted scheme.
  pub matrix : (s : Scheme) (m : Matrix) → T (accepted_scheme s) → T (convertible s) → T (accepted_matrix s.head m) →
      T (accepted_matrix (convert_scheme s).head (convert_matrix s.head m))
  -- Memory and papers agree on what conversion is.
  pub joined : (s : Scheme) (m : Matrix) → T (accepted_matrix s.head m) →
      stands_for (convert_matrix s.head m) ≡ convert_state s.head (stands_for m)
  -- A converted cell equals the old set plus 2 to the n times the n-bit complement of it.
  pub exact : (s : Scheme) (m : Matrix) (x y : ℕ) → T (convertible s) → T (accepted_matrix s.head m) → T (cell_exists s.head (stands_for m) x y) →
      (stands_for (convert_matrix s.head m)).rights x y
      ≡ (stands_for m).rights x y + 2 ^ s.head.rights * complement s.head.rights ((stands_for m).rights x y)
