-- Where a matrix is looser for lacking an entry, and so what the two conditions of `Incomplete` are for: a scheme that tests an absence (`Looser`), and a robot
-- that goes on behind its first refusal (`GoesOn`). Both are the customer's accident, a retired key that is obeyed. Assumes nothing.
use Rattle.std.specs.Prelude.{◌≡◌, true, false, [], ◌∷◌, T}
use Rattle.std.proofs.Math.Option.{none, some}
use Rattle.rights.specs.Sets.{has}
use Rattle.rights.specs.Numberings.{right, type}
use Rattle.model.specs.Request.{Request, at, run, answers}
use Rattle.model.specs.Papers.{State, papers}
use Rattle.model.specs.Seats.{Matrix, seats, stands_for}
use Rattle.model.specs.Arrays.{test, operation, command_of, scheme_from}
use Rattle.model.specs.Accepted.{accepted_scheme, accepted_matrix}
use Rattle.model.specs.KeyExample.{key_scheme, key_matrix, ask}
use Rattle.model.specs.declared.Code.TheVariants.{Enter, Delete}
use Rattle.model.specs.declared.Scheme.{Scheme}
use Rattle.conversion.specs.Conversion.{tests_presence}
use Rattle.conversion.specs.Demand3.{Within}

-- retire(5, 9) and load(9, 12)
abbrev pub retiring : Request
retiring = ask 0 (5 ∷ 9 ∷ [])

abbrev pub loading : Request
loading = ask 1 (9 ∷ 12 ∷ [])

-- ---- a test of absence: the office's own key scheme, in which a key may load if it isn't retired

-- the key example's matrix once key 9 was retired; without that entry it is the key example's own
abbrev pub retired : Matrix
retired = run seats key_scheme key_matrix (retiring ∷ [])

abbrev pub richer : State
richer = stands_for retired

abbrev pub poorer : State
poorer = stands_for key_matrix

pub record Looser : Type 0 where
  -- an accepted scheme that tests an absence, two accepted matrices
  pub tests_absence : tests_presence key_scheme ≡ false
  pub accepted : T (accepted_scheme key_scheme) × T (accepted_matrix key_scheme.head key_matrix) × T (accepted_matrix key_scheme.head retired)
  -- the same things, marks and highest id, the entries of one within the other: it lacks "retired" in [9, 9]
  pub within : Within poorer richer
  pub missing : (has (richer.rights 9 9) 2 ≡ true) × (has (poorer.rights 9 9) 2 ≡ false)
  -- the poorer loads, the richer refuses at its test of absence
  pub poorer_does : answers papers key_scheme poorer (loading ∷ []) ≡ none ∷ []
  pub richer_refuses : answers papers key_scheme richer (loading ∷ []) ≡ some (at 14 1) ∷ []
  -- and then the poorer has an entry that the richer lacks, "loaded" in [9, 12]
  pub entry_more : (has ((run papers key_scheme poorer (loading ∷ [])).rights 9 12) 3 ≡ true) × (has ((run papers key_scheme richer (loading ∷ [])).rights 9 12) 3 ≡ false)

-- ---- behind the first refusal: a robot's scheme without absence tests, in which right 2 is "valid" and stands for "isn't retired"

-- retire(M manager, K key): if own in [M, K], delete valid from [K, K]; load(K key, R robot): if sign in [K, R] and valid in [K, K], enter loaded in [K, R]
unfoldable pub valid_scheme : Scheme
valid_scheme =
    scheme_from 4 3 3
    (command_of (type 0 ∷ type 1 ∷ []) (test true 0 0 1 ∷ []) (operation Delete 2 1 1 ∷ [])
    ∷ command_of (type 1 ∷ type 2 ∷ []) (test true 1 0 1 ∷ test true 2 0 0 ∷ []) (operation Enter 3 0 1 ∷ [])
    ∷ [])

-- the key example's matrix with the key valid; and a robot's, which lost the manager's "own" in [5, 9]
abbrev pub complete : State
complete = papers.enter (right 2) 9 9 (stands_for key_matrix)

abbrev pub lacking : State
lacking = papers.delete (right 0) 5 9 complete

pub record GoesOn : Type 0 where
  -- an accepted scheme without absence tests; the same things, marks and highest id, the entries of one within the other
  pub accepted : T (accepted_scheme valid_scheme)
  pub presence : T (tests_presence valid_scheme)
  pub within : Within lacking complete
  -- the robot refuses the retire that a complete one carries out; and where it goes on, it loads what a complete one refuses
  pub robot_answers : answers papers valid_scheme lacking (retiring ∷ loading ∷ []) ≡ some (at 14 0) ∷ none ∷ []
  pub complete_answers : answers papers valid_scheme complete (retiring ∷ loading ∷ []) ≡ none ∷ some (at 14 1) ∷ []
  -- after the refused request it has an entry that a complete one lacks, "valid" in [9, 9]
  pub entry_more : (has ((run papers valid_scheme lacking (retiring ∷ [])).rights 9 9) 2 ≡ true) × (has ((run papers valid_scheme complete (retiring ∷ [])).rights 9 9) 2 ≡ false)
