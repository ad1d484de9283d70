-- The two matrices that are looser for lacking an entry: computed, but for `Within`, which speaks of every id.
-- Assumes nothing.
use Prim.Native.Nat.{ℕ}
use mathlib.Core.Path.{◌≡◌, refl}
use mathlib.Core.Bool.{Bool, true, false, cond, ◌&&◌}
use mathlib.Core.List.{[], ◌∷◌}
use lib.Dec.{T, eqb}
use Rattle.rights.specs.Sets.{enter_right, delete_right}
use Rattle.model.specs.Request.{run}
use Rattle.model.specs.Papers.{change_cell, papers}
use Rattle.model.specs.Accepted.{accepted_scheme, accepted_matrix}
use Rattle.model.specs.KeyExample.{key_scheme, key_matrix}
use Rattle.model.proofs.Computes.{requests_compute, papers_compute, seats_compute, key_computes, accepted_computes}
use Rattle.model.proofs.Joined.{run_joined, run_kept}
use Rattle.conversion.specs.Conversion.{tests_presence}
use Rattle.incomplete.specs.Looser.{retiring, poorer, valid_scheme, complete, Looser, GoesOn}
use Rattle.conversion.proofs.Mirror.{Sub}
use Rattle.incomplete.proofs.Subsets.{sub_entered, sub_deleted}

accepted_scheme_lem : T (accepted_scheme key_scheme)
unfolding requests_compute key_computes accepted_computes
accepted_scheme_lem = tt

accepted_matrix_lem : T (accepted_matrix key_scheme.head key_matrix)
unfolding requests_compute seats_compute key_computes accepted_computes
accepted_matrix_lem = tt

-- one cell is changed: what holds of each set and itself, and of each and what becomes of it, holds of every cell before and after
one_cell : (R : ℕ → ℕ → Type 0) (f : ℕ → ℕ) (x y : ℕ) (rights : ℕ → ℕ → ℕ) → ((c : ℕ) → R c c) → ((c : ℕ) → R c (f c)) → (a b : ℕ) →
    R (rights a b) (change_cell f x y rights a b)
unfolding change_cell
one_cell R f x y rights same law a b = go (eqb a x && eqb b y)
  where
    go : (c : Bool) → R (rights a b) (cond c (f (rights a b)) (rights a b))
    go true = law (rights a b)
    go false = same (rights a b)

-- the retire entered "retired", right 2, in [9, 9]
retired_is : run papers key_scheme poorer (retiring ∷ []) ≡ record { things = poorer.things; rights = change_cell (enter_right 2) 9 9 poorer.rights }
unfolding requests_compute papers_compute seats_compute key_computes
retired_is = refl

pub looser : Looser
unfolding requests_compute papers_compute seats_compute key_computes accepted_computes tests_presence
looser = record {
  tests_absence = refl;
  accepted = (accepted_scheme_lem, accepted_matrix_lem, run_kept key_scheme key_matrix (retiring ∷ []) accepted_scheme_lem accepted_matrix_lem);
  within = rw (run_joined.same_matrix key_scheme key_matrix (retiring ∷ []) accepted_scheme_lem accepted_matrix_lem, retired_is) (record { same_things = refl; entries = one_cell Sub (enter_right 2) 9 9 poorer.rights (λ c r t. t) (sub_entered 2) });
  missing = (refl, refl);
  poorer_does = refl;
  richer_refuses = refl;
  entry_more = (refl, refl);
}

pub goes_on : GoesOn
unfolding requests_compute papers_compute seats_compute key_computes accepted_computes tests_presence valid_scheme
goes_on = record {
  accepted = tt;
  presence = tt;
  within = record { same_things = refl; entries = one_cell (λ c d. Sub d c) (delete_right 0) 5 9 complete.rights (λ c r t. t) (sub_deleted 0) };
  robot_answers = refl;
  complete_answers = refl;
  entry_more = (refl, refl);
}
