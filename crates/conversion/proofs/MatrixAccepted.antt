-- A converted matrix is an accepted matrix of the converted scheme: the things are the same, and a converted cell holds no right 2 × n or above.
-- Assumes nothing.
use Prim.Native.Nat.{ℕ, suc, ◌*◌, ◌/◌, ◌%◌, ◌^◌, ◌≤◌}
use mathlib.Core.Path.{◌≡◌, refl}
use mathlib.Core.Bool.{Bool, true, false, cond}
use mathlib.Core.List.{List, [], ◌∷◌}
use lib.Dec.{T, eqb, ltb, ltb→lt, lt→ltb}
use Rattle.rights.specs.Sets.{converted}
use Rattle.rights.proofs.Converted.{converted_lt}
use Rattle.model.specs.Scheme.{is_subject}
use Rattle.model.specs.Seats.{Matrix}
use Rattle.model.specs.Accepted.{accepted_matrix, accepted_things, accepted_seat, accepted_places, standing}
use Rattle.model.specs.declared.Scheme.{Scheme}
use Rattle.model.specs.declared.Things.{Things}
use Rattle.laws.proofs.Bools.{and_both, and_left, and_right}
use Rattle.conversion.specs.Conversion.{convertible, convert_scheme, convert_cells, convert_matrix}
use Rattle.conversion.proofs.Lists.{length_cells, few_rights}
use Rattle.model.specs.Arrays.{scheme_of}

-- one place: b tells if a cell stands there
place : (n c : ℕ) → n ≤ 32 → (b : Bool) → T (cond b (ltb c (2 ^ n)) (eqb c 0)) →
    T (cond b (ltb (cond b (converted n c) c) (2 ^ (2 * n))) (eqb (cond b (converted n c) c) 0))
place n c few true t = lt→ltb _ _ (converted_lt n c few (ltb→lt c (2 ^ n) t))
place n c few false t = t

module _ (s : Scheme) where
  same_things : (th : Things) → accepted_things (convert_scheme s).head th ≡ accepted_things s.head th
  unfolding accepted_things accepted_seat convert_scheme scheme_of
  same_things th = refl

  places : (th : Things) → s.head.rights ≤ 32 → (k : ℕ) (l : List ℕ) → T (accepted_places s.head th k l) →
      T (accepted_places (convert_scheme s).head th k (convert_cells s.head th k l))
  unfolding accepted_places convert_cells convert_scheme standing is_subject scheme_of
  places th few k [] t = tt
  places th few k (c ∷ cs) t =
      let here = place s.head.rights c few (standing s.head th (k / 48) (k % 48)) (search and_left) in
      let later = places th few (suc k) cs (search and_right) in
      search and_both

pub matrix_accepted : (s : Scheme) (m : Matrix) → T (convertible s) → T (accepted_matrix s.head m) →
    T (accepted_matrix (convert_scheme s).head (convert_matrix s.head m))
unfolding accepted_matrix convert_matrix
matrix_accepted s m cs t =
    let all = places s m.things (few_rights s cs) 0 m.cells (search (and_left, and_right)) in
    rw (same_things s m.things, length_cells s.head m.things 0 m.cells) (search (and_left, and_right, and_both))
