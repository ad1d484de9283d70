-- The search for a seat, a thing put past the last seat, and one array copied into another.
-- Assumes nothing.
use Prim.Native.Nat.{ℕ, suc, ◌-◌, min, ◌≤◌, ◌<◌}
use mathlib.Core.Path.{◌≡◌, refl, sym, ap, ◌∙◌}
use mathlib.Core.List.{List, [], ◌∷◌, ◌++◌, append-nil}
use native.Mathlib.Decide.{dec_lt}
use native.Mathlib.Nat.{zero-add, add_comm, sub-zero}
use native.Mathlib.Numerals.{add-one}
use native.Mathlib.Omega.{arith}
use lib.Dec.{eqb}
use lib.ListN.{length, take, drop, set, length-take, length-set, drop_of_length-le}
use lib.Seq.{sets, sets-eq, set_out, take_all}
use Rattle.std.specs.Prelude.{Option}
use Rattle.std.specs.List.{position, position_or_len}
use Rattle.std.specs.Option.{unwrap_or}
use Rattle.std.proofs.lemmas.Grind.{common_steps}
use Rattle.std.proofs.lemmas.List.Sums.{prefix_len-le-length}
use Rattle.std.proofs.lemmas.List.Recursion.{is_position_or_len}
use Rattle.laws.proofs.Walks.{long, take_least}
use Rattle.model.specs.Seats.{find}

-- ---- a thing put past the last seat changes none
pub ruleset seats = (set_out, long)

-- ---- the place of the first with an id, or how many are looked at
found : (xs : List ℕ) (x most : ℕ) → length xs ≡ most → unwrap_or (position (λ y. eqb y x) xs) most ≡ find xs x
unfolding find
found xs x most l =
    let e : find xs x ≡ position_or_len (λ y. eqb y x) xs = is_position_or_len (λ l. find l x) (λ y. eqb y x) refl (λ y ys. rw (add_comm 1) (rw add-one refl)) xs in
    let h : position_or_len (λ y. eqb y x) xs ≤ length xs = prefix_len-le-length _ xs in
    grind (arith, common_steps)

module _ (ids : List ℕ) (n most x r : ℕ) (o : Option ℕ) where
  pub found_in : length ids ≡ 48 → most ≡ min n 48 → o ≡ position (λ y. eqb y x) (take most ids) → r ≡ unwrap_or o most → r ≡ find (take n ids) x
  found_in l m e f =
      let g : unwrap_or o most ≡ find (take most ids) x = rw e (found (take most ids) x most (omega (arith, length-take most ids))) in
      f ∙ g ∙ ap (λ (xs : List ℕ). find xs x) (rw m (take_least ids 48 n l))

-- ---- one array copied into another, as far as both go
past : {A : Type 0} (vs l : List A) (i : ℕ) → length l ≤ i → sets l i vs ≡ l
past [] l i h = refl
past (a ∷ vs) l i h = rw (set_out l i a h) (past vs l (suc i) (omega arith))

no_more : {A : Type 0} (l : List A) (i : ℕ) (vs : List A) → sets l i vs ≡ sets l i (take (length l - i) vs)
no_more l i [] = grind (arith, common_steps)
no_more {A} l i (a ∷ vs) = by (dec_lt i (length l)) (no_more (set l i a) (suc i) vs)
  where
    by : Dec (i < length l) → sets (set l i a) (suc i) vs ≡ sets (set l i a) (suc i) (take (length (set l i a) - suc i) vs)
        → sets l i (a ∷ vs) ≡ sets l i (take (length l - i) (a ∷ vs))
    by (yes h) e = let k : length l - i ≡ suc (length l - suc i) = omega arith in rw k (rw length-set at e)
    by (no h) e = let k : length l - i ≡ 0 = omega (arith, h) in rw k (past (a ∷ vs) l i (omega (arith, h)))

pub copied : {A : Type 0} (to from xs : List A) (n : ℕ) → n ≡ min (length to) (length from) → xs ≡ take n from → xs ++ drop n to ≡ sets to 0 from
copied to from xs n e f =
    let n-is : n ≡ length (take (length to) from) = omega (arith, length-take (length to) from) in
    let xs-is : xs ≡ take (length to) from = grind (arith, common_steps) in
    rw (xs-is, n-is) (sym (no_more to 0 from ∙ rw sub-zero (sets-eq (take (length to) from) to 0 (omega (arith, length-take (length to) from)) ∙ rw zero-add)))

-- where both have as many places, the one is then the other
pub copy_all : {A : Type 0} (to from : List A) → length to ≡ length from → sets to 0 from ≡ from
copy_all to from e = sets-eq from to 0 (omega arith) ∙ rw (zero-add, ← e, drop_of_length-le to {i = length to} (omega arith)) (append-nil from)
