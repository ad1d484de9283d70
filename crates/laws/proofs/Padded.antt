-- An array that holds a list with zeros behind it: made from the list, what it says of the list, and that the list with zeros is all of it.
-- Assumes nothing.
use Prim.Native.Nat.{ℕ, zero, suc, ◌-◌, ◌≤◌}
use native.Mathlib.Omega.{arith}
use mathlib.Core.Path.{◌≡◌, refl, sym, ap, ◌∙◌}
use mathlib.Core.Bool.{Bool}
use mathlib.Core.List.{List, [], ◌∷◌, ◌++◌}
use lib.Dec.{T, eqb, eqb→eq}
use lib.ListN.{length, take, drop, replicate, length-append, length-replicate, length-drop, take-append-drop}
use lib.Seq.{drop-append_seam, length-take-le}
use borrow.Author.Tests.{eq-eqb}
use Rattle.laws.specs.Check.{all, padded}
use Rattle.laws.proofs.Bools.{and_left, and_right, and_both}

all_replicate : {A : Type 0} (f : A → Bool) (n : ℕ) (z : A) → T (f z) → T (all f (replicate n z))
unfolding all
all_replicate f zero z t = tt
all_replicate f (suc n) z t = and_both (f z) _ t (all_replicate f n z t)

pub padded_list : {A : Type 0} (f : A → Bool) (many : ℕ) (l : List A) (z : A) → T (f z) → length l ≤ many →
    T (padded f many (length l) (l ++ replicate (many - length l) z))
unfolding padded
padded_list f many l z t h =
    let e : length (l ++ replicate (many - length l) z) ≡ many = simp (length-append, length-replicate) (omega arith) in
    rw (drop-append_seam, eq-eqb _ many e) (all_replicate f (many - length l) z t)

-- as many places are used as are counted
pub used : {A : Type 0} (f : A → Bool) (many count : ℕ) (l : List A) → T (padded f many count l) → count ≤ many → length (take count l) ≡ count
unfolding padded
used f many count l t h = let e = eqb→eq (length l) many (and_left (eqb (length l) many) _ t) in length-take-le count l (omega arith)

-- ---- a list followed by zeros
pub record Zero {A : Type 0} (zero? : A → Bool) (blank : A) : Type 0 where
  pub is : T (zero? blank)
  pub only : (a : A) → T (zero? a) → a ≡ blank

module _ {A : Type 0} {zero? : A → Bool} {blank : A} (z : Zero zero? blank) where
  blanks : (l : List A) → T (all zero? l) → l ≡ replicate (length l) blank
  unfolding all
  blanks [] t = refl
  blanks (a ∷ l) t = rw (← (blanks l (and_right (zero? a) _ t)), z.only a (and_left (zero? a) _ t))

  pub pad : (many count : ℕ) (xs : List A) → length xs ≡ count → count ≤ many → T (padded zero? many count (xs ++ replicate (many - length xs) blank))
  pad many count xs e h = rw (← e) (padded_list zero? many xs blank z.is (omega arith))

  pub unpad : (many count : ℕ) (l : List A) → T (padded zero? many count l) → count ≤ many →
      (length (take count l) ≡ count) × (l ≡ take count l ++ replicate (many - length (take count l)) blank)
  unfolding padded
  unpad many count l t h =
      let e : length l ≡ many = eqb→eq (length l) many (and_left (eqb (length l) many) _ t) in
      let n : length (take count l) ≡ count = used zero? many count l t h in
      let d : length (drop count l) ≡ many - length (take count l) = omega (arith, length-drop count l) in
      (n, sym (take-append-drop count l) ∙ rw (← d) (ap (λ (r : List A). take count l ++ r) (blanks (drop count l) (and_right (eqb (length l) many) _ t))))
