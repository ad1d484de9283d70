-- A walk over the first n elements of a list: what is left at place i decides the answer, and each turn takes one element off.
-- Assumes nothing.
use Prim.Native.Nat.{ℕ, ◌+◌, ◌-◌, min, ◌≤◌, ◌<◌}
use mathlib.Core.Path.{◌≡◌, refl, sym, ap, ◌∙◌}
use mathlib.Core.Bool.{Bool, true, false, ◌&&◌, ◌||◌, and-true, and_assoc, or-false}
use mathlib.Core.List.{List, [], ◌∷◌, ◌++◌, map, reverse, reverse_aux}
use native.Mathlib.Decide.{dec_le}
use native.Mathlib.Omega.{arith}
use native.Mathlib.Numerals.{add-one}
use lib.ListN.{take, drop, get_or, length, length-map, drop_of_length-le}
use lib.Seq.{drop-cons, get_or-take, length-take-le, take-suc, take_all}
use borrow.Author.Tests.{eq-eqb}
use Rattle.laws.specs.Check.{any, all, padded}

-- an array of structs stands in what is known as `map` of its elements
pub long : (X Y : Type 0) (f : X → Y) (l : List X) (n : ℕ) → length (map f l) ≡ n → length l ≡ n
long X Y f l n e = sym (length-map l f) ∙ e

-- ---- one turn of a loop over a list, and its end
module _ {A : Type 0} (l : List A) (n : ℕ) (full : length l ≡ n) (i : ℕ) where
  pub turn : (d : A) → i < n → drop i l ≡ get_or l i d ∷ drop (i + 1) l
  turn d h = let k : i < length l = omega arith in rw (add-one, drop-cons l i d k)

  pub ended : n ≤ i → drop i l ≡ []
  ended h = drop_of_length-le l {i = i} (omega arith)

-- the same for the used part of an array
module _ {A : Type 0} (l : List A) (n : ℕ) (fits : n ≤ length l) (i : ℕ) where
  pub turn_used : (d : A) → i < n → drop i (take n l) ≡ get_or l i d ∷ drop (i + 1) (take n l)
  turn_used d h = turn (take n l) n (length-take-le n l fits) i d h ∙ rw (get_or-take n l i d h)

  pub ended_used : n ≤ i → drop i (take n l) ≡ []
  ended_used h = ended (take n l) n (length-take-le n l fits) i h

-- ---- the walk: the answer w is what F makes, at place i, of the elements from there on
pub record Walk {A B : Type 0} (F : ℕ → List A → B) (l : List A) (n : ℕ) (w : B) (i : ℕ) : Type 0 where
  pub fits : n ≤ length l
  pub left : F i (drop i (take n l)) ≡ w

module _ {A B : Type 0} {F : ℕ → List A → B} {l : List A} {n : ℕ} {w : B} where
  pub start : (m : ℕ) → length l ≡ m → n ≤ m → F 0 (take n l) ≡ w → Walk F l n w 0
  start m e h f = record { fits = omega arith; left = f }

  module _ {i : ℕ} (v : Walk F l n w i) where
    pub on : {G : ℕ → List A → B} → (d : A) → i < n → ((xs : List A) → G (i + 1) xs ≡ F i (get_or l i d ∷ xs)) → Walk G l n w (i + 1)
    on d h step = record { fits = v.fits; left = step _ ∙ sym (ap (F i) (turn_used l n v.fits i d h)) ∙ v.left }

    pub out : (d : A) (b : B) → i < n → ((xs : List A) → b ≡ F i (get_or l i d ∷ xs)) → b ≡ w
    out d b h stop = stop _ ∙ sym (ap (F i) (turn_used l n v.fits i d h)) ∙ v.left

    pub end : n ≤ i → F i [] ≡ w
    end h = sym (ap (F i) (ended_used l n v.fits i h)) ∙ v.left

-- ---- one turn of the walks with a bool
module _ {A : Type 0} (f : A → Bool) (x : A) where
  pub any_on : f x ≡ false → (xs : List A) → any f xs ≡ any f (x ∷ xs)
  unfolding any
  any_on e xs = rw e

  pub any_out : f x ≡ true → (xs : List A) → true ≡ any f (x ∷ xs)
  unfolding any
  any_out e xs = rw e

  pub all_on : f x ≡ true → (xs : List A) → all f xs ≡ all f (x ∷ xs)
  unfolding all
  all_on e xs = rw e

  pub all_out : f x ≡ false → (xs : List A) → false ≡ all f (x ∷ xs)
  unfolding all
  all_out e xs = rw e

-- ---- a walk to the end, with the answer so far
pub record Carried {A : Type 0} (f : A → Bool) (l : List A) (n : ℕ) (w b : Bool) (i : ℕ) : Type 0 where
  pub walk : Walk (λ j xs. b && all f xs) l n w i

module _ {A : Type 0} {f : A → Bool} {l : List A} {n : ℕ} {w b : Bool} {i : ℕ} (v : Carried f l n w b i) where
  pub carried : (d : A) (r : Bool) → i < n → r ≡ f (get_or l i d) → Carried f l n w (b && r) (i + 1)
  unfolding all
  carried d r h e = record { walk = on v.walk d h (λ xs. rw e (and_assoc b (f (get_or l i d)) (all f xs))) }

  pub arrived : n ≤ i → b ≡ w
  unfolding all
  arrived h = sym (and-true b) ∙ end v.walk h

-- ---- a list turned round
module _ {A : Type 0} where
  any_aux : (f : A → Bool) (l r : List A) → any f (reverse_aux l r) ≡ (any f l || any f r)
  unfolding any
  any_aux f [] r = refl
  any_aux f (x ∷ xs) r = any_aux f xs (x ∷ r) ∙ swap (any f xs) (f x) (any f r)
    where
      swap : (a b c : Bool) → (a || (b || c)) ≡ ((b || a) || c)
      swap true true c = refl
      swap true false c = refl
      swap false true c = refl
      swap false false c = refl

  pub any_reverse : (f : A → Bool) (l : List A) → any f l ≡ any f (reverse l)
  unfolding any
  any_reverse f l = sym (any_aux f l [] ∙ or-false (any f l))

  turned : (l : List A) (a : A) (r : List A) → reverse_aux (l ++ (a ∷ [])) r ≡ a ∷ reverse_aux l r
  turned [] a r = refl
  turned (x ∷ xs) a r = turned xs a (x ∷ r)

  -- the first i + 1 elements, the last first
  pub one_more : (l : List A) (i : ℕ) (d : A) → i < length l → reverse (take (i + 1) l) ≡ get_or l i d ∷ reverse (take i l)
  one_more l i d h = rw (add-one i, take-suc l i d h) (turned (take i l) (get_or l i d) [])

  pub last_first : (l : List A) (n : ℕ) (d : A) → (n ≡ 0 → ⊥) → n ≤ length l → reverse (take n l) ≡ get_or l (n - 1) d ∷ reverse (take (n - 1) l)
  last_first l n d h k =
      let e : n - 1 + 1 ≡ n = omega arith in
      rw e at (one_more l (n - 1) d (omega arith))

-- ---- the places behind those in use
pub behind : {A : Type 0} (z : A → Bool) (m c : ℕ) (l : List A) → length l ≡ m → Walk (λ i. all z) l m (padded z m c l) c
unfolding padded
behind z m c l e = record { fits = omega arith; left = rw (take_all m l (omega arith), eq-eqb (length l) m e) }

-- ---- a list of m: no more than m are taken
pub take_least : {A : Type 0} (l : List A) (m n : ℕ) → length l ≡ m → take (min n m) l ≡ take n l
take_least l m n e = by (dec_le n m)
  where
    by : Dec (n ≤ m) → take (min n m) l ≡ take n l
    by (yes h) = let f : min n m ≡ n = omega arith in rw f
    by (no h) =
        let f : min n m ≡ m = omega (arith, h) in
        let a : length l ≤ m = omega arith in
        let b : length l ≤ n = omega (arith, h) in
        rw f (take_all m l a ∙ sym (take_all n l b))
