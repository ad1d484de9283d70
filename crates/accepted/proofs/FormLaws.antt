-- What the library's methods answer on the places of a list, in the model's words.
-- Assumes nothing.
use Prim.Native.Nat.{ℕ, ◌+◌, min, ◌≤◌, ◌<◌}
use mathlib.Core.Path.{◌≡◌, refl, sym, ap, ◌∙◌}
use mathlib.Core.Bool.{◌||◌, Bool, true, false, not, ◌&&◌, and-true, and_assoc}
use mathlib.Core.List.{List, [], ◌∷◌}
use native.Mathlib.Decide.{dec_le}
use native.Mathlib.Nat.{min_comm}
use native.Mathlib.Omega.{arith}
use borrow.Author.Tests.{eq-eqb}
use lib.ListN.{length, take, drop, get_or, length-take, drop_of_length-le}
use lib.Seq.{get_or-take}
use Rattle.std.specs.List.{list_all, list_any, fold}
use Rattle.laws.specs.Check.{any, all, padded, must, first_fault, ◌or_else◌}
use Rattle.laws.proofs.Walks.{any_reverse, one_more, take_least}
use Rattle.rights.specs.declared.Parameter.{Parameter}
use Rattle.model.specs.Scheme.{tests_of, names, creates, destroys, creatable, destroyable}
use Rattle.model.specs.declared.Tests.{Tests}
use Rattle.model.specs.declared.Operation.{Operation}
use Rattle.model.specs.declared.Operations.{Operations}
use Rattle.accepted.specs.Answers.{before}

-- ---- `all` and `any`
pub all_is : {A : Type 0} (f : A → Bool) (l : List A) → all f l ≡ list_all f l
unfolding all
all_is f [] = refl
all_is f (x ∷ xs) = rw (all_is f xs)

pub any_is : {A : Type 0} (f : A → Bool) (l : List A) → any f l ≡ list_any f l
unfolding any
any_is f [] = refl
any_is f (x ∷ xs) = rw (any_is f xs)

drop_least : {A : Type 0} (l : List A) (m n : ℕ) → length l ≡ m → drop (min m n) l ≡ drop n l
drop_least l m n e = by (dec_le n m)
  where
    by : Dec (n ≤ m) → drop (min m n) l ≡ drop n l
    by (yes h) = let f : min m n ≡ n = omega arith in rw f
    by (no h) =
        let f : min m n ≡ m = omega (arith, h) in
        rw f (drop_of_length-le l {i = m} (omega arith) ∙ sym (drop_of_length-le l {i = n} (omega (arith, h))))

-- ---- one of those in use more
pub next_before : (o : Operations) (n i : ℕ) (d : Operation) → i < length (take n o.list) → before o (i + 1) ≡ get_or (take n o.list) i d ∷ before o i
next_before o n i d h =
    let k : i < n = omega (arith, length-take n o.list) in
    rw (get_or-take n o.list i d k) (one_more o.list i d (omega (arith, length-take n o.list)))

-- ---- an answer told without an early exit
so_far : {A : Type 0} (f : A → Bool) (b : Bool) (l : List A) → fold (λ a x. a && f x) b l ≡ (b && all f l)
unfolding all
so_far f b [] = sym (and-true b)
so_far f b (x ∷ xs) = so_far f (b && f x) xs ∙ and_assoc b (f x) _

none_any : {A : Type 0} (f : A → Bool) (l : List A) → all (λ x. not (f x)) l ≡ not (any f l)
unfolding any all
none_any f [] = refl
none_any f (x ∷ xs) = go (f x) (none_any f xs)
  where
    go : (b : Bool) → all (λ x. not (f x)) xs ≡ not (any f xs) → (not b && all (λ x. not (f x)) xs) ≡ not (b || any f xs)
    go true e = refl
    go false e = e

-- none of the first n
pub none_of : {A : Type 0} (f : A → Bool) (many n : ℕ) (l : List A) (r : Bool) → length l ≡ many
    → r ≡ fold (λ a x. a && not (f x)) true (take (min many n) l) → r ≡ not (any f (take n l))
none_of f many n l r e h =
    let k : take (min many n) l ≡ take n l = rw min_comm (take_least l many n e) in
    h ∙ rw k (so_far (λ x. not (f x)) true (take n l) ∙ none_any f (take n l))

-- none of those before, which `before` has the last first
module _ (o : Operations) (n : ℕ) (p : Parameter) (s : Bool) where
  pub not_destroyed : s ≡ not (any (destroys p) (take n o.list)) → s ≡ destroyable (before o n) p
  unfolding destroyable
  not_destroyed e = e ∙ ap not (any_reverse (destroys p) (take n o.list))

  pub not_created : (t : Tests) (r : Bool) → r ≡ not (any (names p) (tests_of t)) → s ≡ not (any (creates p) (take n o.list))
      → (r && s) ≡ creatable (tests_of t) (before o n) p
  unfolding creatable
  not_created t r e f = rw (e, f ∙ ap not (any_reverse (creates p) (take n o.list)))

-- zeros behind the used places
pub zeros : {A : Type 0} (zero? : A → Bool) (many count : ℕ) (l : List A) (r : Bool) → length l ≡ many
    → r ≡ fold (λ a x. a && zero? x) true (drop (min many count) l) → r ≡ padded zero? many count l
unfolding padded
zeros zero? many count l r e h = h ∙ so_far zero? true (drop (min many count) l) ∙ rw (drop_least l many count e, eq-eqb (length l) many e)

-- ---- the first fault, where all have the same
pub same_fault : {A : Type 0} (f : A → Bool) (k : ℕ) (l : List A) → first_fault (λ x. must (f x) k) l ≡ must (list_all f l) k
unfolding must first_fault ◌or_else◌
same_fault f k [] = refl
same_fault f k (x ∷ xs) = go (f x) (same_fault f k xs)
  where
    go : (b : Bool) → first_fault (λ x. must (f x) k) xs ≡ must (list_all f xs) k → (must b k or_else first_fault (λ x. must (f x) k) xs) ≡ must (b && list_all f xs) k
    go true e = e
    go false e = refl
