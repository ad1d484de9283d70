-- How the answers of checks follow one another; and the parameters in use, and the type of a row, as two calls told it.
-- Assumes nothing.
use Prim.Native.Nat.{ℕ, suc, ◌+◌, ◌-◌, ◌≤◌, ◌<◌}
use mathlib.Core.Path.{◌≡◌, refl, sym, ◌∙◌}
use mathlib.Core.Bool.{Bool, true, false, cond, ◌&&◌, and-true, and_assoc}
use mathlib.Core.List.{List, [], ◌∷◌}
use native.Mathlib.Decide.{dec_lt}
use native.Mathlib.Nat.{sub-zero}
use native.Mathlib.Omega.{arith}
use borrow.Author.Tests.{lt-ltb, le-ltb, eq-eqb}
use lib.Dec.{ltb}
use lib.ListN.{take, drop, get_or, length}
use lib.Seq.{length-take-le, take_all, take-nil, drop-nil}
use Rattle.std.specs.Prelude.{Result, Ok, Err}
use Rattle.std.specs.Result.{result_and, is_ok}
use Rattle.std.proofs.lemmas.List.{at_drop_more, at_drop_all}
use Rattle.std.proofs.Math.Option.{none, some}
use Rattle.faults.specs.Numbers.{fault_of}
use Rattle.faults.specs.declared.Fault.{Fault as FaultNamed}
use Rattle.laws.specs.Check.{Fault, ◌or_else◌, must, passes, all, padded}
use Rattle.laws.proofs.Walks.{Walk, on as walk_on, end as walk_end}
use Rattle.accepted.specs.Answers.{as_checked}
use Rattle.rights.specs.Sets.{has}
use Rattle.rights.specs.declared.ThingType.{ThingType}
use Rattle.model.specs.Scheme.{is_subject}
use Rattle.model.specs.declared.Head.{Head}

-- ---- a check behind others
pub in_turn : (f g : Fault) → as_checked (f or_else g) ≡ result_and (as_checked f) (as_checked g)
unfolding ◌or_else◌
in_turn none g = refl
in_turn (some k) g = refl

pub of_must : (b : Bool) (k : ℕ) → as_checked (must b k) ≡ cond b (Ok tt) (Err (fault_of k))
unfolding must
of_must true k = refl
of_must false k = refl

pub told_fine : (f : Fault) → Ok tt ≡ as_checked f → f ≡ none
told_fine none e = refl
told_fine (some k) e = cc

pub ruleset checks = (in_turn, of_must)

pub behind : (b : Bool) (k : ℕ) (f : Fault) → b ≡ true → as_checked (must b k or_else f) ≡ as_checked f
unfolding must ◌or_else◌
behind b k f e = rw e

-- ---- a loop that stops at the first fault: what F makes of what is left at place i is the answer w
module _ {A : Type 0} (F : List A → Fault) (xs : List A) (i : ℕ) (w : Fault) (left : F (drop i xs) ≡ w) where
  -- of the first that is left g is the fault, as r tells, and G makes the rest
  module _ (G : List A → Fault) (g : Fault) (r : Result (Unit {0}) FaultNamed) (told : r ≡ as_checked g)
      (d : A) (h : i < length xs) (step : (ys : List A) → F (get_or xs i d ∷ ys) ≡ (g or_else G ys)) where
    next : w ≡ (g or_else G (drop (i + 1) xs))
    next = sym left ∙ at_drop_more F xs i d h ∙ step _

    pub on : r ≡ Ok tt → G (drop (i + 1) xs) ≡ w
    unfolding ◌or_else◌
    on e = sym (next ∙ rw (told_fine g (sym e ∙ told)))

    pub out : (e : FaultNamed) → r ≡ Err e → as_checked w ≡ r
    out e f = rw (next, in_turn, ← told, f)

  pub end : length xs ≤ i → F [] ≡ none → w ≡ none
  end h e = sym left ∙ at_drop_all F xs i h ∙ e

pub tells : (f : Fault) → passes f ≡ is_ok (as_checked f)
unfolding passes
tells none = refl
tells (some k) = refl

-- ---- the commands in use, and zeros in the places behind them, with the answer so far
abbrev used_then_zeros : {A : Type 0} → (A → Bool) → (A → Bool) → ℕ → Bool → ℕ → List A → Bool
used_then_zeros f z n b i xs = b && (all f (take (n - i) xs) && all z (drop (n - i) xs))

pub record Filled {A : Type 0} (f z : A → Bool) (n : ℕ) (l : List A) (m : ℕ) (b : Bool) (i : ℕ) : Type 0 where
  pub walk : Walk (used_then_zeros f z n b) l m (all f (take n l) && padded z m n l) i

module _ {A : Type 0} (f z : A → Bool) (n : ℕ) where
  pub filled_start : (m : ℕ) (l : List A) → length l ≡ m → Filled f z n l m true 0
  unfolding padded
  filled_start m l e =
      record { walk = record { fits = omega arith; left = rw (take_all m l (omega arith), eq-eqb (length l) m e, sub-zero n) } }

  module _ (b : Bool) (i : ℕ) (x : A) (xs : List A) where
    turn : used_then_zeros f z n (b && cond (ltb i n) (f x) (z x)) (i + 1) xs ≡ used_then_zeros f z n b i (x ∷ xs)
    unfolding all
    turn = by (dec_lt i n)
      where
        by : Dec (i < n) → used_then_zeros f z n (b && cond (ltb i n) (f x) (z x)) (i + 1) xs ≡ used_then_zeros f z n b i (x ∷ xs)
        by (yes h) =
            let k : n - i ≡ suc (n - (i + 1)) = omega arith in
            rw (lt-ltb i n h, k, and_assoc (f x) _ _, and_assoc b (f x) _)
        by (no h) =
            let k : n - i ≡ 0 = omega (arith, h) in
            let k' : n - (i + 1) ≡ 0 = omega (arith, h) in
            rw (le-ltb i n (omega (arith, h)), k, k', and_assoc b (z x) _)

  module _ {l : List A} {m : ℕ} {b : Bool} {i : ℕ} (v : Filled f z n l m b i) where
    pub filled_on : (d : A) (r : Bool) → i < m → r ≡ cond (ltb i n) (f (get_or l i d)) (z (get_or l i d)) → Filled f z n l m (b && r) (i + 1)
    filled_on d r h e = record { walk = walk_on v.walk d h (λ xs. rw e (turn b i (get_or l i d) xs)) }

    pub filled_end : m ≤ i → b ≡ (all f (take n l) && padded z m n l)
    unfolding all
    filled_end h = sym (and-true b) ∙ rw (take-nil (n - i), drop-nil (n - i)) at (walk_end v.walk h)

-- ---- the parameters in use, and the type of a row, as two calls told it
pub used : (l : List ThingType) (n : ℕ) → length l ≡ 8 → n ≤ 8 → length (take n l) ≡ n
used l n e h = length-take-le n l (omega arith)

pub subject : (h : Head) (t u : ThingType) (a b : Bool) → t ≡ u → a ≡ has h.subjects.0 t.0 → a ≡ b → is_subject h u ≡ b
unfolding is_subject
subject h t u a b e f g = cc
