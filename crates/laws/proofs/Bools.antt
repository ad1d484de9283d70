-- Laws of Booleans and of checks that every other file of proofs cites.
-- Assumes nothing.
use Prim.Native.Nat.{ℕ, ◌≤◌}
use native.Mathlib.Omega.{arith}
use mathlib.Core.Path.{◌≡◌, refl}
use mathlib.Core.Logic.{◌≢◌}
use mathlib.Core.Bool.{Bool, true, false, not, cond, ◌&&◌, ◌||◌}
use mathlib.Core.Option.{Option, none, some}
use mathlib.Core.List.{List, [], ◌∷◌}
use lib.Dec.{T, eqb, eqb→eq, leb, le→leb}
use Rattle.laws.specs.Check.{Fault, ◌or_else◌, must, passes, all, between, first_fault}

pub is_true : (b : Bool) → T b → b ≡ true
is_true true t = refl
is_true false t = absurd t

pub is_false : (b : Bool) → (T b → ⊥) → b ≡ false
is_false true f = absurd (f tt)
is_false false f = refl

pub from_true : {b : Bool} → b ≡ true → T b
from_true e = rw e tt

pub and_left : (a b : Bool) → T (a && b) → T a
and_left true b t = tt
and_left false b t = t

pub and_right : (a b : Bool) → T (a && b) → T b
and_right true b t = t
and_right false b t = absurd t

pub and_both : (a b : Bool) → T a → T b → T (a && b)
and_both true b t u = u
and_both false b t u = t

pub or_left : (a b : Bool) → T a → T (a || b)
or_left true b t = tt
or_left false b t = absurd t

pub or_right : (a b : Bool) → T b → T (a || b)
or_right true b t = tt
or_right false b t = t

pub or_none : {a b : Bool} → a ≡ false → b ≡ false → (a || b) ≡ false
or_none e f = rw (e, f)

pub not_both : (b : Bool) → T b → T (not b) → ⊥
not_both true t u = u
not_both false t u = t

pub eqb_not : (a b : ℕ) → a ≢ b → eqb a b ≡ false
eqb_not a b h = is_false (eqb a b) (λ t. h (eqb→eq a b t))

-- what is counted once if a test passes
pub one_mono : (a b : Bool) → (T a → T b) → cond a 1 0 ≤ cond b 1 0
one_mono true true h = omega arith
one_mono true false h = absurd (h tt)
one_mono false b h = omega arith

-- ---- checks: what a check that passes says, and what makes it pass
pub must_pass : {K : Type 0} (b : Bool) (k : K) → T (passes (must b k)) → T b
unfolding must passes
must_pass true k t = tt
must_pass false k t = t

pub first_pass : {K : Type 0} (a b : Option K) → T (passes (a or_else b)) → T (passes a)
unfolding ◌or_else◌ passes
first_pass none b t = tt
first_pass (some k) b t = t

pub then_pass : {K : Type 0} (a b : Option K) → T (passes (a or_else b)) → T (passes b)
unfolding ◌or_else◌ passes
then_pass none b t = t
then_pass (some k) b t = absurd t

pub must_true : {K : Type 0} (b : Bool) (k : K) → T b → T (passes (must b k))
unfolding must passes
must_true true k t = tt
must_true false k t = t

pub both_pass : {K : Type 0} (a b : Option K) → T (passes a) → T (passes b) → T (passes (a or_else b))
unfolding ◌or_else◌ passes
both_pass none b t u = u
both_pass (some k) b t u = t

pub between_is : (low high x : ℕ) → low ≤ x → x ≤ high → T (between low high x)
unfolding between
between_is low high x l h = and_both (leb low x) (leb x high) (le→leb low x l) (le→leb x high h)

pub all_pass : {A : Type 0} (f : A → Fault) (xs : List A) → T (passes (first_fault f xs)) → T (all (λ x. passes (f x)) xs)
unfolding first_fault all passes
all_pass f [] t = tt
all_pass f (x ∷ xs) t = and_both (passes (f x)) _ (first_pass (f x) _ t) (all_pass f xs (then_pass (f x) _ t))
