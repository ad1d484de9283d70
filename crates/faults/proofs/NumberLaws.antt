-- A fault's number is the number that it is the fault of: one test behind the other.
-- Assumes nothing.
use Rattle.std.proofs.Common.{◌≡◌, ℕ, refl}
use mathlib.Core.Bool.{Bool, true, false, cond}
use lib.Dec.{eqb}
use borrow.Author.Tests.{eqb-true}
use Rattle.faults.specs.Numbers.{number_of, fault_of}
use Rattle.faults.specs.Promises.{NumbersKept}
use Rattle.faults.specs.declared.Fault.{Fault}
use Rattle.faults.specs.declared.Fault.TheVariants as fault

-- one test: a fault with this number, where the test is met; else what the other tests give
named : (n k : ℕ) (f g : Fault) → number_of f ≡ k → number_of g ≡ n → number_of (cond (eqb n k) f g) ≡ n
named n k f g e d = go (eqb n k) refl
  where
    go : (b : Bool) → eqb n k ≡ b → number_of (cond b f g) ≡ n
    go true t = rw (eqb-true n k t) e
    go false t = d

pub numbered : NumbersKept
unfolding fault_of
numbered n =
    named n 1 _ _ refl
    (named n 2 _ _ refl
    (named n 3 _ _ refl
    (named n 4 _ _ refl
    (named n 5 _ _ refl
    (named n 6 _ _ refl
    (named n 7 _ _ refl
    (named n 8 _ _ refl
    (named n 9 _ _ refl
    (named n 10 _ _ refl
    (named n 11 _ _ refl
    (named n 12 _ _ refl
    (named n 13 _ _ refl
    (named n 14 _ _ refl
    (named n 15 _ _ refl
    (named n 16 _ _ refl
    (named n 17 _ _ refl
    (named n 18 _ _ refl
    (named n 20 _ _ refl
    (named n 21 _ _ refl
    (named n 22 _ _ refl
    (named n 23 _ _ refl
    (named n 27 _ (fault.Other n) refl refl))))))))))))))))))))))
