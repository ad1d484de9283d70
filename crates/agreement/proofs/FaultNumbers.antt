-- Which numbers a conversion can be refused by: 20 to 22, and 27 before them, for any test that these pass.
-- Assumes nothing.
use Prim.Native.Nat.{ℕ}
use mathlib.Core.Bool.{Bool, true, false, cond, ◌||◌}
use mathlib.Core.Option.{none, some}
use lib.Dec.{T, leb}
use Rattle.laws.specs.Check.{Fault, ◌or_else◌, must, all}
use Rattle.model.specs.Scheme.{operations_of, commands_of}
use Rattle.model.specs.declared.Scheme.{Scheme}
use Rattle.conversion.specs.Conversion.{keeps_all, conversion_fault}

module _ (ok : ℕ → Bool) where
  abbrev pub passed_fault : Fault → Bool
  passed_fault none = true
  passed_fault (some k) = ok k

  must_pass : (b : Bool) (k : ℕ) → T (ok k) → T (passed_fault (must b k))
  unfolding must
  must_pass true k t = tt
  must_pass false k t = t

  or_passes : (f g : Fault) → T (passed_fault f) → T (passed_fault g) → T (passed_fault (f or_else g))
  unfolding ◌or_else◌
  or_passes none g t u = u
  or_passes (some k) g t u = t

  pub conversion_fault_lem : T (ok 20) → T (ok 21) → T (ok 22) → (s : Scheme) → T (passed_fault (conversion_fault s))
  unfolding conversion_fault
  conversion_fault_lem t u v s =
      or_passes _ _ (must_pass (all (λ c. keeps_all (operations_of c.operations)) (commands_of s)) 20 t)
      (or_passes _ _ (must_pass (leb s.head.rights 32) 21 u) (must_pass (all (λ c. leb c.operations.count 16) (commands_of s)) 22 v))

  -- 27 is before all other checks
  pub unless_27 : (right : Bool) (f : Fault) → T (right || ok 27) → T (passed_fault f) → T (passed_fault (cond right f (some 27)))
  unless_27 true f t u = u
  unless_27 false f t u = t
