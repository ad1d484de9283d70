-- What a test, and each turn of a loop over tests, operations or a seat's cells does. Over plain lists and numbers, so that a function's proof names
-- few places of its context. Assumes nothing.
use Prim.Native.Nat.{ℕ, zero, suc, ◌+◌, ◌*◌, ◌/◌, ◌%◌, ◌≤◌, ◌<◌}
use mathlib.Core.Path.{◌≡◌, refl, sym, ap, ◌∙◌}
use mathlib.Core.Logic.{◌≢◌, ◌⊎◌, inl, inr, ⊎_elim}
use mathlib.Core.Bool.{Bool, true, false, not, cond, beq, ◌||◌, or-true}
use mathlib.Core.List.{List, [], ◌∷◌}
use native.Mathlib.Nat.{add-zero, add-suc, suc-add, zero-add}
use native.Mathlib.Numerals.{add-one}
use native.Mathlib.Omega.{arith}
use lib.Dec.{eqb}
use lib.ListN.{length, get_or, set}
use borrow.Author.Tests.{eqb-true, eq-eqb}
use Rattle.laws.specs.Check.{◌or_else◌, must}
use Rattle.model.specs.Answers.{verdict_of}
use Rattle.model.specs.Request.{at}
use Rattle.model.specs.Seats.{blank}
use Rattle.model.specs.declared.Operation.{Operation}
use Rattle.model.specs.declared.Test.{Test}
use Rattle.std.specs.Prelude.{Result, Err}
use Rattle.model.specs.declared.Refusal.{Refusal}
use Rattle.engine.specs.Inner.Cells.{holds_at, first_false, cells_by, cells_after}

-- ---- the tests

-- a test that reads its cell
pub holds_same : (there present : Bool) → beq there present ≡ cond present there (not there)
holds_same true true = refl
holds_same true false = refl
holds_same false true = refl
holds_same false false = refl

-- what is left of the tests decides the verdict
module _ (cells spots : List ℕ) where
  abbrev pub tested_from : ℕ → List Test → Result (Unit {0}) Refusal
  tested_from i ts = verdict_of (first_false cells spots i ts)

  module _ (i : ℕ) (t : Test) where
    pub tests_on : holds_at cells spots t ≡ true → (ts : List Test) → tested_from (i + 1) ts ≡ tested_from i (t ∷ ts)
    unfolding first_false must ◌or_else◌
    tests_on e ts = rw (e, add-one i)

    pub tests_out : holds_at cells spots t ≡ false → (ts : List Test) → Err (at 14 i) ≡ tested_from i (t ∷ ts)
    unfolding first_false must ◌or_else◌
    tests_out e ts = rw e

-- ---- the operations: what is left of them, on the cells so far, gives what all of them give on the first
pub after_on : (spots : List ℕ) (o : Operation) (cells next : List ℕ) → next ≡ cells_by spots o cells o.code → (os : List Operation) →
    cells_after spots os next ≡ cells_after spots (o ∷ os) cells
unfolding cells_after
after_on spots o cells next e os = rw e

-- ---- a seat's cells: a store of 0 in its row or column changes nothing of what `blank` gives, and where all of them are 0 `blank` is done

-- place k is in row or column p
abbrev OnCross : ℕ → ℕ → Type 0
OnCross p k = (k / 48 ≡ p) ⊎ (k % 48 ≡ p)

on_cross : (p k : ℕ) → OnCross p k → (eqb (k / 48) p || eqb (k % 48) p) ≡ true
on_cross p k (inl e) = rw (eq-eqb (k / 48) p e)
on_cross p k (inr e) = rw (eq-eqb (k % 48) p e) (or-true (eqb (k / 48) p))

cross_on : (p k : ℕ) → (eqb (k / 48) p || eqb (k % 48) p) ≡ true → OnCross p k
cross_on p k e = go (eqb (k / 48) p) refl
  where
    go : (b : Bool) → eqb (k / 48) p ≡ b → OnCross p k
    go true q = inl (eqb-true (k / 48) p q)
    go false q = inr (eqb-true (k % 48) p (rw q at e))

blank_set : (p k : ℕ) (l : List ℕ) (i : ℕ) → OnCross p (k + i) → blank p k (set l i 0) ≡ blank p k l
unfolding blank
blank_set p k [] i e = refl
blank_set p k (c ∷ cs) zero e = rw (on_cross p k (rw add-zero at e))
blank_set p k (c ∷ cs) (suc i) e = rw (blank_set p (suc k) cs i (rw (suc-add k i, ← add-suc k i) e))

blank_same : (p k : ℕ) (l : List ℕ) → ((i : ℕ) → i < length l → OnCross p (k + i) → get_or l i 0 ≡ 0) → blank p k l ≡ l
unfolding blank
blank_same p k [] f = refl
blank_same p k (c ∷ cs) f =
    rw (blank_same p (suc k) cs (λ i h e. f (suc i) (omega arith) (rw (add-suc k i, ← suc-add k i) e))) (go (eqb (k / 48) p || eqb (k % 48) p) refl)
  where
    go : (b : Bool) → (eqb (k / 48) p || eqb (k % 48) p) ≡ b → cond b 0 c ∷ cs ≡ c ∷ cs
    go true e = ap (λ (x : ℕ). x ∷ cs) (sym (f 0 (omega arith) (rw add-zero (cross_on p k e))))
    go false e = refl

-- the seat's cells at columns and rows below j are 0
abbrev pub Clear : ℕ → ℕ → List ℕ → Type 0
Clear p j l = (i : ℕ) → i < j → (get_or l (p * 48 + i) 0 ≡ 0) × (get_or l (i * 48 + p) 0 ≡ 0)

-- what one turn stores
abbrev pub cleared : ℕ → ℕ → List ℕ → List ℕ
cleared p j l = set (set l (p * 48 + j) 0) (j * 48 + p) 0

zeroed : (l : List ℕ) (k m : ℕ) → (m ≢ k → get_or l m 0 ≡ 0) → get_or (set l k 0) m 0 ≡ 0
zeroed [] k m f = refl
zeroed (c ∷ cs) zero zero f = refl
zeroed (c ∷ cs) zero (suc m) f = f (λ e. omega arith)
zeroed (c ∷ cs) (suc k) zero f = f (λ e. omega arith)
zeroed (c ∷ cs) (suc k) (suc m) f = zeroed cs k m (λ n. f (λ e. n (omega arith)))

pub clear_turn : (p j : ℕ) (l : List ℕ) → Clear p j l → Clear p (j + 1) (cleared p j l)
clear_turn p j l f i h = (zero_at (p * 48 + i) (λ n m. (f i (omega arith)).0), zero_at (i * 48 + p) (λ n m. (f i (omega arith)).1))
  where
    zero_at : (m : ℕ) → (m ≢ p * 48 + j → m ≢ j * 48 + p → get_or l m 0 ≡ 0) → get_or (cleared p j l) m 0 ≡ 0
    zero_at m g = zeroed (set l (p * 48 + j) 0) (j * 48 + p) m (λ c. zeroed l (p * 48 + j) m (λ r. g r c))

pub blank_turn : (p j : ℕ) (l : List ℕ) → p < 48 → j < 48 → blank p 0 (cleared p j l) ≡ blank p 0 l
blank_turn p j l lp lj =
    blank_set p 0 (set l (p * 48 + j) 0) (j * 48 + p) (inr (omega arith)) ∙ blank_set p 0 l (p * 48 + j) (inl (omega arith))

module _ (p : ℕ) (l : List ℕ) (full : length l ≡ 2304) where
  pub blank_end : (j : ℕ) → 48 ≤ j → Clear p j l → blank p 0 l ≡ l
  blank_end j lj f = blank_same p 0 l (λ k h e. go k (omega arith) (rw zero-add at e))
    where
      go : (k : ℕ) → k < 2304 → OnCross p k → get_or l k 0 ≡ 0
      go k h (inl e) = let q : p * 48 + k % 48 ≡ k = omega arith in rw q at (f (k % 48) (omega arith)).0
      go k h (inr e) = let q : k / 48 * 48 + p ≡ k = omega arith in rw q at (f (k / 48) (omega arith)).1

  pub blank_out : 48 ≤ p → blank p 0 l ≡ l
  blank_out h = blank_same p 0 l (λ k m e. absurd (⊎_elim (λ r. omega arith) (λ c. omega arith) e))
