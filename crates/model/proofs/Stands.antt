-- When a form of a matrix stands for the papers': a relation that each operation keeps, wherever a request can carry it out.
-- A second engine needs no more than a proof of this record. Assumes nothing.
use Prim.Native.Nat.{ℕ, ◌<◌}
use mathlib.Core.Path.{◌≡◌, refl}
use mathlib.Core.Bool.{false, not}
use mathlib.Core.Option.{Option, none, some}
use lib.Dec.{T}
use Rattle.rights.specs.declared.Right.{Right}
use Rattle.rights.specs.declared.ThingType.{ThingType}
use Rattle.laws.specs.Check.{is_some}
use Rattle.model.specs.Scheme.{is_subject}
use Rattle.model.specs.Request.{Thing, View, Outcome, done, refused, is_id}
use Rattle.model.specs.Papers.{Population, State, may_create, papers}
use Rattle.model.specs.declared.Head.{Head}
use Rattle.laws.proofs.Bools.{and_left}

pub absent : {A : Type 0} (o : Option A) → T (not (is_some o)) → o ≡ none
unfolding is_some
absent none t = refl
absent (some a) t = absurd t

-- what may be created doesn't exist
pub fresh : (th : Population) (x : ℕ) → T (may_create th x) → th.thing x ≡ none
unfolding may_create
fresh th x t = absent _ (and_left (not (is_some (th.thing x))) _ t)

-- [x, y] exists: x is a subject, and y a thing
pub record Cell (s : Head) (p : State) (x y : ℕ) : Type 0 where
  pub row : Thing
  pub row_is : p.things.thing x ≡ some row
  pub subject : T (is_subject s row.type)
  pub column : T (is_some (p.things.thing y))

pub record Stands {M : Type 0} (s : Head) (view : View M) (R : M → State → Type 0) : Type 0 where
  pub thing : (m : M) (p : State) → R m p → (x : ℕ) → view.thing m x ≡ p.things.thing x
  pub cell : (m : M) (p : State) → R m p → (x y : ℕ) → Cell s p x y → view.cell m x y ≡ p.rights x y
  pub may_create : (m : M) (p : State) → R m p → (x : ℕ) → view.may_create m x ≡ papers.may_create p x
  pub full : (m : M) (p : State) → R m p → view.full m ≡ papers.full p
  pub enter : (m : M) (p : State) → R m p → (r : Right) (x y : ℕ) → r.0 < s.rights → Cell s p x y →
      R (view.enter r x y m) (papers.enter r x y p)
  pub delete : (m : M) (p : State) → R m p → (r : Right) (x y : ℕ) → r.0 < s.rights → Cell s p x y →
      R (view.delete r x y m) (papers.delete r x y p)
  pub create : (m : M) (p : State) → R m p → (x : ℕ) (t : ThingType) → T (is_id x) → t.0 < s.types → T (papers.may_create p x) →
      papers.full p ≡ false → R (view.create x t m) (papers.create x t p)
  pub destroy : (m : M) (p : State) → R m p → (x : ℕ) → T (is_some (p.things.thing x)) → R (view.destroy x m) (papers.destroy x p)

-- both carried out and related, or both refused with the same number
abbrev pub Agree : {M : Type 0} → (M → State → Type 0) → Outcome M → Outcome State → Type 0
Agree R (done m) (done p) = R m p
Agree R (done m) (refused k) = ⊥
Agree R (refused j) (done p) = ⊥
Agree R (refused j) (refused k) = j ≡ k
