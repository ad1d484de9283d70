-- Two readings of one input side by side, where the first takes no record of kind 8: either they are the same, and what they give is plain; or the first stops
-- at such a record, and whatever the second gives is marked. A law for each way to put readers together, so that it follows line by line. Assumes nothing.
use Prim.Native.Nat.{ℕ, zero, suc}
use mathlib.Core.Logic.{◌⊎◌, inl, inr}
use mathlib.Core.List.{List}
use mathlib.Core.Path.{◌≡◌, refl, sym, ap, subst}
use lib.ListN.{length}
use Rattle.records.specs.Reading.{Read, got, fault, Reader, bind, steps}
use Rattle.records.specs.Front.{Refusal}
use Rattle.records.proofs.Trip.{never, got_value, bind_got}
use Rattle.matrix_records.specs.Answers.{kind_at}

-- ---- what holds of whatever a reading gives
module _ {I F A : Type 0} where
  abbrev pub Gives : (A → Type 0) → Read I F A → Type 0
  Gives P r = (a : A) (i : I) → r ≡ got a i → P a

  pub gives_done : (P : A → Type 0) {a : A} {i : I} → P a → Gives P (got a i)
  gives_done P p b j e = subst P (got_value e) p

module _ {I F A B : Type 0} {Q : B → Type 0} (r : Read I F A) (f : A → Reader I F B) where
  pub gives_then : {P : A → Type 0} → Gives P r → ((a : A) (i : I) → P a → Gives Q (f a i)) → Gives Q (bind r f)
  gives_then p q b j e = let (a, i, e1, f1) = bind_got r f e in q a i (p a i e1) b j f1

  -- whatever came before
  pub gives_last : ((a : A) (i : I) → Gives Q (f a i)) → Gives Q (bind r f)
  gives_last q b j e = let (a, i, e1, f1) = bind_got r f e in q a i b j f1

-- so many as were to be read
pub gives_many : {I F A S : Type 0} (p : S → Reader I F A) (next : S → A → S) (n : ℕ) (st : S) (i : I) →
    Gives (λ xs. length xs ≡ n) (steps p next n st i)
gives_many p next zero st i = gives_done (λ xs. length xs ≡ 0) refl
gives_many p next (suc n) st i =
    gives_last (p st i) _ λ a j.
    gives_then (steps p next n (next st a) j) _ (gives_many p next n (next st a) j) λ xs k e. gives_done (λ ys. length ys ≡ suc n) (ap suc e)

-- ---- side by side
module _ {A : Type 0} (s : List ℕ) where
  abbrev pub Stops : Read ℕ Refusal A → Type 0
  Stops r = (at : ℕ) × (r ≡ fault (record { number = 2; at = at })) × (kind_at s at ≡ 8)

  abbrev pub Beside : (A → Type 0) → (A → Type 0) → Read ℕ Refusal A → Read ℕ Refusal A → Type 0
  Beside Plain Marked r q = ((r ≡ q) × Gives Plain q) ⊎ (Stops r × Gives Marked q)

module _ {A B : Type 0} (s : List ℕ) {Plain Marked : A → Type 0} {PlainAll MarkedAll : B → Type 0}
    (r q : Read ℕ Refusal A) (f g : A → Reader ℕ Refusal B) where
  pub beside_then : Beside s Plain Marked r q → ((a : A) (i : ℕ) → q ≡ got a i → Plain a → Beside s PlainAll MarkedAll (f a i) (g a i)) →
      ((a : A) (i : ℕ) → q ≡ got a i → Marked a → Gives MarkedAll (g a i)) → Beside s PlainAll MarkedAll (bind r f) (bind q g)
  beside_then (inl b) plain marked = subst (λ (x : Read ℕ Refusal A). Beside s PlainAll MarkedAll (bind x f) (bind q g)) (sym b.0) (go q refl)
    where
      go : (x : Read ℕ Refusal A) → q ≡ x → Beside s PlainAll MarkedAll (bind x f) (bind x g)
      go (got a i) e = plain a i e (b.1 a i e)
      go (fault k) e = inl (refl, λ a i e. never e)
  beside_then (inr b) plain marked =
      let (at, stop, is) = b.0 in
      inr ((at, rw stop, is), λ c j e. let (a, i, e1, f1) = bind_got q g e in marked a i e1 (b.1 a i e1) c j f1)
