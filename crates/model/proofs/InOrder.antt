-- The order of faults, and all or nothing: the promise `InOrder`, in any form of a matrix.
-- Assumes nothing.
use Prim.Native.Nat.{ℕ, zero, suc, ◌+◌, ◌<◌}
use native.Mathlib.Nat.{not-suc-le-zero, le_of_suc-le-suc, zero-add, add-zero, add-suc, suc-add}
use native.Mathlib.Omega.{arith}
use mathlib.Core.Path.{◌≡◌, refl}
use mathlib.Core.Logic.{◌≢◌}
use mathlib.Core.Bool.{true, false}
use mathlib.Core.Option.{none, some}
use mathlib.Core.List.{List, [], ◌∷◌, ◌++◌}
use lib.Dec.{T}
use lib.ListN.{length, get_or}
use Rattle.rights.specs.Numberings.{parameter, same_type}
use Rattle.rights.specs.declared.ThingType.{ThingType}
use Rattle.laws.specs.Check.{◌or_else◌, must}
use Rattle.laws.proofs.Bools.{is_true}
use Rattle.model.specs.Scheme.{is_new, no_type}
use Rattle.model.specs.Request.{Thing, is_id, View, at, Outcome, done, refused, answer, number, after, and_then, type_fault, place_fault, places_fault, operate, operate_all}
use Rattle.model.specs.Promises.{InOrder}
use Rattle.model.specs.declared.Operation.{Operation}
use Rattle.model.specs.declared.Refusal.{Refusal}

module _ {M : Type 0} (view : View M) where
  -- from place p on
  first_from : (m : M) (os : List Operation) (p : ℕ) (ts : List ThingType) (ids : List ℕ) (i : ℕ) (k : Refusal) → length ids ≡ length ts → i < length ts →
      ((j : ℕ) → j < i → place_fault view m (is_new os (parameter (p + j))) (get_or ts j no_type) (get_or ids j 0) ≡ none) →
      place_fault view m (is_new os (parameter (p + i))) (get_or ts i no_type) (get_or ids i 0) ≡ some k → places_fault view m os p ts ids ≡ some k
  unfolding places_fault ◌or_else◌
  first_from m os p [] ids i k l h pass e = absurd (not-suc-le-zero h)
  first_from m os p (t ∷ ts) [] i k l h pass e = absurd (omega arith)
  first_from m os p (t ∷ ts) (x ∷ ids) zero k l h pass e =
      let f : place_fault view m (is_new os (parameter p)) t x ≡ some k = rw add-zero at e in rw f
  first_from m os p (t ∷ ts) (x ∷ ids) (suc i) k l h pass e =
      let f : place_fault view m (is_new os (parameter p)) t x ≡ none = rw add-zero at (pass 0 (omega arith)) in
      rw f
      (first_from m os (suc p) ts ids i k (omega arith) (le_of_suc-le-suc h)
      (λ j lj. rw (suc-add p j) (rw (add-suc p j) at (pass (suc j) (omega arith))))
      (rw (suc-add p i) (rw (add-suc p i) at e)))

  whole : (ts : List ThingType) (ids : List ℕ) (p : ℕ) (before : List Operation) (o : Operation) (later : List Operation) (m next : M) (k : Refusal) →
      operate_all view ts ids p before m ≡ done next → operate view ts ids (p + length before) o next ≡ refused k →
      operate_all view ts ids p (before ++ o ∷ later) m ≡ refused k
  unfolding operate_all and_then
  whole ts ids p [] o later m next k d e = let f : m ≡ next = cc in rw f (rw (rw (add-zero p) at e))
  whole ts ids p (b ∷ before) o later m next k d e =
      go (operate view ts ids p b m) d (λ n f. whole ts ids (suc p) before o later n next k f (rw (suc-add p (length before)) (rw (add-suc p (length before)) at e)))
    where
      go : (r : Outcome M) → and_then r (operate_all view ts ids (suc p) before) ≡ done next →
          ((n : M) → operate_all view ts ids (suc p) before n ≡ done next → operate_all view ts ids (suc p) (before ++ o ∷ later) n ≡ refused k) →
          and_then r (operate_all view ts ids (suc p) (before ++ o ∷ later)) ≡ refused k
      go (done n) f again = again n f
      go (refused j) f again = cc

  none_left : (m : M) (o : Outcome M) → number (answer o) ≢ 0 → after m o ≡ m
  unfolding answer number after
  none_left m (done n) h = absurd (h refl)
  none_left m (refused k) h = refl

  module _ (m : M) (t : ThingType) (x : ℕ) (id : T (is_id x)) where
    new_unasked_lem : place_fault view m true t x ≡ none
    unfolding place_fault must ◌or_else◌
    new_unasked_lem = rw (is_true (is_id x) id)

    module _ (u : Thing) (there : view.thing m x ≡ some u) where
      type_first_lem : same_type u.type t ≡ false → place_fault view m false t x ≡ some (at 13 0)
      unfolding place_fault type_fault must ◌or_else◌
      type_first_lem e = rw (is_true (is_id x) id, there, e)

      then_mark_lem : same_type u.type t ≡ true → u.on_hold ≡ true → place_fault view m false t x ≡ some (at 18 0)
      unfolding place_fault type_fault must ◌or_else◌
      then_mark_lem e on = rw (is_true (is_id x) id, there, e, on)

  pub in_order : InOrder view
  in_order = record {
    type_first = λ m t x u id there. type_first_lem m t x id u there;
    then_mark = λ m t x u id there. then_mark_lem m t x id u there;
    new_unasked = new_unasked_lem;
    first_place = λ m os ts ids i k l h pass e.
        first_from m os 0 ts ids i k l h (λ j lj. rw zero-add (pass j lj)) (rw zero-add e);
    whole_refused = whole;
    no_effect = none_left;
  }
