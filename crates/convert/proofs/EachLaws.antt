-- A list's used places, each changed where it stands, with the zeros behind them.
-- Assumes nothing.
use Prim.Native.Nat.{ℕ, ◌+◌, ◌≤◌, ◌<◌}
use native.Mathlib.Omega.{arith}
use mathlib.Core.Path.{◌≡◌, sym, ap, ◌∙◌}
use mathlib.Core.Bool.{Bool}
use mathlib.Core.List.{List, ◌++◌}
use lib.Dec.{T}
use lib.ListN.{length, take, drop, set, get_or, get_or-append, length-set, length-take, take-append-drop}
use Rattle.std.proofs.lemmas.List.{set-append_left}
use Rattle.laws.specs.Check.{padded}
use Rattle.laws.proofs.Padded.{Zero, unpad}
use Rattle.laws.proofs.Filling.{Filling, there, changed, changed_begin, changed_on, changed_all}

-- those in use, after j turns
pub record Changing {A : Type 0} (new l items : List A) (count j : ℕ) : Type 0 where
  pub long : length items ≡ count
  pub part : Filling new l (items ++ drop count l) j

module _ {A : Type 0} (f : A → A) {zero? : A → Bool} {blank : A} (z : Zero zero? blank) (many count : ℕ) (l : List A)
    (p : T (padded zero? many count l)) (h : count ≤ many) where
  in_use : length (take count l) ≡ count
  in_use = (unpad z many count l p h).0

  pub each_begin : Changing (changed f z many count l p h) l (take count l) count 0
  each_begin =
      record { long = in_use; part = rw (take-append-drop count l) (changed_begin f z many count l p h) }

  module _ {items : List A} {j : ℕ} (v : Changing (changed f z many count l p h) l items count j) where
    pub each_there : (d : A) → j < count → get_or items j d ≡ get_or l j d
    each_there d k =
        sym (get_or-append items (drop count l) d j (omega (arith, v.long))) ∙ there v.part d (omega (arith, in_use, length-take count l))

    pub each_on : (d x : A) → j < count → x ≡ f (get_or items j d) → Changing (changed f z many count l p h) l (set items j x) count (j + 1)
    each_on d x k e =
        let i : j < length items = omega (arith, v.long) in
        record {
          long = length-set items j x ∙ v.long;
          part = rw (← (set-append_left items (drop count l) j x i)) (changed_on f z many count l p h v.part d x k (e ∙ ap f (each_there d k)));
        }

    pub each_all : j ≡ count → items ++ drop count l ≡ changed f z many count l p h
    each_all e = changed_all f z many count l p h v.part e
