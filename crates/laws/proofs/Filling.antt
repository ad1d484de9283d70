-- An array stored to place by place, from its start: what holds after j places, once for tests, operations, commands and cells.
-- Assumes nothing.
use Prim.Native.Nat.{ℕ, ◌+◌, ◌-◌, ◌≤◌, ◌<◌}
use native.Mathlib.Omega.{arith}
use native.Mathlib.Numerals.{add-one}
use mathlib.Core.Path.{◌≡◌, refl, sym, ap, ◌∙◌}
use mathlib.Core.Bool.{Bool}
use mathlib.Core.List.{List, ◌∷◌, ◌++◌, map, append_assoc}
use lib.Dec.{T}
use lib.ListN.{length, take, drop, set, get_or, replicate, get_or-append, get_or-map}
use lib.ListN.{length-append, length-take, length-drop, length-map, length-replicate, take-append-drop, drop_of_length-le}
use lib.Seq.{length-take-le, take-suc, take-add, drop-cons, drop-drop, append_snoc, set_at, get_or_at, get_or-take, take_at, drop_at}
use Rattle.laws.specs.Check.{padded}
use Rattle.laws.proofs.Padded.{Zero, unpad}

-- the first j places are the new array's, the others still the old one's
pub record Filling {A : Type 0} (new old array : List A) (j : ℕ) : Type 0 where
  pub long : length new ≡ length old
  pub mixed : array ≡ take j new ++ drop j old

module _ {A : Type 0} where
  pub begin : (new old : List A) → length new ≡ length old → Filling new old old 0
  begin new old e = record { long = e; mixed = refl }

  module _ {new old array : List A} {j : ℕ} (v : Filling new old array j) where
    next : (d : A) → j < length old → take j new ++ get_or new j d ∷ drop (j + 1) old ≡ take (j + 1) new ++ drop (j + 1) old
    next d h = let k : j < length new = omega (arith, v.long) in rw (add-one j, take-suc new j d k, append_snoc)

    before : (d : A) → j < length old → array ≡ take j new ++ get_or old j d ∷ drop (j + 1) old
    before d h = v.mixed ∙ rw (add-one j, drop-cons old j d h)

    front : j ≤ length old → length (take j new) ≡ j
    front h = length-take-le j new (omega (arith, v.long))

    pub there : (d : A) → j < length old → get_or array j d ≡ get_or old j d
    there d h = rw (before d h) (get_or_at (take j new) (get_or old j d) (drop (j + 1) old) d j (front (omega arith)))

    pub on : (d x : A) → j < length old → x ≡ get_or new j d → Filling new old (set array j x) (j + 1)
    on d x h e =
        record {
          long = v.long;
          mixed = rw (before d h, set_at (take j new) (get_or old j d) (drop (j + 1) old) x j (front (omega arith)), e) (next d h);
        }

    -- a place where nothing has to change
    pub past : (d : A) → j < length old → get_or array j d ≡ get_or new j d → Filling new old array (j + 1)
    past d h e =
        record { long = v.long; mixed = before d h ∙ ap (λ x. take j new ++ x ∷ drop (j + 1) old) (sym (there d h) ∙ e) ∙ next d h }

    filled : j ≤ length old → take j array ≡ take j new
    filled h = rw v.mixed (take_at (take j new) (drop j old) j (front h))

    pub unfilled : j ≤ length old → drop j array ≡ drop j old
    unfilled h = rw v.mixed (drop_at (take j new) (drop j old) j (front h))

    -- m places at once, as a part that was lent comes back
    pub part : (m : ℕ) (xs : List A) → j ≤ length old → xs ≡ take m (drop j new) →
        Filling new old (take j array ++ (xs ++ drop m (drop j array))) (j + m)
    part m xs h e =
        record { long = v.long; mixed = rw (filled h, unfilled h, e, take-add j m new, drop-drop m j old, append_assoc) }

    pub all_in : drop j new ≡ drop j old → array ≡ new
    all_in e = v.mixed ∙ rw (← e) (take-append-drop j new)

    pub all_over : length old ≤ j → array ≡ new
    all_over h = all_in (drop_of_length-le new {i = j} (omega (arith, v.long)) ∙ sym (drop_of_length-le old {i = j} h))

    pub kept : length array ≡ length old
    kept = rw v.mixed (simp (length-append, length-take, length-drop) (omega (arith, v.long)))

-- ---- an array with zeros behind its used places, each of which is changed by f
module _ {A : Type 0} (f : A → A) {zero? : A → Bool} {blank : A} (z : Zero zero? blank) (many count : ℕ) (l : List A)
    (p : T (padded zero? many count l)) (h : count ≤ many) where
  abbrev pub changed : List A
  changed = map f (take count l) ++ replicate (many - length (map f (take count l))) blank

  pub changed_used : length (map f (take count l)) ≡ count
  changed_used = length-map (take count l) f ∙ (unpad z many count l p h).0

  changed_long : length changed ≡ length l
  changed_long =
      let (n, e) = unpad z many count l p h in
      simp (length-append, length-replicate, changed_used) (rw e (simp (length-append, length-replicate, n)))

  pub changed_begin : Filling changed l l 0
  changed_begin = begin changed l changed_long

  changed_at : (d : A) (j : ℕ) → j < count → get_or changed j (f d) ≡ f (get_or l j d)
  changed_at d j k =
      get_or-append (map f (take count l)) _ (f d) j (omega (arith, changed_used))
      ∙ get_or-map f (take count l) j d ∙ ap f (get_or-take count l j d k)

  pub changed_on : {array : List A} {j : ℕ} → Filling changed l array j → (d x : A) → j < count → x ≡ f (get_or l j d) →
      Filling changed l (set array j x) (j + 1)
  changed_on v d x k e =
      let u : length (take count l) ≡ count = (unpad z many count l p h).0 in
      on v (f d) x (omega (arith, u, length-take count l)) (e ∙ sym (changed_at d _ k))

  changed_end : drop count changed ≡ drop count l
  changed_end =
      let (n, e) = unpad z many count l p h in
      drop_at (map f (take count l)) _ count changed_used ∙ sym (ap (drop count) e ∙ drop_at (take count l) _ count n ∙ rw (n, changed_used))

  pub changed_all : {array : List A} {j : ℕ} → Filling changed l array j → j ≡ count → array ≡ changed
  changed_all v e = all_in v (rw e changed_end)
