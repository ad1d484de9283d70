-- Laws of sums: over a list, place by place and row by row; and over all ids up to a number, which comes to the sum over the
-- seats. `sum_ids` is opened only over a general number of ids, never at 65535: that would take 65535 steps. Assumes nothing.
use Prim.Native.Nat.{ℕ, zero, suc, ◌+◌, ◌*◌, ◌^◌, ◌≤◌, ◌<◌}
use mathlib.Core.Path.{◌≡◌, refl, sym, ap, ◌∙◌}
use mathlib.Core.Logic.{◌≢◌}
use mathlib.Core.Bool.{Bool, true, false, not, cond, ◌||◌}
use mathlib.Core.List.{List, [], ◌∷◌, ◌++◌}
use native.Mathlib.Decide.{ℕ_discrete}
use native.Mathlib.Nat.{zero-add, add_assoc, zero-mul}
use native.Mathlib.Omega.{arith}
use lib.Dec.{T, eqb}
use lib.ListN.{length, take, drop, get_or, length-drop, take-append-drop}
use lib.Seq.{drop-drop}
use Rattle.std.specs.Prelude.{nat_eq, sum_by, count_by}
use Rattle.std.proofs.lemmas.List.Recursion.{is_sum_by, is_count_by}
use Rattle.std.proofs.lemmas.List.Sums.{sum_by-le}
use borrow.Author.Tests.{eq-eqb, eqb-true, eqb-false}
use Rattle.rights.specs.Sets.{has, count_to, count_rights}
use Rattle.rights.proofs.Digits.{has_zero}
use Rattle.model.specs.Papers.{count_ids}
use Rattle.model.specs.Seats.{Matrix, among, known}
use Rattle.model.specs.Accepted.{apart, accepted_matrix}
use Rattle.model.specs.declared.Head.{Head}
use Rattle.model.specs.declared.Things.{Things}
use Rattle.laws.proofs.Bools.{from_true, is_false, and_right, eqb_not, one_mono}
use Rattle.model.proofs.HeldLaws.{held, first_apart}
use Rattle.totals.specs.Totals.{sum_ids, filled, sum_of}

-- ---- what is counted of one cell

pub filled_none : (x : ℕ) → x ≡ 0 → filled x ≡ 0
unfolding filled
filled_none x e = rw e

count_none : (k : ℕ) → count_to k 0 ≡ 0
unfolding count_to
count_none zero = refl
count_none (suc k) = rw (count_none k, has_zero k)

pub rights_none : count_rights 0 ≡ 0
unfolding count_rights
rights_none = count_none 64

count_le : (k set : ℕ) → count_to k set ≤ k
unfolding count_to
count_le zero set = omega arith
count_le (suc k) set = omega (arith, count_le k set, one_mono (has set k) true (λ t. tt))

pub rights_le : (set : ℕ) → count_rights set ≤ 64
unfolding count_rights
rights_le set = count_le 64 set

-- ---- what the functions count: the sum over a list, in std's words; of an accepted matrix it fits
summed : (f : ℕ → ℕ) (xs : List ℕ) → sum_of f xs ≡ sum_by f xs
unfolding sum_of
summed f xs = is_sum_by (sum_of f) f refl (λ y ys. refl) xs

counted : (xs : List ℕ) → sum_of filled xs ≡ count_by (λ x. not (nat_eq x 0)) xs
unfolding sum_of filled
counted xs = is_count_by (sum_of filled) (λ x. not (nat_eq x 0)) refl (λ y ys. one (nat_eq y 0) (sum_of filled ys)) xs
  where
    one : (b : Bool) (n : ℕ) → cond b 0 1 + n ≡ cond (not b) (1 + n) n
    one true n = omega arith
    one false n = refl

pub is_counted : (n : ℕ) (xs : List ℕ) → n ≡ count_by (λ x. not (nat_eq x 0)) xs → n ≡ sum_of filled xs
is_counted n xs e = e ∙ sym (counted xs)

pub is_summed : (f : ℕ → ℕ) (n : ℕ) (xs : List ℕ) → n ≡ sum_by f xs → n ≡ sum_of f xs
is_summed f n xs e = e ∙ sym (summed f xs)

pub cells_room : (s : Head) (m : Matrix) → true ≡ accepted_matrix s m → length m.cells ≡ 2304
cells_room s m e = (held s m (from_true (sym e))).cells.room

pub rights_fit : (xs : List ℕ) → length xs ≡ 2304 → sum_by count_rights xs < 2 ^ 32
rights_fit xs e = omega (arith, sum_by-le count_rights 64 xs (λ k d h. rights_le (get_or xs k d)))

-- ---- two lists whose elements give the same, place by place; and one against the rows of another
module _ (f : ℕ → ℕ) where
  sum_append : (xs ys : List ℕ) → sum_of f (xs ++ ys) ≡ sum_of f xs + sum_of f ys
  unfolding sum_of
  sum_append [] ys = sym (zero-add (sum_of f ys))
  sum_append (x ∷ xs) ys = rw (sum_append xs ys) (sym (add_assoc (f x) (sum_of f xs) (sum_of f ys)))

  module _ (g : ℕ → ℕ) where
    pub sum_along : (xs ys : List ℕ) → length xs ≡ length ys → ((i : ℕ) → i < length xs → g (get_or xs i 0) ≡ f (get_or ys i 0))
        → sum_of g xs ≡ sum_of f ys
    unfolding sum_of
    sum_along [] [] e h = refl
    sum_along [] (y ∷ ys) e h = absurd (omega arith)
    sum_along (x ∷ xs) [] e h = absurd (omega arith)
    sum_along (x ∷ xs) (y ∷ ys) e h = rw (h zero (omega arith), sum_along xs ys (omega arith) (λ i l. h (suc i) (omega arith)))

    pub sum_rows : (w : ℕ) (xs ys : List ℕ) → length ys ≡ length xs * w
        → ((i : ℕ) → i < length xs → g (get_or xs i 0) ≡ sum_of f (take w (drop (i * w) ys))) → sum_of g xs ≡ sum_of f ys
    unfolding sum_of
    sum_rows w [] [] e h = refl
    sum_rows w [] (y ∷ ys) e h = absurd (omega arith)
    sum_rows w (x ∷ xs) ys e h =
        let rest : length (drop w ys) ≡ length xs * w = omega (arith, length-drop w ys) in
        let next : (i : ℕ) → i < length xs → g (get_or xs i 0) ≡ sum_of f (take w (drop (i * w) (drop w ys))) =
        λ i l. let q : suc i * w ≡ w + i * w = omega arith in h (suc i) (omega arith) ∙ rw (q, drop-drop (i * w) w ys) in
        rw (h zero (omega arith), sum_rows w xs (drop w ys) rest next, zero-mul w)
        (sym (sum_append (take w ys) (drop w ys)) ∙ ap (sum_of f) (take-append-drop w ys))

-- ---- over the ids from 1 to k

pub sum_same : (k : ℕ) (f g : ℕ → ℕ) → ((x : ℕ) → 1 ≤ x → x ≤ k → f x ≡ g x) → sum_ids k f ≡ sum_ids k g
unfolding sum_ids
sum_same zero f g h = refl
sum_same (suc k) f g h = rw (sum_same k f g (λ x a b. h x a (omega arith)), h (suc k) (omega arith) (omega arith))

pub sum_none : (k : ℕ) → sum_ids k (λ x. 0) ≡ 0
unfolding sum_ids
sum_none zero = refl
sum_none (suc k) = rw (sum_none k)

pub count_sum : (k : ℕ) (f : ℕ → Bool) → count_ids k f ≡ sum_ids k (λ x. cond (f x) 1 0)
unfolding count_ids sum_ids
count_sum zero f = refl
count_sum (suc k) f = rw (count_sum k f)

-- two functions that differ at y at most, where the first is 0
sum_gain : (f g : ℕ → ℕ) (y : ℕ) → ((x : ℕ) → x ≢ y → f x ≡ g x) → f y ≡ 0 → (k : ℕ) → 1 ≤ y → y ≤ k → sum_ids k g ≡ g y + sum_ids k f
unfolding sum_ids
sum_gain f g y same e zero a b = absurd (omega arith)
sum_gain f g y same e (suc k) a b = go (ℕ_discrete (suc k) y) (λ h. sum_gain f g y same e k a h)
  where
    go : Dec (suc k ≡ y) → (y ≤ k → sum_ids k g ≡ g y + sum_ids k f) → sum_ids k g + g (suc k) ≡ g y + (sum_ids k f + f (suc k))
    go (yes q) h = rw (q, e) (omega (arith, sum_same k f g (λ x c d. same x (λ z. omega arith))))
    go (no n) h = omega (arith, h (omega arith), same (suc k) n)

module _ (k : ℕ) (g : ℕ → ℕ) where
  sum_among : g 0 ≡ 0 → (xs : List ℕ) → ((i : ℕ) → get_or xs i 0 ≤ k) → T (apart xs) → sum_ids k (λ z. cond (among xs z) (g z) 0) ≡ sum_of g xs
  unfolding among apart sum_of
  sum_among e [] h t = sum_none k
  sum_among e (x ∷ xs) h t = go (eqb x 0) refl (sum_among e xs (λ i. h (suc i)) (and_right (eqb x 0 || not (among xs x)) (apart xs) t))
    where
      go : (b : Bool) → eqb x 0 ≡ b → sum_ids k (λ z. cond (among xs z) (g z) 0) ≡ sum_of g xs →
          sum_ids k (λ z. cond (eqb x z || among xs z) (g z) 0) ≡ g x + sum_of g xs
      go true q r =
          let z : x ≡ 0 = eqb-true x 0 q in
          sum_same k _ _ (λ y a b. rw (eqb_not x y (λ p. omega arith))) ∙ r ∙ rw (z, e) (sym (zero-add (sum_of g xs)))
      go false q r =
          let nz : x ≢ 0 = eqb-false x 0 q in
          sum_gain (λ z. cond (among xs z) (g z) 0) (λ z. cond (eqb x z || among xs z) (g z) 0) x (λ y n. rw (eqb_not x y (λ p. n (sym p))))
          (rw (is_false (among xs x) (first_apart x xs t nz))) k (omega arith) (h zero)
          ∙ rw (eq-eqb x x refl, r)

  -- where only a thing's id gives more than 0, the sum over all ids is the one over the seats
  pub sum_ids_lem : (th : Things) → ((i : ℕ) → get_or th.ids i 0 ≤ k) → T (apart th.ids) → ((x : ℕ) → known th x ≡ false → g x ≡ 0) →
      sum_ids k g ≡ sum_of g th.ids
  unfolding known
  sum_ids_lem th small t none =
      sum_same k _ _ (λ x a b. go x (omega arith) (among th.ids x) refl) ∙ sum_among (none 0 refl) th.ids small t
    where
      go : (x : ℕ) → x ≢ 0 → (b : Bool) → among th.ids x ≡ b → g x ≡ cond b (g x) 0
      go x nz true e = refl
      go x nz false e = none x (rw (eqb_not x 0 nz, e))
