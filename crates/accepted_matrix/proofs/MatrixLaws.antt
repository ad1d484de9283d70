-- What each turn of a loop over a matrix's seats or places decides, and what is left at the end. Over plain lists and numbers, so that a
-- function's proof names few places of its context. Assumes nothing.
use Prim.Native.Nat.{ℕ, zero, suc, ◌+◌, ◌-◌, ◌/◌, ◌%◌, ◌^◌, ◌≤◌, ◌<◌}
use mathlib.Core.Path.{◌≡◌, refl, sym, ◌∙◌}
use mathlib.Core.Logic.{◌≢◌}
use mathlib.Core.Bool.{Bool, true, false, not, cond, ◌&&◌, ◌||◌, and-true, and_assoc}
use mathlib.Core.List.{List, [], ◌∷◌}
use native.Mathlib.Nat.{not-suc-le-zero, le_of_suc-le-suc}
use native.Mathlib.Numerals.{add-one}
use native.Mathlib.Omega.{arith}
use lib.Dec.{T, eqb, eqb_refl, not_T}
use lib.ListN.{length, get_or}
use lib.Seq.{take_all}
use lib.Pow.{pow_pos}
use borrow.Author.Tests.{lt-ltb, eqb-true, eqb-false, ne_eqb}
use Rattle.rights.specs.Sets.{within}
use Rattle.laws.proofs.Bools.{is_true, is_false, and_right, and_both}
use Rattle.laws.proofs.Walks.{Walk, start, on, end, long}
use Rattle.model.specs.Seats.{among, find, thing_in}
use Rattle.model.specs.Accepted.{apart, accepted_seat, all_from, standing, accepted_places}
use Rattle.model.specs.declared.Head.{Head}
use Rattle.model.specs.declared.Things.{Things}
use Rattle.model.proofs.Find.{find_lt, find_is, among_get}
use Rattle.model.proofs.HeldLaws.{first_apart}

-- ---- an array of structs stands in what is known as `map` of its elements
pub ruleset arrays = long

-- ---- the ids: no two are one exactly if each that isn't 0 is found at its own seat
abbrev pub Once : List ℕ → ℕ → Type 0
Once ids i = get_or ids i 0 ≢ 0 → find ids (get_or ids i 0) ≡ i

pub apart_once : (ids : List ℕ) → T (apart ids) → (i : ℕ) → i < length ids → Once ids i
unfolding apart find
apart_once [] t i h n = absurd (not-suc-le-zero h)
apart_once (x ∷ xs) t zero h n = rw (is_true (eqb x x) (eqb_refl x))
apart_once (x ∷ xs) t (suc i) h n =
    go (eqb x (get_or xs i 0)) refl (apart_once xs (and_right (eqb x 0 || not (among xs x)) (apart xs) t) i (le_of_suc-le-suc h) n)
  where
    go : (b : Bool) → eqb x (get_or xs i 0) ≡ b → find xs (get_or xs i 0) ≡ i → cond b zero (suc (find xs (get_or xs i 0))) ≡ suc i
    go true e k =
        let s : x ≡ get_or xs i 0 = eqb-true x (get_or xs i 0) e in
        absurd (first_apart x xs t (λ z. n (sym s ∙ z)) (rw s (among_get xs i (le_of_suc-le-suc h))))
    go false e k = omega arith

pub once_apart : (ids : List ℕ) → ((i : ℕ) → i < length ids → Once ids i) → T (apart ids)
unfolding apart find
once_apart [] f = tt
once_apart (x ∷ xs) f =
    and_both (eqb x 0 || not (among xs x)) (apart xs) (first (eqb x 0) refl)
    (once_apart xs (λ i h n. later i (eqb x (get_or xs i 0)) (f (suc i) (omega arith) n)))
  where
    first : (b : Bool) → eqb x 0 ≡ b → T (b || not (among xs x))
    first true e = tt
    first false e = not_T (among xs x) (λ t.
        let at : get_or xs (find xs x) 0 ≡ x = find_is xs x t in
        let own : cond (eqb x x) zero (suc (find xs x)) ≡ suc (find xs x) =
        rw at at (f (suc (find xs x)) (omega (arith, find_lt xs x t)) (λ z. eqb-false x 0 e (sym at ∙ z))) in
        let no : zero ≡ suc (find xs x) = rw (is_true (eqb x x) (eqb_refl x)) at own in
        omega arith)

    later : (i : ℕ) (b : Bool) → cond b zero (suc (find xs (get_or xs i 0))) ≡ suc i → find xs (get_or xs i 0) ≡ i
    later i true e = absurd (omega arith)
    later i false e = omega arith

-- the seats up to i
abbrev pub OnceTo : List ℕ → ℕ → Type 0
OnceTo ids i = (j : ℕ) → j < i → Once ids j

module _ (ids : List ℕ) (i : ℕ) where
  module _ (full : length ids ≡ 48) where
    pub once_out : i < 48 → get_or ids i 0 ≢ 0 → find ids (get_or ids i 0) ≢ i → false ≡ apart ids
    once_out h n m = sym (is_false (apart ids) (λ t. m (apart_once ids t i (omega arith) n)))

    pub once_end : OnceTo ids i → 48 ≤ i → true ≡ apart ids
    once_end f h = sym (is_true (apart ids) (once_apart ids (λ j l. f j (omega arith))))

-- ---- the seats, with the answer so far
abbrev pub seat_fine : Head → Things → ℕ → Bool
seat_fine h th i = accepted_seat h th (get_or th.ids i 0) (thing_in th i)

pub record Seats (f : ℕ → Bool) (b : Bool) (i : ℕ) : Type 0 where
  pub left : (b && all_from f i (48 - i)) ≡ all_from f 0 48

module _ (f : ℕ → Bool) where
  pub seats_start : Seats f true 0
  seats_start = record { left = refl }

  module _ {b : Bool} {i : ℕ} (s : Seats f b i) where
    pub seats_on : (r : Bool) → i < 48 → r ≡ f i → Seats f (b && r) (i + 1)
    unfolding all_from
    seats_on r h e =
        let k : 48 - i ≡ suc (48 - (i + 1)) = omega arith in
        record { left = and_assoc b r _ ∙ rw (e, add-one i) (rw (k, add-one i) at s.left) }

    pub seats_end : 48 ≤ i → b ≡ all_from f 0 48
    unfolding all_from
    seats_end h = let k : 48 - i ≡ 0 = omega arith in sym (and-true b) ∙ (rw k at s.left)

-- ---- the places, with the answer so far
abbrev places_from : Head → Things → Bool → ℕ → List ℕ → Bool
places_from h th b k cells = b && accepted_places h th k cells

module _ (h : Head) (th : Things) (b : Bool) (k : ℕ) (cs : List ℕ) where
  -- an empty cell is fine whether or not it stands
  empty_turn : places_from h th b (k + 1) cs ≡ places_from h th b k (0 ∷ cs)
  unfolding accepted_places
  empty_turn = rw (add-one k, lt-ltb 0 (2 ^ h.rights) (pow_pos h.rights)) (either (standing h th (k / 48) (k % 48)))
    where
      either : (s : Bool) → (b && accepted_places h th (suc k) cs) ≡ (b && (cond s true true && accepted_places h th (suc k) cs))
      either true = refl
      either false = refl

  full_turn : (c : ℕ) (s w : Bool) → c ≢ 0 → s ≡ standing h th (k / 48) (k % 48) → w ≡ within h.rights c
      → places_from h th (b && s && w) (k + 1) cs ≡ places_from h th b k (c ∷ cs)
  unfolding accepted_places within
  full_turn c s w n e f = rw (ne_eqb c 0 n, ← e, ← f, add-one k) (by b s)
    where
      by : (b s : Bool) → (b && s && w && accepted_places h th (suc k) cs) ≡ (b && (cond s w false && accepted_places h th (suc k) cs))
      by true true = refl
      by true false = refl
      by false true = refl
      by false false = refl

pub record Places (h : Head) (th : Things) (cells : List ℕ) (b : Bool) (k : ℕ) : Type 0 where
  pub walk : Walk (places_from h th b) cells 2304 (accepted_places h th 0 cells) k

pub places_start : (h : Head) (th : Things) (cells : List ℕ) → length cells ≡ 2304 → Places h th cells true 0
places_start h th cells e = record { walk = start 2304 e (omega arith) (rw (take_all 2304 cells (omega arith))) }

module _ {h : Head} {th : Things} {cells : List ℕ} {b : Bool} {k : ℕ} (v : Places h th cells b k) where
  module _ (less : k < 2304) (b' : Bool) where
    pub place_empty : get_or cells k 0 ≡ 0 → b' ≡ b → Places h th cells b' (k + 1)
    place_empty e f = record { walk = on v.walk 0 less (λ cs. rw (e, f) (empty_turn h th b k cs)) }

    pub place_full : (s w : Bool) → get_or cells k 0 ≢ 0 → s ≡ standing h th (k / 48) (k % 48) → w ≡ within h.rights (get_or cells k 0)
        → b' ≡ (b && s && w) → Places h th cells b' (k + 1)
    place_full s w n e f g = record { walk = on v.walk 0 less (λ cs. rw g (full_turn h th b k cs (get_or cells k 0) s w n e f)) }

  pub places_end : 2304 ≤ k → b ≡ accepted_places h th 0 cells
  unfolding accepted_places
  places_end h = sym (and-true b) ∙ end v.walk h
