-- Laws that more than one file of these proofs cites: few rights, what holds of both cases, a list made into another and a converted list of cells, place by place.
-- Assumes nothing.
use Prim.Native.Nat.{ℕ, zero, suc, ◌+◌, ◌*◌, ◌/◌, ◌%◌, ◌≤◌, ◌<◌}
use mathlib.Core.Path.{◌≡◌, refl, ap, ◌∙◌}
use mathlib.Core.Bool.{Bool, true, false, cond}
use mathlib.Core.Option
use mathlib.Core.List.{List, [], ◌∷◌, map}
use native.Mathlib.Nat.{add-zero, add-suc, suc-add, zero-add, not-suc-le-zero, le_of_suc-le-suc}
use native.Mathlib.Omega.{arith}
use lib.Dec.{T, leb→le}
use lib.ListN.{length, get_or, get_elem?}
use Rattle.rights.specs.Sets.{converted}
use Rattle.model.specs.Accepted.{standing}
use Rattle.model.specs.declared.Head.{Head}
use Rattle.model.specs.declared.Scheme.{Scheme}
use Rattle.model.specs.declared.Things.{Things}
use Rattle.laws.proofs.Bools.{must_pass, first_pass, then_pass}
use Rattle.conversion.specs.Conversion.{conversion_fault, convertible, convert_cells}

-- ---- a scheme that can be converted

pub few_rights : (s : Scheme) → T (convertible s) → s.head.rights ≤ 32
unfolding convertible conversion_fault
few_rights s t = leb→le _ 32 (search (first_pass, then_pass, must_pass))

-- what holds of both cases holds of either
pub by_cond : {A : Type 0} (P : A → Type 0) (b : Bool) (u v : A) → (T b → P u) → P v → P (cond b u v)
by_cond P true u v f p = f tt
by_cond P false u v f p = p

-- ---- a list's elements, each made into another

pub get_map : {A B : Type 0} (f : A → B) (l : List A) (i : ℕ) → get_elem? (map f l) i ≡ Option.map f (get_elem? l i)
get_map f [] i = refl
get_map f (a ∷ l) zero = refl
get_map f (a ∷ l) (suc i) = get_map f l i

-- ---- cells

pub length_cells : (h : Head) (th : Things) (k : ℕ) (l : List ℕ) → length (convert_cells h th k l) ≡ length l
unfolding convert_cells
length_cells h th k [] = refl
length_cells h th k (c ∷ cs) = ap suc (length_cells h th (suc k) cs)

cells_from : (h : Head) (th : Things) (k : ℕ) (l : List ℕ) (i : ℕ) → i < length l →
    get_or (convert_cells h th k l) i 0 ≡ cond (standing h th ((k + i) / 48) ((k + i) % 48)) (converted h.rights (get_or l i 0)) (get_or l i 0)
unfolding convert_cells
cells_from h th k [] i lt = absurd (not-suc-le-zero lt)
cells_from h th k (c ∷ cs) zero lt = rw (add-zero k)
cells_from h th k (c ∷ cs) (suc i) lt = cells_from h th (suc k) cs i (le_of_suc-le-suc lt) ∙ rw (suc-add k i, add-suc k i)

pub cells_at : (h : Head) (th : Things) (l : List ℕ) (i j : ℕ) → j < 48 → i * 48 + j < length l →
    get_or (convert_cells h th 0 l) (i * 48 + j) 0 ≡ cond (standing h th i j) (converted h.rights (get_or l (i * 48 + j) 0)) (get_or l (i * 48 + j) 0)
cells_at h th l i j lj lt =
    let ei : (i * 48 + j) / 48 ≡ i = omega arith in
    let ej : (i * 48 + j) % 48 ≡ j = omega arith in
    cells_from h th 0 l (i * 48 + j) lt ∙ rw (zero-add (i * 48 + j), ei, ej)
