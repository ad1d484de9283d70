-- Enter and delete among the seats: a change of one cell stands for the papers' change of that cell.
-- Assumes nothing.
use Prim.Native.Nat.{ℕ, zero, suc, ◌+◌, ◌*◌, ◌^◌, ◌<◌}
use mathlib.Core.Path.{◌≡◌, refl, sym, ap, ◌∙◌}
use mathlib.Core.Logic.{◌≢◌}
use mathlib.Core.Bool.{Bool, true, false, cond, ◌&&◌}
use mathlib.Core.List.{List, [], ◌∷◌}
use native.Mathlib.Nat.{not-suc-le-zero, le_of_suc-le-suc}
use native.Mathlib.Omega.{arith}
use lib.Dec.{T, eqb, eqb→eq, eqb_refl}
use lib.ListN.{length, get_or, set, length-set}
use lib.Seq.{get_or-set_same, get_or-set_other}
use Rattle.laws.specs.Check.{is_some}
use Rattle.model.specs.Request.{Thing}
use Rattle.model.specs.Papers.{Population, State, change_cell}
use Rattle.model.specs.Seats.{Matrix, known, seat, thing_in, paper_things, place, cell, change, stands_for}
use Rattle.model.specs.Accepted.{standing}
use Rattle.model.specs.declared.Head.{Head}
use Rattle.model.specs.declared.Things.{Things}
use Rattle.laws.proofs.Bools.{is_true, from_true, and_left, and_right, and_both, not_both, eqb_not}
use Rattle.model.proofs.Held.{Held}
use Rattle.model.proofs.Stands.{Cell}
use Rattle.model.proofs.Find.{known_nonzero, seat_is, some_known, some_thing, seat_lt}
use Rattle.model.specs.Scheme.{no_type}

pub things_eq : (p q : Population) → ((x : ℕ) → p.thing x ≡ q.thing x) → p.highest ≡ q.highest → p ≡ q
things_eq p q f h = λ i. record { thing = λ x. f x i; highest = h i }

pub state_eq : (p q : State) → p.things ≡ q.things → ((x y : ℕ) → p.rights x y ≡ q.rights x y) → p ≡ q
state_eq p q e g = λ i. record { things = e i; rights = λ x y. g x y i }

-- a place after a store is the one stored to, or another
pub stored : {A : Type 0} (P : A → Type 0) (l : List A) (p : ℕ) (a : A) (i : ℕ) (d : A) → p < length l →
    (i ≡ p → P a) → (i ≢ p → P (get_or l i d)) → P (get_or (set l p a) i d)
stored P [] p a i d h f g = absurd (not-suc-le-zero h)
stored P (x ∷ xs) zero a zero d h f g = f refl
stored P (x ∷ xs) zero a (suc i) d h f g = g (λ e. omega arith)
stored P (x ∷ xs) (suc p) a zero d h f g = g (λ e. omega arith)
stored P (x ∷ xs) (suc p) a (suc i) d h f g = stored P xs p a i d (le_of_suc-le-suc h) (λ e. f (ap suc e)) (λ ne. g (λ e. ne (omega arith)))

-- to compare what stands where a test passes
pub cond_when : {A : Type 0} (b : Bool) (w : A) {u v : A} → (T b → u ≡ v) → cond b u w ≡ cond b v w
cond_when true w f = f tt
cond_when false w f = refl

module _ (s : Head) (m : Matrix) (x y : ℕ) (c : Cell s (stands_for m) x y) where
  abbrev th : Things
  th = m.things

  pub cell_row : T (known th x)
  unfolding stands_for paper_things is_some
  cell_row = some_known th x (rw c.row_is tt)

  pub cell_column : T (known th y)
  unfolding stands_for paper_things
  cell_column = some_known th y c.column

  cell_stands : T (standing s th (seat th x) (seat th y))
  unfolding stands_for paper_things standing thing_in
  cell_stands = let type : get_or th.types (seat th x) no_type ≡ c.row.type = ap (λ (t : Thing). t.type) (some_thing th x c.row c.row_is) in rw (
    seat_is th x cell_row,
    seat_is th y cell_column,
    type,
    eqb_not x 0 (known_nonzero th x cell_row),
    eqb_not y 0 (known_nonzero th y cell_column),
  ) c.subject

  module _ (ok : Held s m) where
    column_lt : seat th y < 48
    column_lt = seat_lt s th ok.things y cell_column

    place_lt : place th x y < length m.cells
    unfolding place
    place_lt = let lx = seat_lt s th ok.things x cell_row in let ly = column_lt in rw ok.cells.room (omega arith)

    -- things with different ids have different seats, so no other cell has this place
    place_is : (a b : ℕ) → T (known th a && known th b) → place th a b ≡ place th x y → T (eqb a x && eqb b y)
    unfolding place
    place_is a b h e =
        let hb : T (known th b) = search and_right in
        let lb = seat_lt s th ok.things b hb in
        let ly = column_lt in
        and_both (eqb a x) (eqb b y) (same a x (search and_left) cell_row (omega arith)) (same b y hb cell_column (omega arith))
      where
        same : (a x : ℕ) → T (known th a) → T (known th x) → seat th a ≡ seat th x → T (eqb a x)
        same a x ha hx e = let q : a ≡ x = sym (seat_is th a ha) ∙ rw e (seat_is th x hx) in rw q (eqb_refl x)

    module _ (f : ℕ → ℕ) (law : (v : ℕ) → v < 2 ^ s.rights → f v < 2 ^ s.rights) where
      pub change_held : Held s (change f x y m)
      unfolding change place cell
      change_held =
          let ly = column_lt in
          record {
            things = ok.things;
            cells = record {
              room = simp length-set ok.cells.room;
              small = λ k. stored (λ v. v < 2 ^ s.rights) m.cells _ _ k 0 place_lt (λ e. law _ (ok.cells.small _)) (λ ne. ok.cells.small k);
              bare = λ i j lj t. stored (λ v. v ≡ 0) m.cells _ _ (i * 48 + j) 0 place_lt
                  (λ e.
                  let ei : i ≡ seat th x = omega arith in
                  let ej : j ≡ seat th y = omega arith in
                  absurd (not_both (standing s th i j) (rw (ei, ej) cell_stands) t))
                  (λ ne. ok.cells.bare i j lj t);
            };
          }

      pub change_stands : stands_for (change f x y m) ≡ record { things = (stands_for m).things; rights = change_cell f x y (stands_for m).rights }
      unfolding change stands_for cell change_cell
      change_stands = state_eq _ _ refl (λ a b. go a b (eqb a x && eqb b y) refl)
        where
          go : (a b : ℕ) (e : Bool) → (eqb a x && eqb b y) ≡ e →
              (stands_for (change f x y m)).rights a b ≡ cond e (f ((stands_for m).rights a b)) ((stands_for m).rights a b)
          go a b true e =
              let t : T (eqb a x && eqb b y) = from_true e in
              let ea : a ≡ x = eqb→eq a x (search and_left) in
              let eb : b ≡ y = eqb→eq b y (search and_right) in
              rw (ea, eb, is_true (known th x) cell_row, is_true (known th y) cell_column) (get_or-set_same m.cells (place th x y) _ 0 place_lt)
          go a b false e = cond_when (known th a && known th b) 0 (λ h.
              get_or-set_other m.cells (place th x y) _ _ 0 (λ q. rw e at (place_is a b h q)))
