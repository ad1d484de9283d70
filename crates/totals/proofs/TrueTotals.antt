-- What is counted is what the papers' matrix has: only a thing's id has cells, and the cell at two ids is the place at their seats.
-- Assumes nothing.
use Prim.Native.Nat.{ℕ, ◌+◌, ◌*◌, ◌≤◌, ◌<◌}
use mathlib.Core.Path.{◌≡◌, refl, sym, ap, ◌∙◌}
use mathlib.Core.Bool.{Bool, true, false, not, cond, ◌&&◌, and-true, and-false}
use native.Mathlib.Omega.{arith}
use lib.Dec.{T, eqb}
use lib.ListN.{length, take, drop, get_or, length-drop}
use lib.Seq.{length-take-le, get_or-take, get_or-drop}
use borrow.Author.Tests.{eqb-false}
use Rattle.rights.specs.Sets.{count_rights}
use Rattle.laws.specs.Check.{is_some}
use Rattle.model.specs.Papers.{how_many}
use Rattle.model.specs.Seats.{Matrix, among, known, thing_at, place, cell, stands_for, paper_things}
use Rattle.model.specs.Accepted.{standing, accepted_scheme, accepted_matrix}
use Rattle.model.specs.declared.Head.{Head}
use Rattle.model.specs.declared.Things.{Things}
use Rattle.laws.proofs.Bools.{is_true}
use Rattle.model.proofs.Held.{Held}
use Rattle.model.proofs.HeldLaws.{held, ids_apart, ids_small}
use Rattle.model.proofs.Find.{is_known, among_get, seat_at}
use Rattle.totals.specs.Totals.{sum_ids, over_cells, filled, paper_totals, sum_of, memory_totals, totals_of}
use Rattle.totals.specs.Promises.{TrueTotals}
use Rattle.totals.proofs.Sums.{filled_none, rights_none, sum_along, sum_rows, sum_same, sum_none, count_sum, sum_ids_lem}

module _ (s : Head) (m : Matrix) (ok : Held s m) where
  abbrev th : Things
  th = m.things

  abbrev id : ℕ → ℕ
  id i = get_or th.ids i 0

  abbrev its : ℕ → ℕ → ℕ
  its x y = (stands_for m).rights x y

  -- who sits at i is a thing, if someone does
  known_seat : (i : ℕ) → i < 48 → known th (id i) ≡ not (eqb (id i) 0)
  unfolding known
  known_seat i h = rw (is_true (among th.ids (id i)) (among_get th.ids i (rw ok.things.id_room h))) (and-true (not (eqb (id i) 0)))

  -- the cell at two seats' ids
  seats_cell : (i j : ℕ) → i < 48 → j < 48 → its (id i) (id j) ≡ get_or m.cells (i * 48 + j) 0
  unfolding stands_for cell place standing
  seats_cell i j hi hj =
      rw (known_seat i hi, known_seat j hj)
      (go (eqb (id i) 0) (eqb (id j) 0) _ (ok.cells.bare i j hj)
      (λ e f. rw (seat_at s th ok.things i hi (eqb-false _ _ e), seat_at s th ok.things j hj (eqb-false _ _ f))))
    where
      go : (a b c : Bool) {v w : ℕ} → (T (not (not a && not b && c)) → w ≡ 0) → (a ≡ false → b ≡ false → v ≡ w) → cond (not a && not b) v 0 ≡ w
      go false false c bare same = same refl refl
      go false true c bare same = sym (bare tt)
      go true b c bare same = sym (bare tt)

  no_row : (x y : ℕ) → known th x ≡ false → its x y ≡ 0
  unfolding stands_for
  no_row x y e = rw e

  no_column : (x y : ℕ) → known th y ≡ false → its x y ≡ 0
  unfolding stands_for
  no_column x y e = rw (e, and-false (known th x))

  -- k is 65535, which is never to be computed with
  module _ (k : ℕ) (small : (i : ℕ) → id i ≤ k) where
    things_sum : sum_ids k (λ x. cond (is_some (thing_at th x)) 1 0) ≡ sum_of filled th.ids
    unfolding filled
    things_sum =
        sum_ids_lem k _ th small (ids_apart s th ok.things) (λ x e. rw (is_known th x, e))
        ∙ sum_along filled _ th.ids th.ids refl (λ i h. rw (is_known, known_seat i (rw ok.things.id_room at h)) (go (eqb (id i) 0)))
      where
        go : (b : Bool) → ◌≡◌ {A = ℕ} (cond (not b) 1 0) (cond b 0 1)
        go true = refl
        go false = refl

    module _ (f : ℕ → ℕ) (zero-none : f 0 ≡ 0) where
      row_sum : (x : ℕ) → sum_ids k (λ y. f (its x y)) ≡ sum_of (λ y. f (its x y)) th.ids
      row_sum x = sum_ids_lem k _ th small (ids_apart s th ok.things) (λ y e. ap f (no_column x y e) ∙ zero-none)

      -- a row of the papers' matrix is a row of places
      row_places : (i : ℕ) → i < 48 → sum_ids k (λ y. f (its (id i) y)) ≡ sum_of f (take 48 (drop (i * 48) m.cells))
      row_places i h =
          let rest = drop (i * 48) m.cells in
          let long : 48 ≤ length rest = omega (arith, length-drop (i * 48) m.cells, ok.cells.room) in
          let at : (j : ℕ) → j < 48 → its (id i) (id j) ≡ get_or (take 48 rest) j 0 =
          λ j l. seats_cell i j h l ∙ sym (get_or-take 48 rest j 0 l ∙ get_or-drop (i * 48) m.cells j 0) in
          row_sum (id i)
          ∙ sum_along f _ th.ids (take 48 rest) (ok.things.id_room ∙ sym (length-take-le 48 rest long))
          (λ j l. ap f (at j (rw ok.things.id_room at l)))

      cells_sum : sum_ids k (λ x. sum_ids k (λ y. f (its x y))) ≡ sum_of f m.cells
      cells_sum =
          sum_ids_lem k _ th small (ids_apart s th ok.things) (λ x e. sum_same k _ _ (λ y a b. ap f (no_row x y e) ∙ zero-none) ∙ sum_none k)
          ∙ sum_rows f _ 48 th.ids m.cells (rw (ok.cells.room, ok.things.id_room)) (λ i h. row_places i (rw ok.things.id_room at h))

  things_law : how_many (stands_for m).things ≡ sum_of filled th.ids
  unfolding how_many stands_for paper_things
  things_law = count_sum 65535 _ ∙ things_sum 65535 (ids_small s th ok.things)

  cells_law : (f : ℕ → ℕ) → f 0 ≡ 0 → over_cells f (stands_for m) ≡ sum_of f m.cells
  unfolding over_cells
  cells_law f e = cells_sum 65535 (ids_small s th ok.things) f e

pub true_totals : TrueTotals
unfolding totals_of paper_totals memory_totals
true_totals s m a t =
    let h = s.head in
    let ok = held h m t in
    rw (is_true (accepted_scheme s) a, is_true (accepted_matrix h m) t, things_law h m ok)
    (rw (cells_law h m ok filled (filled_none 0 refl), cells_law h m ok count_rights rights_none))
