-- The seats' view stands for the papers' view: as long as a matrix is held, each operation on it is the papers' operation.
-- Assumes nothing.
use Prim.Native.Nat.{ℕ, ◌^◌, ◌<◌}
use mathlib.Core.Path.{◌≡◌, ◌∙◌}
use mathlib.Core.Bool.{false}
use native.Mathlib.Omega.{arith}
use lib.Dec.{T}
use borrow.Author.Tests.{not-false}
use Rattle.rights.proofs.Laws.{enter_lt, delete_le}
use Rattle.model.specs.Papers.{State, change_cell, papers}
use Rattle.model.specs.Seats.{Matrix, among, known, full, paper_things, change, seats, stands_for}
use Rattle.model.specs.declared.Head.{Head}
use Rattle.model.specs.declared.Things.{Things}
use Rattle.laws.proofs.Bools.{from_true, is_true}
use Rattle.model.proofs.Held.{Held}
use Rattle.model.proofs.Stands.{Stands, Cell}
use Rattle.model.proofs.Population.{full_law}
use Rattle.model.proofs.Find.{some_known}
use Rattle.model.proofs.SeatChange.{cell_row, cell_column, change_held, change_stands}
use Rattle.model.proofs.SeatThings.{may_law, add_held, add_stands, remove_held, remove_stands}

pub record Seated (s : Head) (m : Matrix) (p : State) : Type 0 where
  pub held : Held s m
  pub is : p ≡ stands_for m

has_room : (th : Things) → full th ≡ false → T (among th.ids 0)
unfolding full
has_room th e = from_true (not-false (among th.ids 0) e)

changed : (s : Head) (f : ℕ → ℕ) → ((v : ℕ) → v < 2 ^ s.rights → f v < 2 ^ s.rights) → (m : Matrix) (p : State) → Seated s m p →
    (x y : ℕ) → Cell s p x y → Seated s (change f x y m) (record { things = p.things; rights = change_cell f x y p.rights })
changed s f law m p r x y c =
    let c' : Cell s (stands_for m) x y = rw r.is at c in
    record { held = change_held s m x y c' r.held f law; is = rw (r.is, change_stands s m x y c' r.held f law) }

pub seats_stand : (s : Head) → Stands s seats (Seated s)
unfolding seats papers stands_for paper_things
seats_stand s = record {
  thing = λ m p r x. rw r.is;
  cell = λ m p r x y c.
      let c' : Cell s (stands_for m) x y = rw r.is at c in
      rw (r.is, is_true (known m.things x) (cell_row s m x y c'), is_true (known m.things y) (cell_column s m x y c'));
  may_create = λ m p r x. rw r.is (may_law s m.things r.held.things x);
  full = λ m p r. rw r.is (full_law s m r.held);
  enter = λ m p r right x y h. changed s _ (λ v. enter_lt s.rights right.0 v h) m p r x y;
  delete = λ m p r right x y h. changed s _ (λ v l. omega (arith, delete_le right.0 v)) m p r x y;
  create = λ m p r x t id typed may room.
      let free : T (among m.things.ids 0) = has_room m.things (full_law s m r.held ∙ rw r.is at room) in
      let n = rw r.is at may in
      record { held = add_held s m r.held x t id typed n free; is = rw (r.is, add_stands s m r.held x t id typed n free) };
  destroy = λ m p r x there.
      let k = some_known m.things x (rw r.is at there) in
      record { held = remove_held s m r.held x k; is = rw (r.is, remove_stands s m r.held x k) };
}
