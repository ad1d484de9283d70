-- What is promised of hold and release; the proofs stand in proofs/. `OnHold` has a file of its own.
-- Assumes nothing.
use Rattle.std.specs.Prelude.{ℕ, Bool, ◌≡◌, T}
use Rattle.std.proofs.Math.Option.{some}
use Rattle.model.specs.Request.{Thing, Outcome, done, refused}
use Rattle.model.specs.Papers.{State}
use Rattle.model.specs.Seats.{Matrix, matrix_of, thing_at, stands_for}
use Rattle.model.specs.Accepted.{accepted_matrix}
use Rattle.model.specs.declared.Head.{Head}
use Rattle.model.specs.declared.Things.{Things}
use Rattle.hold.specs.Marking.{mark_on_paper, mark_thing}

-- an outcome in memory, whose cells are as they were, as an outcome of the papers
unfoldable pub paper_marked : Matrix → Outcome Things → Outcome State
paper_marked m (done th) = done (stands_for (matrix_of th m.cells))
paper_marked m (refused r) = refused r

pub record Marks : Type 0 where
  -- Memory and papers agree on what hold and release do.
  pub joined : (h : Head) (m : Matrix) (b : Bool) (x : ℕ) → T (accepted_matrix h m) → paper_marked m (mark_thing b x m.things) ≡ mark_on_paper b x (stands_for m)
  -- They leave an accepted matrix accepted.
  pub kept : (h : Head) (m : Matrix) (b : Bool) (x : ℕ) (th : Things) → T (accepted_matrix h m) → mark_thing b x m.things ≡ done th →
      T (accepted_matrix h (matrix_of th m.cells))
  -- To set the mark that is there already changes nothing.
  pub again : (h : Head) (m : Matrix) (x : ℕ) (t : Thing) → T (accepted_matrix h m) → thing_at m.things x ≡ some t →
      mark_thing t.on_hold x m.things ≡ done m.things
  -- Of two marks the last counts: so hold and then release of a thing that wasn't on hold gives back what there was.
  pub last : (b c : Bool) (x : ℕ) (th now : Things) → mark_thing b x th ≡ done now → mark_thing c x now ≡ mark_thing c x th
