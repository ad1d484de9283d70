-- Each way out of the functions as a case of `mark_thing` and `marked_by`: over plain lists and numbers, so that a function's proof names few places of its
-- context. Assumes nothing.
use Prim.Native.Nat.{ℕ, ◌≤◌, ◌<◌}
use mathlib.Core.Path.{◌≡◌, refl}
use mathlib.Core.Bool.{Bool, true, false, ◌&&◌}
use mathlib.Core.List.{List}
use lib.ListN.{length}
use borrow.Author.Tests.{lt-ltb, le-ltb}
use Rattle.laws.specs.Check.{must}
use Rattle.model.specs.Request.{at, Outcome, done, refused, unless_fault}
use Rattle.model.specs.Seats.{find, known, seat, matrix_of}
use Rattle.model.specs.Accepted.{accepted_scheme, accepted_matrix}
use Rattle.model.specs.declared.Refusal.{Refusal}
use Rattle.model.specs.declared.Scheme.{Scheme}
use Rattle.model.specs.declared.Things.{Things}
use Rattle.laws.proofs.Differ.{constructors_differ}
use Rattle.model.proofs.SeatFound.{known_found}
use Rattle.hold.specs.Marking.{mark_seat, mark_thing, as_marked, marked_by}
use Rattle.hold.specs.Outcome.Marked.{Marked}
use Rattle.hold.specs.Outcome.Marking.{Done, Refused}

-- ---- one mark
module _ (b : Bool) (x : ℕ) (th : Things) where
  pub mark_0 : x ≡ 0 → mark_thing b x th ≡ refused (at 12 0)
  unfolding mark_thing known must unless_fault
  mark_0 e = rw e

  module _ (nz : x ≡ 0 → ⊥) (room : length th.ids ≡ 48) (i : ℕ) (found : i ≡ find th.ids x) where
    pub mark_unknown : 48 ≤ i → mark_thing b x th ≡ refused (at 12 0)
    unfolding mark_thing must unless_fault
    mark_unknown h = rw (known_found th room x i nz found, le-ltb i 48 h)

    pub mark_here : i < 48 → mark_thing b x th ≡ done (mark_seat b i th)
    unfolding mark_thing must unless_fault seat
    mark_here h = rw (known_found th room x i nz found, lt-ltb i 48 h, found)

-- ---- 27 before it
module _ (b : Bool) (s : Scheme) (th : Things) (cells : List ℕ) (x : ℕ) where
  abbrev both : Bool
  both = accepted_scheme s && accepted_matrix s.head (matrix_of th cells)

  pub marked_27 : both ≡ false → as_marked th (refused (at 27 0)) ≡ marked_by b s th cells x
  unfolding marked_by must unless_fault
  marked_27 e = rw e

  pub marked_on : both ≡ true → as_marked th (mark_thing b x th) ≡ marked_by b s th cells x
  unfolding marked_by must unless_fault
  marked_on e = rw e

-- ---- from an answer back to what was marked
module _ (th : Things) (r : Marked) where
  pub marked_refused : (o : Outcome Things) → r ≡ as_marked th o → (k : ℕ) → r.answer ≡ Refused k → (a : Refusal) × (o ≡ refused a) × (a.number ≡ k)
  marked_refused (done now) is k e = constructors_differ (cc)
  marked_refused (refused a) is k e = (a, refl, cc)

  pub marked_done : (o : Outcome Things) → r ≡ as_marked th o → r.answer ≡ Done → o ≡ done r.things
  marked_done (done now) is e = cc
  marked_done (refused a) is e = constructors_differ (cc)
