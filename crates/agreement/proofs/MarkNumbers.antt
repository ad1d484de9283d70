-- Which numbers hold and release can give: of things, of a matrix, and of a matrix's bytes.
-- Assumes nothing.
use Prim.Native.Nat.{ℕ}
use mathlib.Core.Path.{◌≡◌, refl}
use mathlib.Core.Bool.{Bool, true, false, ◌&&◌}
use mathlib.Core.List.{List}
use lib.Dec.{T}
use Rattle.laws.specs.Check.{must}
use Rattle.laws.proofs.Bools.{is_true}
use Rattle.model.specs.Request.{at, Outcome, done, refused, unless_fault}
use Rattle.model.specs.Seats.{Matrix, matrix_of, known, seat}
use Rattle.model.specs.Accepted.{accepted_scheme, accepted_matrix}
use Rattle.model.specs.declared.Scheme.{Scheme}
use Rattle.model.specs.declared.Things.{Things}
use Rattle.records.specs.Told.{of_writing}
use Rattle.matrix_bytes.specs.Write.{matrix_bytes, write_matrix}
use Rattle.hold.specs.Marking.{mark_seat, mark_thing, as_marked, marked_by, of_marking}
use Rattle.hold.proofs.Marks.{marks}
use Rattle.robot.specs.Library.{marked_into}
use Rattle.agreement.proofs.FunctionNumbers.{bytes_written, writing_number}

module _ (ok : ℕ → Bool) (None-passes : T (ok 0)) (twelve : T (ok 12)) where
  pub of_mark : (mark : Bool) (x : ℕ) (th : Things) → T (ok (of_marking (as_marked th (mark_thing mark x th)).answer).number)
  unfolding mark_thing must unless_fault
  of_mark mark x th = by (known th x)
    where
      by : (there : Bool) →
          T (ok (of_marking (as_marked th (unless_fault (must there (at 12 0)) (done (mark_seat mark (seat th x) th)))).answer).number)
      by true = None-passes
      by false = twelve

  pub of_mark_in_matrix : T (ok 27) → (mark : Bool) (s : Scheme) (th : Things) (cells : List ℕ) (x : ℕ) →
      T (ok (of_marking (marked_by mark s th cells x).answer).number)
  unfolding marked_by must unless_fault
  of_mark_in_matrix strange mark s th cells x = by (accepted_scheme s && accepted_matrix s.head (matrix_of th cells))
    where
      by : (fine : Bool) → T (ok (of_marking (as_marked th (unless_fault (must fine (at 27 0)) (mark_thing mark x th))).answer).number)
      by true = of_mark mark x th
      by false = strange

  -- what is marked stays accepted, so that the writing gives no 27
  pub of_marked_bytes : T (ok 9) → (s : Scheme) → T (accepted_scheme s) → (m : Matrix) → T (accepted_matrix s.head m) → (mark : Bool) (x : ℕ) (out : List ℕ) →
      T (ok (marked_into out s m.cells (mark_thing mark x m.things)).called.number)
  unfolding marked_into
  of_marked_bytes nine s t m u mark x out = by (mark_thing mark x m.things) refl (of_mark mark x m.things)
    where
      written : (th : Things) → T (accepted_matrix s.head (matrix_of th m.cells)) →
          T (ok (of_writing (write_matrix out s (matrix_of th m.cells)).0).number)
      written th fine = unfold write_matrix in
          rw (is_true (accepted_scheme s) t, is_true (accepted_matrix s.head (matrix_of th m.cells)) fine)
          (bytes_written ok None-passes nine out 0 (matrix_bytes s.head (matrix_of th m.cells)))

      by : (o : Outcome Things) → mark_thing mark x m.things ≡ o → T (ok (of_marking (as_marked m.things o).answer).number) →
          T (ok (marked_into out s m.cells o).called.number)
      by (done th) e told = writing_number ok 2 (write_matrix out s (matrix_of th m.cells)).0 (written th (marks.kept s.head m mark x th u e))
      by (refused r) e told = told
