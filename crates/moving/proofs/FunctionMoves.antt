-- What `FunctionMoves` states: both ways, behind the tests that the functions make around them.
-- Assumes nothing.
use Prim.Native.Nat.{ℕ, ◌≤◌}
use native.Mathlib.Nat.{zero-add}
use mathlib.Core.Bool.{Bool, true, false}
use mathlib.Core.List.{List}
use mathlib.Core.Path.{◌≡◌, refl, sym, ap, ◌∙◌}
use lib.Dec.{T}
use lib.ListN.{length, take}
use borrow.Author.Tests.{le-leb, eq-eqb}
use Rattle.laws.proofs.Bools.{is_true}
use Rattle.laws.proofs.Differ.{constructors_differ}
use Rattle.model.specs.Accepted.{accepted_scheme}
use Rattle.model.specs.Seats.{Matrix}
use Rattle.model.specs.declared.Scheme.{Scheme}
use Rattle.model.specs.declared.Things.{Things}
use Rattle.records.specs.Reading.{Read, got, fault}
use Rattle.records.specs.Front.{Refusal, against}
use Rattle.records.specs.Writing.{placed, write_bytes}
use Rattle.records.specs.Outcome.Reading as reading
use Rattle.records.specs.Outcome.Writing.{Writing}
use Rattle.records.specs.Outcome.Writing as writing
use Rattle.records.proofs.Trip.{Bytes, bind_got, got_same}
use Rattle.records.proofs.Wrote.{pair_eq, wrote, wrote_first}
use Rattle.matrix_bytes.specs.Answers.{read_matrix}
use Rattle.matrix_bytes.specs.Read.{matrix}
use Rattle.matrix_bytes.specs.MatrixAnswer.{MatrixAnswer}
use Rattle.matrix_bytes.proofs.RoundTrips.{sized}
use Rattle.moving.specs.Answers.{by_writing, as_moved, forward_into, back_into}
use Rattle.moving.specs.FunctionMoves.{FunctionMoves}
use Rattle.moving.specs.Moves.{forward, back}
use Rattle.moving.specs.Old.{old_matrix}
use Rattle.moving.specs.Outcome.Moved.{Moved}
use Rattle.moving.specs.Outcome.Moved.{Done}
use Rattle.moving.proofs.Images.{old_back}
use Rattle.moving.proofs.Moving.{moves_keep}

-- ---- from an answer to the move behind it
by_done : (w : Writing) (l : List ℕ) (n : ℕ) (left : List ℕ) → ◌≡◌ {A = Moved × List ℕ} (by_writing (w, l)) (Done n, left) →
    ◌≡◌ {A = Writing × List ℕ} (w, l) (writing.Done n, left)
by_done (writing.Done k) l n left e = let (p, d) = pair_eq e in let same : k ≡ n = cc in rw (same, d)
by_done (writing.Refused k) l n left e = let (p, d) = pair_eq e in constructors_differ (cc)

-- it was made against an accepted scheme, and its image stands in front
record Made (given : Bool) (r : Read ℕ Refusal (List ℕ)) (n : ℕ) (left : List ℕ) : Type 0 where
  may : T given
  image : List ℕ
  end : ℕ
  is : r ≡ got image end
  size : n ≡ length image
  stands : take n left ≡ image

made : (given : Bool) (r : Read ℕ Refusal (List ℕ)) (out : List ℕ) (n : ℕ) (left : List ℕ) →
    ◌≡◌ {A = Moved × List ℕ} (as_moved out (against given r)) (Done n, left) → Made given r n left
made true (got image end) out n left e =
    let w = wrote true 27 out 0 image n left (by_done (write_bytes out 0 image).0 (write_bytes out 0 image).1 n left e) in
    let (size, stands) = wrote_first out image n left w.1 in
    record { may = tt; image = image; end = end; is = refl; size = size; stands = stands }
made true (fault f) out n left e = let (p, d) = pair_eq e in constructors_differ (cc)
made false r out n left e = let (p, d) = pair_eq e in constructors_differ (cc)

-- ---- and from a move to its answer, where there is room
makes : (given : Bool) (r : Read ℕ Refusal (List ℕ)) (image : List ℕ) (end : ℕ) → T given → r ≡ got image end → (out : List ℕ) → length image ≤ length out →
    ◌≡◌ {A = Moved × List ℕ} (as_moved out (against given r)) (Done (length image), placed out 0 image)
unfolding write_bytes
makes given r image end may is out room = rw (is_true given may, is, zero-add, le-leb _ _ room)

-- ---- what was moved forward reads as the matrix that the old image held
module _ (s : Scheme) (may : T (accepted_scheme s)) where
  image_reads : (old image : List ℕ) (end : ℕ) → Bytes old → forward s.head old 0 ≡ got image end →
      (m : Matrix) × (old_matrix s.head old 0 ≡ got m (length old)) × (matrix s.head image 0 ≡ got m (length image))
  unfolding forward
  image_reads old image end g e =
      let (m, next, e1, f1) = bind_got (old_matrix s.head old 0) _ e in
      let kept = (moves_keep s may).reads old m next g e1 in
      let whole = old_back s.head (sized s may) old g m next e1 in
      (m, e1 ∙ ap (got m) whole.end, got_same (λ v j. matrix s.head v 0 ≡ got m (length v)) (sym kept.0 ∙ e) kept.1)

  read_answers : (bytes : List ℕ) (m : Matrix) (n : ℕ) → matrix s.head bytes 0 ≡ got m (length bytes) → n ≡ length bytes →
      (things : Things) (cells : List ℕ) → length cells ≡ 2304 →
      ◌≡◌ {A = MatrixAnswer × List ℕ} (read_matrix bytes s things cells) (record { answer = reading.Done n; things = m.things }, m.cells)
  unfolding read_matrix
  read_answers bytes m n e size things cells l = rw (is_true (accepted_scheme s) may, eq-eqb _ _ l, e, size)

pub function_moves : FunctionMoves
unfolding forward_into back_into
function_moves = record {
  reads = λ old s out n left g e.
      let w = made (accepted_scheme s) (forward s.head old 0) out n left e in
      let (m, was, reads) = image_reads s w.may old w.image w.end g w.is in
      (m, was, rw w.stands (read_answers s w.may w.image m n reads w.size));
  there_and_back = λ old s out n left g e other room.
      let w = made (accepted_scheme s) (forward s.head old 0) out n left e in
      let again = (moves_keep s w.may).there_and_back old w.image w.end g w.is in
      rw w.stands (makes (accepted_scheme s) (back s.head w.image 0) old _ w.may again other room);
  back_and_there = λ new s out n left g e other room.
      let w = made (accepted_scheme s) (back s.head new 0) out n left e in
      let again = (moves_keep s w.may).back_and_there new w.image w.end g w.is in
      rw w.stands (makes (accepted_scheme s) (forward s.head w.image 0) new _ w.may again other room);
}
