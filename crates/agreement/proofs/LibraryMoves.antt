-- Moving by the library's calls: one that gave 0 has read its scheme and moved the image, so that what is said of the functions (`FunctionMoves`)
-- is so of what it wrote; and 23 is told where the way back is refused by it (`Moving`), and nowhere else.
-- Assumes nothing.
use Prim.Native.Nat.{ℕ, ◌+◌, ◌≤◌}
use native.Mathlib.Nat.{zero-add}
use native.Mathlib.Omega.{arith}
use mathlib.Core.Path.{◌≡◌, refl, sym, ap, ◌∙◌}
use mathlib.Core.Logic.{◌≢◌}
use mathlib.Core.Bool.{Bool, true, false, not, cond}
use mathlib.Core.List.{List}
use lib.Dec.{T, eqb, leb}
use lib.ListN.{length}
use borrow.Author.Tests.{eq-eqb, leb-true}
use Rattle.laws.proofs.Bools.{is_true, or_right}
use Rattle.model.specs.Accepted.{accepted_scheme}
use Rattle.model.specs.Arrays.{no_scheme}
use Rattle.model.specs.Seats.{Matrix, no_things}
use Rattle.model.specs.declared.Scheme.{Scheme}
use Rattle.records.specs.Front.{Refusal, against}
use Rattle.records.specs.Reading.{Read, got, fault}
use Rattle.records.specs.Told.{of_writing}
use Rattle.records.specs.Writing.{placed, write_bytes}
use Rattle.records.specs.Outcome.Reading.{Reading}
use Rattle.records.specs.Outcome.Reading as reading
use Rattle.records.specs.Outcome.Writing.{Writing}
use Rattle.records.specs.Outcome.Writing as writing
use Rattle.records.proofs.Faults.{fine}
use Rattle.records.proofs.PlacedLaws.{take_through_placed}
use Rattle.scheme_bytes.specs.Answers.{read_scheme}
use Rattle.matrix_bytes.specs.Answers.{read_matrix}
use Rattle.matrix_bytes.specs.Read.{matrix}
use Rattle.matrix_bytes.proofs.FunctionTrips.{read_got}
use Rattle.moving.specs.Answers.{after_writing, by_writing, as_moved, forward_into, back_into}
use Rattle.moving.specs.Moves.{old_image, forward, back}
use Rattle.moving.specs.Old.{highest_listed}
use Rattle.moving.specs.Outcome.Moved.{Moved, Done}
use Rattle.moving.proofs.FunctionMoves.{function_moves}
use Rattle.moving.proofs.Moving.{moves_keep}
use Rattle.robot.specs.Library.{after_scheme, with_scheme, Wrote, not_written, moving_by, moved, forward_bytes, back_bytes}
use Rattle.agreement.specs.LibraryAgrees.{written, written_bytes, Bytes, IsScheme, IsMatrix}
use Rattle.agreement.specs.LibraryMoves.{SameMatrix, LibraryMoves}
use Rattle.agreement.proofs.ReadNumbers.{passed, scheme_only}
use Rattle.agreement.proofs.FunctionNumbers.{against_head, bytes_written}
use Rattle.agreement.proofs.LibraryCalls.{empty, with_scheme_lem, scheme_done}
use Rattle.agreement.proofs.LibraryRuns.{scheme_held}
use Rattle.agreement.proofs.MoveNumbers.{forward_only, back_only, moving_number, of_forward}

-- ---- a call, from what its scheme's bytes are
module _ (scheme : List ℕ) (s : Scheme) (is : IsScheme scheme s) (image out : List ℕ) where
  forward_call : forward_bytes scheme image out ≡ moved (forward_into image s out)
  unfolding forward_bytes
  forward_call = with_scheme_lem (not_written out) scheme s (λ s n. moved (forward_into image s out)) is

  back_call : back_bytes scheme image out ≡ moved (back_into image s out)
  unfolding back_bytes
  back_call = with_scheme_lem (not_written out) scheme s (λ s n. moved (back_into image s out)) is

-- ---- a call that gave 0 has moved

-- another number than this one
abbrev isnt : ℕ → ℕ → Bool
isnt n k = not (eqb k n)

differs : (n k : ℕ) → T (isnt n k) → k ≢ n
differs n k t e = rw (eq-eqb k n e) at t

-- read, or refused by another number than 0
abbrev NotByZero : Read ℕ Refusal (List ℕ) → Type 0
NotByZero r = T (fine (λ f. isnt 0 f.number) r)

-- done, and the bytes that it wrote are as many as it says
record Went (w : Wrote) (m : Moved × List ℕ) : Type 0 where
  is : ◌≡◌ {A = Moved × List ℕ} m (Done (written w.called), w.out)
  whole : length (written_bytes w) ≡ written w.called

-- 9 isn't 0 either
went : (out : List ℕ) (r : Read ℕ Refusal (List ℕ)) → NotByZero r →
    (w : Wrote) → w ≡ moved (as_moved out r) → w.called.number ≡ 0 → Went w (as_moved out r)
unfolding write_bytes written_bytes
went out (got image end) t w is zero = rw is (by (leb (0 + length image) (length out)) refl (rw is at zero))
  where
    placing : Bool → Moved × List ℕ
    placing fits = by_writing (cond fits (writing.Done (0 + length image), placed out 0 image) (writing.Refused 9, out))

    by : (fits : Bool) → leb (0 + length image) (length out) ≡ fits → (moved (placing fits)).called.number ≡ 0 →
        Went (moved (placing fits)) (placing fits)
    by true f e =
        let room = leb-true (0 + length image) (length out) f in
        record { is = refl; whole = ap length (take_through_placed out 0 image room) ∙ sym (zero-add (length image)) }
    by false f e = absurd (omega arith)
went out (fault f) t w is zero = absurd (differs 0 f.number t (rw is at zero))

-- whichever way it goes
call_went : (scheme out : List ℕ) (move : Scheme → Read ℕ Refusal (List ℕ)) → Bytes scheme → ((s : Scheme) → NotByZero (move s)) →
    let w = with_scheme (not_written out) scheme (λ s n. moved (as_moved out (move s))) in
    w.called.number ≡ 0 → (s : Scheme) × IsScheme scheme s × Went w (as_moved out (move s))
call_went scheme out move small told zero =
    let next : Scheme → ℕ → Wrote = λ s n. moved (as_moved out (move s)) in
    let (s, is) = scheme_done (not_written out) (λ w. w.called.number) (λ k x at. refl) scheme small next zero in
    (s, is, went out (move s) (told s) (with_scheme (not_written out) scheme next) (with_scheme_lem (not_written out) scheme s next is) zero)

-- neither way is refused by 0: its reading isn't, and 27 is another number
module _ (scheme : List ℕ) (small : Bytes scheme) (image out : List ℕ) where
  forward_went : (forward_bytes scheme image out).called.number ≡ 0 →
      (s : Scheme) × IsScheme scheme s × Went (forward_bytes scheme image out) (forward_into image s out)
  unfolding forward_bytes forward_into
  forward_went =
      call_went scheme out (λ s. against (accepted_scheme s) (forward s.head image 0)) small
      (λ s. against_head (isnt 0) tt (accepted_scheme s) (forward s.head image 0) (forward_only (isnt 0) tt tt tt tt tt tt tt s.head image))

  back_went : (back_bytes scheme image out).called.number ≡ 0 →
      (s : Scheme) × IsScheme scheme s × Went (back_bytes scheme image out) (back_into image s out)
  unfolding back_bytes back_into
  back_went =
      call_went scheme out (λ s. against (accepted_scheme s) (back s.head image 0)) small
      (λ s. against_head (isnt 0) tt (accepted_scheme s) (back s.head image 0) (back_only (isnt 0) tt tt tt tt tt tt tt s.head image tt))

-- ---- what it wrote
same_matrix : (scheme old out : List ℕ) → Bytes scheme → Bytes old → (forward_bytes scheme old out).called.number ≡ 0 →
    SameMatrix scheme old (written_bytes (forward_bytes scheme old out))
unfolding written_bytes
same_matrix scheme old out small small' zero =
    let (s, is, w) = forward_went scheme small old out zero in
    let (m, was, reads) = function_moves.reads old s out _ _ small' w.is in
    record {
      s = s;
      m = m;
      is_scheme = is;
      held = was;
      is_matrix = reads no_things empty refl ∙ rw w.whole;
      highest = ((moves_keep s (scheme_held scheme small s is)).reads old m (length old) small' was).2;
    }

-- a move that placed these bytes, for which there was room, has written them
placed_whole : (bytes out : List ℕ) → length bytes ≤ length out →
    (m : Moved × List ℕ) → ◌≡◌ {A = Moved × List ℕ} m (Done (length bytes), placed out 0 bytes) →
    (w : Wrote) → w ≡ moved m → (w.called.number ≡ 0) × (written_bytes w ≡ bytes)
unfolding written_bytes
placed_whole bytes out room m done w is = rw (is, done) (refl, rw zero-add at (take_through_placed out 0 bytes (omega arith)))

-- ---- 23

-- a writing's own number is told of the move
writing_differs : (n : ℕ) (w : Writing) → T (isnt n (of_writing w).number) → (moving_by (after_writing w)).number ≢ n
writing_differs n (writing.Done next) = differs n 0
writing_differs n (writing.Refused k) = differs n k

module _ (scheme new out : List ℕ) (s : Scheme) (m : Matrix) (is_scheme : IsScheme scheme s) (is_matrix : IsMatrix new s m) where
  -- bytes that a call reads as a matrix are read so against an accepted scheme's head
  held : T (accepted_scheme s) × (matrix s.head new 0 ≡ got m (length new))
  unfolding read_matrix
  held =
      read_got (accepted_scheme s) (eqb (length empty) 2304) (matrix s.head new 0) no_things empty (length new) m.things m.cells is_matrix

  highest_lost : m.things.highest ≢ highest_listed m.things → back_bytes scheme new out ≡ not_written out 23 2 0
  unfolding back_into
  highest_lost other =
      let (ok, read) = held in
      back_call scheme s is_scheme new out ∙ rw (is_true (accepted_scheme s) ok, (moves_keep s ok).refused new m (length new) read other)

  -- what may still refuse it is 9
  highest_kept : m.things.highest ≡ highest_listed m.things → (back_bytes scheme new out).called.number ≢ 23
  unfolding back_into
  highest_kept same =
      let (ok, read) = held in
      rw (back_call scheme s is_scheme new out, is_true (accepted_scheme s) ok, (moves_keep s ok).taken new m (length new) read same)
      (writing_differs 23 (write_bytes out 0 (old_image new)).0 (bytes_written (isnt 23) tt tt out 0 (old_image new)))

-- neither the reading of a scheme nor the way forward has it, whatever the bytes
forward_never : (scheme old out : List ℕ) → (forward_bytes scheme old out).called.number ≢ 23
unfolding forward_bytes with_scheme
forward_never scheme old out = by (read_scheme scheme no_scheme).answer (scheme_only (isnt 23) tt tt tt tt tt tt tt scheme no_scheme)
  where
    s : Scheme
    s = (read_scheme scheme no_scheme).scheme

    by : (a : Reading) → T (passed (isnt 23) a) → (after_scheme (not_written out) (λ s n. moved (forward_into old s out)) s a).called.number ≢ 23
    by (reading.Done n) t =
        let told = of_forward (isnt 23) tt tt tt tt tt tt tt tt tt s old out (or_right (accepted_scheme s) true tt) in
        differs 23 _ (moving_number (isnt 23) (forward_into old s out).0 told)
    by (reading.Refused k at) t = differs 23 k t

pub library_moves : LibraryMoves
unfolding written_bytes
library_moves = record {
  reads = same_matrix;
  there_and_back = λ scheme old out out' small small' zero room.
      let (s, is, w) = forward_went scheme small old out zero in
      placed_whole old out' room _ (function_moves.there_and_back old s out _ _ small' w.is out' room) _ (back_call scheme s is _ out');
  back_and_there = λ scheme new out out' small small' zero room.
      let (s, is, w) = back_went scheme small new out zero in
      placed_whole new out' room _ (function_moves.back_and_there new s out _ _ small' w.is out' room) _ (forward_call scheme s is _ out');
  lost = highest_lost;
  kept = highest_kept;
  only_back = forward_never;
}
