-- Which numbers forward and back can give: those of the image's reading, 23 on the way back, 9, and 27 of a scheme that is handed in as a value.
-- Assumes nothing.
use Prim.Native.Nat.{ℕ}
use mathlib.Core.Bool.{Bool, true, false, ◌||◌}
use mathlib.Core.List.{List}
use lib.Dec.{T, eqb}
use Rattle.model.specs.Accepted.{accepted_scheme}
use Rattle.model.specs.declared.Head.{Head}
use Rattle.model.specs.declared.Scheme.{Scheme}
use Rattle.records.specs.Reading.{Read, got, fault, check, field}
use Rattle.records.specs.Front.{Refusal, against, in_record}
use Rattle.records.specs.Told.{of_writing}
use Rattle.records.specs.Writing.{write_bytes}
use Rattle.records.specs.Outcome.Writing.{Writing}
use Rattle.records.specs.Outcome.Writing as writing
use Rattle.records.proofs.Faults.{fine, Only, only_then, only_next, only_check, only_field, only_record}
use Rattle.matrix_bytes.specs.Read.{matrix}
use Rattle.moving.specs.Old.{old_head, old_content, highest_listed, old_matrix}
use Rattle.moving.specs.Moves.{forward, back}
use Rattle.moving.specs.Answers.{after_writing, as_moved, forward_into, back_into, of_moved}
use Rattle.moving.specs.Outcome.Moved.{Moved, Done, Refused}
use Rattle.robot.specs.Library.{moving_by}
use Rattle.agreement.proofs.ReadNumbers.{rest_fine, matrix_fine}
use Rattle.agreement.proofs.FunctionNumbers.{bytes_written}

-- ---- the readings
module _ (ok : ℕ → Bool) (one : T (ok 1)) (two : T (ok 2)) (three : T (ok 3)) (four : T (ok 4)) (five : T (ok 5)) (six : T (ok 6)) (seven : T (ok 7))
    (h : Head) (s : List ℕ) where
  abbrev told : Refusal → Bool
  told f = ok f.number

  head_body : Only ok (old_head h)
  unfolding old_head
  head_body =
      only_then ok (field 1 65 4) _ (only_field ok three 1 65 4 four) (λ n.
      only_next ok (check (eqb n h.rights) 6) _ (only_check ok (eqb n h.rights) 6 six) (only_field ok three 0 49 4 four))

  old_only : Only told (old_matrix h s)
  unfolding old_matrix old_content
  old_only =
      only_then told (old_content h s) _
      (only_then told (in_record s 8 (λ kind. old_head h)) _ (only_record ok one two three s 8 (λ kind. old_head h) (λ kind. head_body))
      (rest_fine ok one two three six five seven h s 65535))
      (λ m i. tt)

  pub forward_only : T (fine told (forward h s 0))
  unfolding forward
  forward_only = only_then told (old_matrix h s) _ old_only (λ m i. tt) 0

  pub back_only : T (ok 23) → T (fine told (back h s 0))
  unfolding back
  back_only lost =
      let refusal : Refusal = record { number = 23; at = 0 } in
      only_then told (matrix h s) _ (matrix_fine ok one two three four six five seven h s) (λ m.
      let same : Bool = eqb m.things.highest (highest_listed m.things) in
      only_next told (check same refusal) _ (only_check told same refusal lost) (λ i. tt)) 0

-- ---- what is then written, and what the library tells of it
written : (ok : ℕ → Bool) (w : Writing) → T (ok (of_writing w).number) → T (ok (of_moved (after_writing w)).number)
written ok (writing.Done next) t = t
written ok (writing.Refused k) t = t

pub moving_number : (ok : ℕ → Bool) (a : Moved) → T (ok (of_moved a).number) → T (ok (moving_by a).number)
moving_number ok (Done next) t = t
moving_number ok (Refused k at) t = t

of_moved_lem : (ok : ℕ → Bool) → T (ok 0) → T (ok 9) → (out : List ℕ) (given : Bool) (r : Read ℕ Refusal (List ℕ)) → T (given || ok 27) →
    T (fine (λ f. ok f.number) r) → T (ok (of_moved (as_moved out (against given r)).0).number)
of_moved_lem ok None-passes nine out true (got image end) t u = written ok (write_bytes out 0 image).0 (bytes_written ok None-passes nine out 0 image)
of_moved_lem ok None-passes nine out true (fault f) t u = u
of_moved_lem ok None-passes nine out false r t u = t

module _ (ok : ℕ → Bool) (None-passes : T (ok 0)) (one : T (ok 1)) (two : T (ok 2)) (three : T (ok 3)) (four : T (ok 4)) (five : T (ok 5)) (six : T (ok 6))
    (seven : T (ok 7)) (nine : T (ok 9)) (s : Scheme) (image out : List ℕ) where
  pub of_forward : T (accepted_scheme s || ok 27) → T (ok (of_moved (forward_into image s out).0).number)
  unfolding forward_into
  of_forward t =
      of_moved_lem ok None-passes nine out (accepted_scheme s) (forward s.head image 0) t (forward_only ok one two three four five six seven s.head image)

  pub of_back : T (ok 23) → T (accepted_scheme s || ok 27) → T (ok (of_moved (back_into image s out).0).number)
  unfolding back_into
  of_back lost t =
      of_moved_lem ok None-passes nine out (accepted_scheme s) (back s.head image 0) t (back_only ok one two three four five six seven s.head image lost)
