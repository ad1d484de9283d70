-- The round trip of the head of an old image: what stands in it is read, and what was read stood there. So such an image has a whole head.
-- Assumes nothing.
use Prim.Native.Nat.{ℕ, ◌≤◌}
use native.Mathlib.Omega.{arith}
use mathlib.Core.List.{List, [], ◌∷◌}
use mathlib.Core.Path.{◌≡◌, refl, sym}
use lib.Dec.{T, eqb, eqb→eq, eqb_refl}
use lib.ListN.{length}
use Rattle.model.specs.Accepted.{accepted_head}
use Rattle.model.specs.Seats.{Matrix}
use Rattle.model.specs.declared.Head.{Head}
use Rattle.records.specs.Bytes.{record_bytes}
use Rattle.records.specs.Reading.{got}
use Rattle.records.specs.Front.{in_record}
use Rattle.records.proofs.BytesLaws.{length_record}
use Rattle.records.proofs.Trip.{Trip, Bytes, body, input, bind_got, trip_as, trip_check, trip_then}
use Rattle.records.proofs.TripFields.{trip_field}
use Rattle.records.proofs.TripRecord.{trip_kind}
use Rattle.matrix_records.proofs.Trips.{Sized, head_sized}
use Rattle.matrix_bytes.proofs.Trips.{stand_le}
use Rattle.moving.specs.Old.{old_head, old_content}

module _ (h : Head) (z : Sized h) where
  old_head_trip : Trip body (old_head h) (λ count. h.rights ∷ count ∷ []) (λ count. count ≤ 48)
  unfolding old_head
  old_head_trip =
      trip_as
      (trip_then (trip_field 1 65 4) (λ count. h.rights) (λ r count l o. sym (eqb→eq r h.rights o.0)) λ r l.
      trip_check (eqb r h.rights) 6 λ same. trip_field 0 49 4)
      (λ count o. refl)
      (λ count o. search arith)
      (λ count o. let same = eqb_refl h.rights in search arith)

  pub old_head_record : (s : List ℕ) →
      Trip (input s) (in_record s 8 (λ kind. old_head h)) (λ count. record_bytes 3 (h.rights ∷ count ∷ [])) (λ count. count ≤ 48)
  old_head_record s = trip_kind s 3 (omega arith) old_head_trip (λ count o. omega arith)

-- its front has 4 bytes, and its body 2
pub old_long : (h : Head) (s : List ℕ) (m : Matrix) (end : ℕ) → T (accepted_head h) → Bytes s → old_content h s 0 ≡ got m end → 6 ≤ length s
unfolding old_content
old_long h s m end t g e =
    let (count, i, e1, f1) = bind_got (in_record s 8 (λ kind. old_head h) 0) _ e in
    let (a, few) = (old_head_record h (head_sized h t) s).back 0 i count g e1 in
    omega (arith, a.next, length_record 3 (h.rights ∷ count ∷ []), stand_le a (omega arith))
