-- What `Promises` states of moving: an old image and the new one of the same things and cells, both read, and each gone to from the other.
-- Assumes nothing.
use Prim.Native.Nat.{ℕ}
use mathlib.Core.Bool.{Bool}
use mathlib.Core.List.{List}
use mathlib.Core.Logic.{◌≢◌}
use mathlib.Core.Path.{◌≡◌, refl, sym, ◌∙◌}
use lib.Dec.{T, eqb, eqb→eq}
use lib.ListN.{length}
use borrow.Author.Tests.{eq-eqb}
use Rattle.laws.proofs.Bools.{eqb_not}
use Rattle.model.specs.Accepted.{accepted_matrix}
use Rattle.model.specs.Seats.{Matrix}
use Rattle.model.specs.declared.Head.{Head}
use Rattle.model.proofs.HeldLaws.{accepted}
use Rattle.records.specs.Reading.{got, fault, check, done}
use Rattle.records.specs.Front.{Refusal}
use Rattle.records.proofs.Trip.{Bytes, bind_got, check_got, got_value, got_same}
use Rattle.matrix_records.specs.Content.{ThingRecord, CellRecord}
use Rattle.matrix_records.proofs.Trips.{Sized}
use Rattle.matrix_bytes.specs.Content.{matrix_from}
use Rattle.matrix_bytes.specs.Read.{matrix}
use Rattle.matrix_bytes.specs.Write.{matrix_bytes}
use Rattle.matrix_bytes.proofs.RestTrips.{ContentOk}
use Rattle.matrix_bytes.proofs.RoundTrips.{sized, content_bytes, round_trips}
use Rattle.matrix_bytes.proofs.Seating.{from_highest}
use Rattle.matrix_bytes.proofs.Stored.{from_accepted}
use Rattle.moving.specs.Moves.{new_image, old_image, forward, back}
use Rattle.moving.specs.Old.{highest_listed, by_listed, old_matrix}
use Rattle.moving.specs.Promises.{MovesKeep}
use Rattle.moving.proofs.Images.{top, old_bytes, new_bytes, new_image_lem, old_image_lem, by_listed_lem, of_image}
use Rattle.moving.proofs.Images.{old_back, new_back, old_there, new_there}
use Rattle.moving.proofs.ListedLaws.{listed_ids, listed_from}

-- ---- the way back, by the stored highest
module _ (h : Head) (s : List ℕ) (m : Matrix) (end : ℕ) (e : matrix h s 0 ≡ got m end) where
  back_taken : m.things.highest ≡ highest_listed m.things → back h s 0 ≡ got (old_image s) end
  unfolding back
  back_taken same = rw (e, eq-eqb _ _ same)

  back_refused : m.things.highest ≢ highest_listed m.things → back h s 0 ≡ fault (record { number = 23; at = 0 })
  unfolding back
  back_refused other = rw (e, eqb_not _ _ other)

-- what went back had that highest
went_back : (h : Head) (s image : List ℕ) (end : ℕ) → back h s 0 ≡ got image end →
    (m : Matrix) × (next : ℕ) × (matrix h s 0 ≡ got m next) × (m.things.highest ≡ highest_listed m.things) × (old_image s ≡ image)
unfolding back
went_back h s image end e =
    let (m, next, e1, f1) = bind_got (matrix h s 0) _ e in
    let same : Bool = eqb m.things.highest (highest_listed m.things) in
    let lost : Refusal = record { number = 23; at = 0 } in
    let (u, i, e2, f2) = bind_got (check same lost next) (λ u. done (old_image s)) f1 in
    (m, next, e1, eqb→eq _ _ (check_got same lost next e2).0, got_value f2)

-- and a matrix that has it is by the listed one already
same_listed : (m : Matrix) → m.things.highest ≡ highest_listed m.things → by_listed m ≡ m
unfolding by_listed
same_listed m same = rw (← same)

-- ---- both images of the same things and cells
abbrev Reads : Head → List ℕ → Matrix → ℕ → Type 0
Reads h s m end =
    (forward h s 0 ≡ got (matrix_bytes h m) end)
    × (matrix h (matrix_bytes h m) 0 ≡ got m (length (matrix_bytes h m)))
    × (m.things.highest ≡ highest_listed m.things)
    × T (accepted_matrix h m)

module _ (h : Head) (z : Sized h) where
  module _ (ts : List ThingRecord) (cs : List CellRecord) (ok : ContentOk h (top ts) ts cs) where
    abbrev both : Matrix
    both = matrix_from (top ts) ts cs

    top_is : both.things.highest ≡ top ts
    unfolding matrix_from
    top_is = from_highest (top ts) ts ok.listed.below

    listed_is : both.things.highest ≡ highest_listed both.things
    unfolding matrix_from
    listed_is = top_is ∙ sym (listed_ids (top ts) ts ok.listed.few)

    new_is : new_image (old_bytes h ts cs) both.things.highest ≡ new_bytes h (top ts) ts cs
    new_is = rw top_is (new_image_lem h (top ts) ts cs)

    forward_is : forward h (old_bytes h ts cs) 0 ≡ got (new_bytes h (top ts) ts cs) (length (old_bytes h ts cs))
    unfolding forward
    forward_is = rw (old_there h z (top ts) ts cs ok, new_is)

    back_is : back h (new_bytes h (top ts) ts cs) 0 ≡ got (old_bytes h ts cs) (length (new_bytes h (top ts) ts cs))
    back_is = back_taken h _ both _ (new_there h z (top ts) ts cs ok) listed_is ∙ rw (old_image_lem h (top ts) ts cs)

    reads_is : Reads h (old_bytes h ts cs) both (length (old_bytes h ts cs))
    reads_is =
        rw (← (content_bytes h (record { count = length ts; highest = top ts }) ts cs ok refl))
        (forward_is, new_there h z (top ts) ts cs ok, listed_is, accepted h both (from_accepted h (top ts) ts ok.listed cs ok.each))

  -- ---- of what was read
  there_and_back_lem : (s image : List ℕ) (end : ℕ) → Bytes s → forward h s 0 ≡ got image end → back h image 0 ≡ got s (length image)
  unfolding forward
  there_and_back_lem s image end g e =
      let (m, next, e1, f1) = bind_got (old_matrix h s 0) _ e in
      got_same (λ v j. back h v 0 ≡ got s (length v)) f1
      (of_image (old_back h z s g m next e1) (λ v n j. back h (new_image v n.things.highest) 0 ≡ got v (length (new_image v n.things.highest)))
      (λ ts cs ok. rw (new_is ts cs ok) (back_is ts cs ok)))

  forward_again_lem : (s : List ℕ) (m : Matrix) (end : ℕ) → Bytes s → matrix h s 0 ≡ got m end →
      forward h (old_image s) 0 ≡ got (matrix_bytes h (by_listed m)) (length (old_image s))
  forward_again_lem s m end g e =
      let (x, w) = new_back h z s g m end e in
      of_image w (λ v n j. forward h (old_image v) 0 ≡ got (matrix_bytes h (by_listed n)) (length (old_image v))) (λ ts cs ok.
      let listed = by_listed_lem ok in
      rw (old_image_lem h x ts cs, listed_from x ts cs ok.listed.few, ← (content_bytes h (record { count = length ts; highest = top ts }) ts cs listed refl)) (forward_is ts cs listed))

pub moves_keep : MovesKeep
moves_keep s t =
    let h = s.head in
    let z = sized s t in
    record {
      reads = λ old m end g e. of_image (old_back h z old g m end e) (Reads h) (reads_is h z);
      there_and_back = there_and_back_lem h z;
      back_and_there = λ new old end g e.
          let (m, next, r, same, is) = went_back h new old end e in
          let bytes : new ≡ matrix_bytes h m = (round_trips.back s new m next t g r).1 in
          rw (← is) (forward_again_lem h z new m next g r ∙ rw (same_listed m same, ← bytes));
      taken = back_taken h;
      refused = back_refused h;
      forward_again = forward_again_lem h z;
    }
