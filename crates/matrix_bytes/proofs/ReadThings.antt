-- Reading the head and the things of a matrix, as the returns of those functions have them: the things that were read take the seats from the first
-- on. Assumes nothing.
use Prim.Native.Nat.{ℕ, ◌+◌, ◌≤◌, ◌<◌}
use native.Mathlib.Omega.{arith}
use mathlib.Core.Bool.{Bool}
use mathlib.Core.List.{List, [], ◌∷◌, ◌++◌}
use mathlib.Core.Path.{◌≡◌, sym, ◌∙◌}
use lib.Dec.{T, eqb}
use lib.ListN.{length}
use Rattle.std.specs.Prelude.{Ok, Err}
use Rattle.rights.specs.declared.ThingType.{ThingType}
use Rattle.model.specs.Accepted.{accepted_head}
use Rattle.model.specs.Seats.{no_things, with_highest, put_thing}
use Rattle.model.specs.declared.Head.{Head}
use Rattle.model.specs.declared.Things.{Things}
use Rattle.records.specs.Reading.{Read, got, fault, Reader, steps}
use Rattle.records.specs.Front.{Refusal, in_record}
use Rattle.records.specs.Results.{item_of, refused}
use Rattle.records.specs.declared.Refused.{Refused}
use Rattle.records.proofs.Loop.{Looped, looped_on, looped_stop}
use Rattle.records.proofs.Trip.{Bytes}
use Rattle.matrix_records.specs.Content.{Stated, ThingRecord}
use Rattle.matrix_records.specs.Answers.{kind_at, named, found_head, found_thing, read_head, read_thing}
use Rattle.matrix_records.specs.declared.answers.FoundHead.{FoundHead}
use Rattle.matrix_records.specs.declared.answers.FoundThing.{FoundThing}
use Rattle.matrix_records.specs.Read.{head, thing}
use Rattle.matrix_records.proofs.Trips.{Sized, head_record}
use Rattle.matrix_records.proofs.ReadBack.{head_opened, thing_opened, thing_read, item_back, item_stopped, thing_with_mark}
use Rattle.matrix_bytes.specs.Content.{seat_all, things_from}
use Rattle.matrix_bytes.proofs.Seating.{from_next}
use Rattle.matrix_bytes.proofs.Rising.{Rising}
use Rattle.matrix_bytes.proofs.Trips.{stand_le, things_trip}

-- ---- in a loop: none yet, and one more
pub things_none : (highest : ℕ) (th : Things) → th ≡ no_things → with_highest highest th ≡ things_from highest []
unfolding things_from seat_all
things_none highest th e = rw e

pub things_on : (highest : ℕ) (items : List ThingRecord) (j : ℕ) → length items ≡ j → (th : Things) → th ≡ things_from highest items →
    (id : ℕ) (of : ThingType) (mark : Bool) (new : Things) → new ≡ put_thing j id (record { type = of; on_hold = mark }) th →
    new ≡ things_from highest (items ++ thing_with_mark id of mark ∷ [])
things_on highest items j n th e id of mark new en = rw (en, e, ← n) (sym (from_next highest items (thing_with_mark id of mark)))

-- ---- what was read
module _ (s : List ℕ) (h : Head) where
  abbrev pub head_read : Read ℕ Refusal Stated
  head_read = in_record s 128 (λ kind. head h) 0

  pub head_is : T (accepted_head h) → {p : FoundHead × ℕ} → Ok p ≡ read_head s 0 128 h →
      head_read ≡ got (record { count = p.0.count; highest = p.0.highest }) p.1
  head_is ok {p} e = go (item_back (found_head (kind_at s 0)) head_read (e ∙ head_opened s 0 128 h ok))
    where
      go : (st : Stated) × (head_read ≡ got st p.1) × (p.0 ≡ found_head (kind_at s 0) st) → head_read ≡ got (record { count = p.0.count; highest = p.0.highest }) p.1
      go (st, is, same) = rw same is

  abbrev pub things_read : ℕ → ℕ → Reader ℕ Refusal (List ThingRecord)
  things_read highest count = steps (λ last. in_record s 272 (thing h highest last)) (λ last t. t.id) count 0

  -- ---- a turn of the loop, which stops it or goes on
  module _ (highest : ℕ) {count at j last p : ℕ} (ok : T (accepted_head h))
      (v : Looped (λ last. in_record s 272 (thing h highest last)) (λ last t. t.id) count 0 at j last p) (l : j < count) where
    pub things_stopped : {r : Refused} → Err r ≡ read_thing s p 272 h highest last → Err r ≡ item_of (named (things_from highest) (things_read highest count at))
    things_stopped {r} e = go (item_stopped (found_thing (kind_at s p)) (in_record s 272 (thing h highest last) p) (e ∙ thing_opened s p 272 h ok highest last))
      where
        go : (g : Refusal) × (in_record s 272 (thing h highest last) p ≡ fault g) × (r ≡ refused g.number g.at) →
            Err r ≡ item_of (named (things_from highest) (things_read highest count at))
        go (g, is, same) = rw (looped_stop v l is, same)

    pub things_turned : {f : FoundThing × ℕ} → Ok f ≡ read_thing s p 272 h highest last → (th new : Things) → th ≡ things_from highest v.items →
        new ≡ put_thing j f.0.id (record { type = f.0.of; on_hold = eqb f.0.kind 8 }) th →
        (w : Looped (λ last. in_record s 272 (thing h highest last)) (λ last t. t.id) count 0 at (j + 1) f.0.id f.1) × (new ≡ things_from highest w.items)
    things_turned {f} e th new et en =
        let is = thing_read s p 272 h highest last (e ∙ thing_opened s p 272 h ok highest last) in
        (looped_on v l is, things_on highest v.items j v.count th et f.0.id f.0.of (eqb f.0.kind 8) new en)

  module _ (z : Sized h) (g : Bytes s) where
    pub head_few : (st : Stated) (at : ℕ) → head_read ≡ got st at → (st.count ≤ 48) × (at ≤ length s)
    head_few st at e = let (a, ok) = (head_record h z s).back 0 at st g e in (ok.few, stand_le a (omega arith))

    pub things_end : (highest count at : ℕ) → at ≤ length s → (ts : List ThingRecord) (next : ℕ) → things_read highest count at ≡ got ts next →
        Rising h 0 ts × (length ts ≡ count) × (next ≤ length s)
    things_end highest count at l ts next f =
        let (b, up) = (things_trip h z s highest count).back at next ts g f in
        (up.0, up.2, stand_le b l)
