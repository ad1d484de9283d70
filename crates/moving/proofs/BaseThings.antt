-- The things of an old image as the base reads them, beside how they are read here: the same, but where one is on hold.
-- Assumes nothing.
use Prim.Native.Nat.{ℕ, zero, suc, ◌+◌, ◌<◌, ◌≤◌}
use native.Mathlib.Decide.{dec_lt}
use native.Mathlib.Omega.{arith}
use mathlib.Core.Bool.{Bool, true, false, not, ◌&&◌, ◌||◌}
use mathlib.Core.Logic.{inl, inr}
use mathlib.Core.List.{List, [], ◌∷◌}
use mathlib.Core.Path.{◌≡◌, refl, sym, ◌∙◌}
use lib.Dec.{eqb, leb, ltb}
use lib.ListN.{length, get_or}
use borrow.Author.Tests.{eqb-true, le-leb}
use Rattle.rights.specs.Sets.{has, single, enter_right}
use Rattle.rights.proofs.Laws.{has_enter}
use Rattle.model.specs.declared.Head.{Head}
use Rattle.records.specs.Bytes.{part}
use Rattle.records.specs.Reading.{Read, got, fault, Reader, check, steps, done, field, number, whole}
use Rattle.records.specs.Front.{Refusal, allowed, record_at, on_record, in_record}
use Rattle.records.specs.Outcome.RecordAnswer.{RecordAnswer}
use Rattle.records.specs.Outcome.RecordAnswer.{Record, Refused}
use Rattle.records.proofs.FrontLaws.{record_short, record_kind, record_found, in_refused}
use Rattle.records.proofs.Trip.{Bytes, never}
use Rattle.records.proofs.TripFields.{trip_number}
use Rattle.records.proofs.TripRecord.{bytes_part, in_record_back}
use Rattle.matrix_records.specs.Content.{ThingRecord, nobody}
use Rattle.matrix_records.specs.Read.{thing}
use Rattle.matrix_records.specs.Answers.{kind_at}
use Rattle.moving.specs.Base.{base_thing}
use Rattle.moving.proofs.Beside.{Gives, gives_done, gives_last, Beside, beside_then}

-- ---- the kinds that may stand there: the base's are the same without 8
has_eight : (kind : ℕ) → has 272 kind ≡ (has 16 kind || (eqb kind 8 && ltb 8 64))
unfolding has single enter_right
has_eight kind = has_enter 8 16 kind

same_kinds : (kind : ℕ) → eqb kind 8 ≡ false → allowed 16 kind ≡ allowed 272 kind
unfolding allowed
same_kinds kind e = rw (has_eight, e) (go (has 16 kind))
  where
    go : (b : Bool) → (ltb kind 16 && b) ≡ (ltb kind 16 && (b || false))
    go true = refl
    go false = refl

not_eight : allowed 16 8 ≡ false
unfolding allowed has
not_eight = refl

-- ---- one thing
abbrev Free : ThingRecord → Type 0
Free t = t.thing.on_hold ≡ false

abbrev OnHold : ThingRecord → Type 0
OnHold t = t.thing.on_hold ≡ true

module _ (h : Head) (last : ℕ) where
  -- its body; an id of two bytes is no higher than 65,535
  same_body : (kind : ℕ) → eqb kind 8 ≡ false → (l : List ℕ) → Bytes l → base_thing h last l ≡ thing h 65535 last kind l
  unfolding base_thing thing
  same_body kind e l g = go (number 2 l) refl
    where
      go : (r : Read (List ℕ) ℕ ℕ) → number 2 l ≡ r → base_thing h last l ≡ thing h 65535 last kind l
      go (got id i) f =
          let low = ((trip_number 2).back l i id g f).1 in
          rw (f, le-leb id 65535 (omega arith), e)
      go (fault k) f = rw f

  -- its record's kind says whether it is on hold
  body_marked : (kind : ℕ) (l : List ℕ) → Gives (λ t. t.thing.on_hold ≡ eqb kind 8) (thing h 65535 last kind l)
  unfolding thing
  body_marked kind l =
      gives_last (number 2 l) _ λ id i.
      gives_last (check (not (eqb id 0)) 6 i) _ λ nz j.
      gives_last (check (ltb last id) 7 j) _ λ over k.
      gives_last (check (leb id 65535) 6 k) _ λ below m.
      gives_last (field 0 h.types 5 m) _ λ t n. gives_done (λ t. t.thing.on_hold ≡ eqb kind 8) refl

  -- its record, as the base reads it, and as it is read here
  abbrev pub base : List ℕ → Reader ℕ Refusal ThingRecord
  base s = in_record s 16 (λ kind. base_thing h last)

  abbrev pub here : List ℕ → Reader ℕ Refusal ThingRecord
  here s = in_record s 272 (thing h 65535 last)

  module _ (s : List ℕ) (at : ℕ) where
    same_front : eqb (kind_at s at) 8 ≡ false → record_at s at 16 ≡ record_at s at 272
    unfolding record_at
    same_front e = rw (same_kinds (kind_at s at) e)

    same_record : eqb (kind_at s at) 8 ≡ false → Bytes s → base s at ≡ here s at
    unfolding in_record whole
    same_record e g = rw (same_front e) (go (record_at s at 272) refl)
      where
        go : (r : RecordAnswer) → record_at s at 272 ≡ r → on_record s at (λ kind. base_thing h last) r ≡ on_record s at (thing h 65535 last) r
        go (Record kind start len) f =
            let same : kind ≡ kind_at s at = (record_found s at 272 kind start len f).its_kind in
            rw (same_body kind (rw same e) (part s start len) (bytes_part s start len g))
        go (Refused k q) f = refl

    record_marked : (b : Bool) → eqb (kind_at s at) 8 ≡ b → Gives (λ t. t.thing.on_hold ≡ b) (here s at)
    record_marked b is t next e =
        let (kind, start, len, f, r, n) = in_record_back s 272 (thing h 65535 last) at e in
        body_marked kind (part s start len) t [] r ∙ rw f.its_kind is

    -- a front that is cut short is refused by both
    thing_beside : Bytes s → Beside s Free OnHold (base s at) (here s at)
    thing_beside g = go (eqb (kind_at s at) 8) refl (dec_lt (length s) (at + 4))
      where
        go : (b : Bool) → eqb (kind_at s at) 8 ≡ b → Dec (length s < at + 4) → Beside s Free OnHold (base s at) (here s at)
        go false e d = inl (same_record e g, record_marked false e)
        go true e (yes short) =
            let one = in_refused s at 16 (λ kind. base_thing h last) 1 at (sym (record_short s at 16 short)) in
            let two = in_refused s at 272 (thing h 65535 last) 1 at (sym (record_short s at 272 short)) in
            inl (one ∙ sym two, λ t next f. never (sym two ∙ f))
        go true e (no long) =
            let is = eqb-true (kind_at s at) 8 e in
            let fits : at + 4 ≤ length s = omega (arith, long) in
            let stop = in_refused s at 16 (λ kind. base_thing h last) 2 at (sym (record_kind s at 16 fits (kind_at s at) refl (rw is not_eight))) in
            inr ((at, stop, is), record_marked true e)

-- ---- all of them
abbrev pub NoneHeld : List ThingRecord → Type 0
NoneHeld ts = (i : ℕ) → Free (get_or ts i nobody)

abbrev pub SomeHeld : List ThingRecord → Type 0
SomeHeld ts = (i : ℕ) × OnHold (get_or ts i nobody)

none_more : (t : ThingRecord) (ts : List ThingRecord) → Free t → NoneHeld ts → NoneHeld (t ∷ ts)
none_more t ts free none zero = free
none_more t ts free none (suc i) = none i

module _ (h : Head) (s : List ℕ) where
  abbrev pub base_all : ℕ → ℕ → Reader ℕ Refusal (List ThingRecord)
  base_all n last = steps (λ last. base h last s) (λ last t. t.id) n last

  abbrev pub here_all : ℕ → ℕ → Reader ℕ Refusal (List ThingRecord)
  here_all n last = steps (λ last. here h last s) (λ last t. t.id) n last

  pub things_beside : Bytes s → (n last at : ℕ) → Beside s NoneHeld SomeHeld (base_all n last at) (here_all n last at)
  things_beside g zero last at = inl (refl, gives_done NoneHeld λ i. refl)
  things_beside g (suc n) last at =
      beside_then s (base h last s at) (here h last s at) _ _ (thing_beside h last s at g)
      (λ t next e free.
      beside_then s (base_all n t.id next) (here_all n t.id next) (λ ts. done (t ∷ ts)) (λ ts. done (t ∷ ts)) (things_beside g n t.id next)
      (λ ts end e none. inl (refl, gives_done NoneHeld (none_more t ts free none)))
      (λ ts end e some. gives_done SomeHeld (suc some.0, some.1)))
      (λ t next e held. gives_last (here_all n t.id next) (λ ts. done (t ∷ ts)) λ ts end. gives_done SomeHeld (0, held))
