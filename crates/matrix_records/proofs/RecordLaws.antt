-- A record from its front on, as the returns of its readers have it: one law for every kind of record.
-- Assumes nothing.
use Prim.Native.Nat.{ℕ, ◌+◌}
use mathlib.Core.Bool.{Bool, true, false, cond}
use mathlib.Core.List.{List}
use mathlib.Core.Path.{◌≡◌, refl, sym, ap}
use Rattle.std.specs.Prelude.{Result, Ok, Err}
use Rattle.faults.specs.declared.Fault.{Fault}
use Rattle.model.specs.Accepted.{accepted_head}
use Rattle.model.specs.declared.Head.{Head}
use Rattle.records.specs.Bytes.{part}
use Rattle.records.specs.Reading.{Read, got, fault, Body, whole}
use Rattle.records.specs.Front.{against, record_at, in_record, on_record, on_body}
use Rattle.records.specs.Outcome.RecordAnswer.{RecordAnswer}
use Rattle.records.specs.Outcome.RecordAnswer as record_answer
use Rattle.records.specs.Results.{value_of, item_of, record_result, refused}
use Rattle.records.specs.declared.Record.{Record}
use Rattle.records.specs.declared.Refused.{Refused}
use Rattle.records.proofs.FrontLaws.{Found, record_found, in_record_lem}
use Rattle.records.proofs.ResultLaws.{record_back}
use Rattle.laws.proofs.Differ.{constructors_differ}
use Rattle.matrix_records.specs.Answers.{kind_at, named}
use Rattle.matrix_records.specs.Inner.Bodies.{record_against, item_at}

-- what a body's reader gives, as the item of the record that it stands in
module _ {B : Type 0} (at next : ℕ) where
  item_of_body : {A : Type 0} (f : A → B) (m : Read (List ℕ) ℕ A) → item_at at next (value_of (named f m)) ≡ item_of (named f (on_body at next m))
  item_of_body f (got a rest) = refl
  item_of_body f (fault k) = refl

-- the record that was found is one of an accepted head
module _ (s : List ℕ) (at kinds : ℕ) (h : Head) {r : Record} (e : Ok r ≡ record_result (record_against s at kinds h)) where
  found_against : (accepted_head h ≡ true) × (record_at s at kinds ≡ record_answer.Record r.kind r.start r.len)
  found_against = go (accepted_head h) refl e
    where
      go : (ok : Bool) → accepted_head h ≡ ok → Ok r ≡ record_result (cond ok (record_at s at kinds) (record_answer.Refused 27 0)) →
          (accepted_head h ≡ true) × (record_at s at kinds ≡ record_answer.Record r.kind r.start r.len)
      go true eo f = (eo, record_back (record_at s at kinds) (sym f))
      go false eo f = constructors_differ (cc)

  pub against_found : Found s at kinds r.kind r.start r.len
  against_found = record_found s at kinds r.kind r.start r.len found_against.1

-- `put` is how the function has what was read
module _ {A B : Type 0} (put : ℕ → A → B) (s : List ℕ) (at kinds : ℕ) (h : Head) (p : ℕ → Body A) where
  abbrev all_read : Result (B × ℕ) Refused
  all_read = item_of (named (put (kind_at s at)) (against (accepted_head h) (in_record s kinds p at)))

  pub record_refused : {r : Refused} → Err r ≡ record_result (record_against s at kinds h) → Err r ≡ all_read
  unfolding in_record
  record_refused {r} e = go (accepted_head h) (record_at s at kinds) e
    where
      go : (ok : Bool) (a : RecordAnswer) → Err r ≡ record_result (cond ok a (record_answer.Refused 27 0)) →
          Err r ≡ item_of (named (put (kind_at s at)) (against ok (on_record s at p a)))
      go true (record_answer.Record kind start len) f = constructors_differ (cc)
      go true (record_answer.Refused k q) f = let g : r ≡ refused k q = cc in ap Err g
      go false a f = let g : r ≡ refused 27 0 = cc in ap Err g

  pub record_read : {r : Record} → Ok r ≡ record_result (record_against s at kinds h) → (m : Result B Fault) (b : List ℕ) → b ≡ part s r.start r.len →
      m ≡ value_of (named (put r.kind) (whole (p r.kind) b)) → item_at at (r.start + r.len) m ≡ all_read
  record_read {r} e m b eb em =
      let (ok, is) = found_against s at kinds h e in
      let f = against_found s at kinds h e in
      rw (em, ok, eb, in_record_lem s at kinds p r.kind r.start r.len is, ← f.its_kind) (item_of_body at (r.start + r.len) (put r.kind) (whole (p r.kind) (part s r.start r.len)))
