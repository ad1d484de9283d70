-- From what a function gave for a record back to what stands there, and a refusal as it is passed up.
-- Assumes nothing.
use Prim.Native.Nat.{ℕ, ◌+◌}
use mathlib.Core.List.{List}
use mathlib.Core.Path.{◌≡◌, refl, sym, ap}
use Rattle.std.specs.Prelude.{Ok, Err}
use Rattle.records.specs.Front.{record_at, next_at, after_record}
use Rattle.records.specs.Outcome.RecordAnswer.{RecordAnswer}
use Rattle.records.specs.Outcome.RecordAnswer as record_answer
use Rattle.records.specs.Results.{refused, record_result, reading_result}
use Rattle.records.specs.declared.Record.{Record}
use Rattle.records.specs.declared.Refused.{Refused}
use Rattle.laws.proofs.Differ.{constructors_differ}

pub record_back : (a : RecordAnswer) {r : Record} → record_result a ≡ Ok r → a ≡ record_answer.Record r.kind r.start r.len
record_back (record_answer.Record kind start len) {r} e =
    let f : record { kind = kind; start = start; len = len } ≡ r = cc in
    ap (λ (x : Record). record_answer.Record x.kind x.start x.len) f
record_back (record_answer.Refused k q) e = constructors_differ (cc)

pub refused_back : (a : RecordAnswer) {r : Refused} → record_result a ≡ Err r → (k : ℕ) × (q : ℕ) × (a ≡ record_answer.Refused k q) × (r ≡ refused k q)
refused_back (record_answer.Record kind start len) e = constructors_differ (cc)
refused_back (record_answer.Refused k q) {r} e = (k, q, refl, let f : refused k q ≡ r = cc in sym f)

-- the position behind a record that was found, and the refusal where none was
module _ (s : List ℕ) (at kinds : ℕ) where
  pub next_found : {r : Record} → record_result (record_at s at kinds) ≡ Ok r → Ok (r.start + r.len) ≡ reading_result (next_at s at kinds)
  unfolding next_at after_record
  next_found e = rw (record_back (record_at s at kinds) e)

  pub next_passed : {r : Refused} → record_result (record_at s at kinds) ≡ Err r → Err r ≡ reading_result (next_at s at kinds)
  unfolding next_at after_record
  next_passed {r} e = go (record_at s at kinds) e
    where
      go : (a : RecordAnswer) → record_result a ≡ Err r → Err r ≡ reading_result (after_record a)
      go (record_answer.Record kind start len) e = constructors_differ (cc)
      go (record_answer.Refused k q) e = let f : refused k q ≡ r = cc in ap Err (sym f)
