-- What an answer tells: for each of its cases the outline's number, 0 for success, and the values that go with it.
-- Assumes nothing.
use Rattle.std.specs.Prelude.{ℕ, List, [], ◌∷◌, Result, Ok, Err}
use Rattle.faults.specs.Numbers.{number_of}
use Rattle.faults.specs.declared.Fault.{Fault}
use Rattle.records.specs.Outcome.RecordAnswer.{RecordAnswer}
use Rattle.records.specs.Outcome.RecordAnswer as record_answer
use Rattle.records.specs.Outcome.Reading.{Reading}
use Rattle.records.specs.Outcome.Reading as reading
use Rattle.records.specs.Outcome.Writing.{Writing}
use Rattle.records.specs.Outcome.Writing as writing

pub record Told : Type 0 where
  pub number : ℕ
  pub values : List ℕ

abbrev pub told : ℕ → List ℕ → Told
told k vs = record { number = k; values = vs }

-- a field or another part of a body: its value, or the number of its fault
abbrev pub of_field : Result ℕ Fault → Told
of_field (Ok v) = told 0 (v ∷ [])
of_field (Err f) = told (number_of f) []

-- a record: its kind, where its body begins and how long it is; or the number and the record's position
abbrev pub of_record : RecordAnswer → Told
of_record (record_answer.Record kind start len) = told 0 (kind ∷ start ∷ len ∷ [])
of_record (record_answer.Refused k at) = told k (at ∷ [])

-- a reading: the next position; or the number and the record's position
abbrev pub of_reading : Reading → Told
of_reading (reading.Done next) = told 0 (next ∷ [])
of_reading (reading.Refused k at) = told k (at ∷ [])

-- a writing: the next position; or the number
abbrev pub of_writing : Writing → Told
of_writing (writing.Done next) = told 0 (next ∷ [])
of_writing (writing.Refused k) = told k []

-- the position that comes with a refusal, 0 with success
abbrev pub record_place : RecordAnswer → ℕ
record_place (record_answer.Record kind start len) = 0
record_place (record_answer.Refused k at) = at

abbrev pub reading_place : Reading → ℕ
reading_place (reading.Done next) = 0
reading_place (reading.Refused k at) = at
