-- What the functions give for each outcome: a value, or the fault of the outline's number, with the record's position where there is one.
-- Assumes nothing.
use Rattle.std.specs.Prelude.{ℕ, List, Result, Ok, Err}
use Rattle.faults.specs.Numbers.{fault_of}
use Rattle.faults.specs.declared.Fault.{Fault}
use Rattle.records.specs.Reading.{Read, got, fault}
use Rattle.records.specs.Front.{Refusal}
use Rattle.records.specs.Outcome.RecordAnswer.{RecordAnswer}
use Rattle.records.specs.Outcome.RecordAnswer as record_answer
use Rattle.records.specs.Outcome.Reading.{Reading}
use Rattle.records.specs.Outcome.Reading as reading
use Rattle.records.specs.Outcome.Writing.{Writing}
use Rattle.records.specs.Outcome.Writing as writing
use Rattle.records.specs.declared.Record.{Record}
use Rattle.records.specs.declared.Refused.{Refused}

-- a refusal of a whole record
abbrev pub refused : ℕ → ℕ → Refused
refused k at = record { fault = fault_of k; at = at }

-- ---- a field or another part of a body: what is left of the body isn't told
module _ {I A : Type 0} where
  abbrev pub value_of : Read I ℕ A → Result A Fault
  value_of (got a rest) = Ok a
  value_of (fault k) = Err (fault_of k)

-- ---- what a record says, with the next position
module _ {A : Type 0} where
  abbrev pub item_of : Read ℕ Refusal A → Result (A × ℕ) Refused
  item_of (got a next) = Ok (a, next)
  item_of (fault f) = Err (refused f.number f.at)

-- ---- a record, a reading and a writing
abbrev pub record_result : RecordAnswer → Result Record Refused
record_result (record_answer.Record kind start len) = Ok (record { kind = kind; start = start; len = len })
record_result (record_answer.Refused k at) = Err (refused k at)

abbrev pub reading_result : Reading → Result ℕ Refused
reading_result (reading.Done next) = Ok next
reading_result (reading.Refused k at) = Err (refused k at)

abbrev pub writing_result : Writing → Result ℕ Fault
writing_result (writing.Done next) = Ok next
writing_result (writing.Refused k) = Err (fault_of k)

-- with what the lent buffer then holds
abbrev pub written : Writing × List ℕ → Result ℕ Fault × List ℕ
written w = (writing_result w.0, w.1)
