-- What the functions give that find one record, and that read a part of a body.
-- Assumes nothing.
use Rattle.std.specs.Prelude.{ℕ, ◌^◌, cond, not, List, Result, Ok, Err, eqb, ltb, take}
use Rattle.faults.specs.declared.Fault.{Fault}
use Rattle.laws.specs.Check.{is_some}
use Rattle.model.specs.Accepted.{accepted_head}
use Rattle.model.specs.Seats.{find}
use Rattle.model.specs.declared.Head.{Head}
use Rattle.records.specs.Reading.{Body, ◌>>=◌, ◌>>◌, done, check, number}
use Rattle.records.specs.Front.{record_at}
use Rattle.records.specs.Outcome.RecordAnswer.{RecordAnswer}
use Rattle.records.specs.Outcome.RecordAnswer as record_answer
use Rattle.records.specs.declared.Refused.{Refused}
use Rattle.matrix_records.specs.Content.{ThingRecord}
use Rattle.matrix_records.specs.Read.{thing_with}

-- the record that is read against a scheme's head
abbrev pub record_against : List ℕ → ℕ → ℕ → Head → RecordAnswer
record_against s at kinds h = cond (accepted_head h) (record_at s at kinds) (record_answer.Refused 27 0)

-- what was read of a body, as the item of the record that it stands in
module _ {A : Type 0} (at next : ℕ) where
  abbrev pub item_at : Result A Fault → Result (A × ℕ) Refused
  item_at (Ok a) = Ok (a, next)
  item_at (Err f) = Err (record { fault = f; at = at })

-- the rights of a cell, its last field
unfoldable pub rights_of : Head → Body ℕ
rights_of h = do
  rights ← number 8
  check (ltb rights (2 ^ h.rights)) 5
  check (not (eqb rights 0)) 6
  done rights

-- the id of one of these things; and its seat among the first n
unfoldable pub thing_id : List ThingRecord → Body ℕ
thing_id ts = do
  x ← number 2
  check (is_some (thing_with ts x)) 5
  done x

abbrev pub seat_of : ℕ → List ℕ → ℕ → ℕ × ℕ
seat_of n ids x = (x, find (take n ids) x)
