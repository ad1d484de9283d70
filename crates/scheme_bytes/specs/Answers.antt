-- The answer of `read_scheme`, from what `Read` gives; and what the function gives for it.
-- Assumes nothing.
use Rattle.std.specs.Prelude.{ℕ, List, Result, Ok, Err}
use Rattle.model.specs.declared.Scheme.{Scheme}
use Rattle.records.specs.Reading.{Read, got, fault}
use Rattle.records.specs.Front.{Refusal}
use Rattle.records.specs.Outcome.Reading.{Reading, Done, Refused}
use Rattle.records.specs.Results.{reading_result}
use Rattle.records.specs.declared.Refused as refused
use Rattle.scheme_bytes.specs.Read.{scheme}

-- where the reading ended, and what the table then holds
pub record SchemeAnswer : Type 0 where
  pub answer : Reading
  pub scheme : Scheme

-- the content and the next position; or the number with the record's position, and the table as it stood
abbrev pub as_scheme : Scheme → Read ℕ Refusal Scheme → SchemeAnswer
as_scheme table (got s next) = record { answer = Done next; scheme = s }
as_scheme table (fault f) = record { answer = Refused f.number f.at; scheme = table }

unfoldable pub read_scheme : List ℕ → Scheme → SchemeAnswer
read_scheme bytes table = as_scheme table (scheme bytes 0)

-- the function's result, with what the lent table then holds
abbrev pub scheme_result : SchemeAnswer → Result ℕ refused.Refused × Scheme
scheme_result a = (reading_result a.answer, a.scheme)

-- a position with what was read into the lent place; where it is refused, nobody looks at that
module _ {A E : Type 0} (lent : A) where
  abbrev pub with_lent : Result ℕ E → Result (A × ℕ) E
  with_lent (Ok next) = Ok (lent, next)
  with_lent (Err r) = Err r
