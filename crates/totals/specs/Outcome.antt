-- What a matrix is answered: the three numbers, or the number of a refusal; and the result that tells it.
-- Assumes nothing.
use Rattle.std.specs.Prelude.{ℕ, Result, Ok, Err}
use Rattle.faults.specs.Numbers.{number_of, fault_of}
use Rattle.faults.specs.declared.Fault.{Fault}
use Rattle.totals.specs.declared.answers.Totals.{Totals}

-- things, cells that aren't empty, entries
pub data Outcome : Type 0 where
  Counted : ℕ → ℕ → ℕ → Outcome
  Refused : ℕ → Outcome

abbrev pub as_totals : Outcome → Result Totals Fault
as_totals (Counted things cells entries) = Ok (record { things = things; cells = cells; entries = entries })
as_totals (Refused k) = Err (fault_of k)

-- what such a result tells; of one that tells an outcome, that outcome
abbrev pub outcome_of : Result Totals Fault → Outcome
outcome_of (Ok t) = Counted t.things t.cells t.entries
outcome_of (Err fault) = Refused (number_of fault)
