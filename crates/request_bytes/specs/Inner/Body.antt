-- What the functions give for the parts of a body: the ids in an array with zeros behind them, and whether there is such a body at all.
-- Assumes nothing.
use Rattle.std.specs.Prelude.{ℕ, ◌-◌, List, ◌++◌, length, replicate, Result, Ok, Err}
use Rattle.faults.specs.Numbers.{fault_of}
use Rattle.faults.specs.declared.Fault.{Fault}
use Rattle.records.specs.Reading.{Read, got, fault}

abbrev pub ids_result : Read (List ℕ) ℕ (List ℕ) → Result (List ℕ) Fault
ids_result (got ids rest) = Ok (ids ++ replicate (8 - length ids) 0)
ids_result (fault k) = Err (fault_of k)

module _ {A : Type 0} where
  abbrev pub end_result : Read (List ℕ) ℕ A → Result Unit Fault
  end_result (got a rest) = Ok tt
  end_result (fault k) = Err (fault_of k)
