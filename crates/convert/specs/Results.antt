-- What the functions give for a conversion: a value where it is done, or the fault of the outline's number.
-- Assumes nothing.
use Rattle.std.specs.Prelude.{ℕ, List, Result, Ok, Err}
use Rattle.faults.specs.Numbers.{fault_of}
use Rattle.faults.specs.declared.Fault.{Fault}
use Rattle.model.specs.declared.Scheme.{Scheme}
use Rattle.convert.specs.Outcome.Conversion.{Conversion}
use Rattle.convert.specs.Outcome.Conversion.{Done, Refused}
use Rattle.convert.specs.Outcome.SchemeConversion.{SchemeConversion}

module _ {A : Type 0} where
  abbrev pub conversion_result : A → Conversion → Result A Fault
  conversion_result a Done = Ok a
  conversion_result a (Refused k) = Err (fault_of k)

-- with what the lent scheme, or the lent cells, then hold
abbrev pub scheme_result : SchemeConversion → Result (Unit {0}) Fault × Scheme
scheme_result c = (conversion_result tt c.answer, c.scheme)

abbrev pub cells_result : Conversion × List ℕ → Result (Unit {0}) Fault × List ℕ
cells_result c = (conversion_result tt c.0, c.1)
