-- The answers of the functions, as the model's definitions have them.
-- Assumes nothing.
use Rattle.std.specs.Prelude.{ℕ, List, reverse, take, Result, Ok, Err}
use Rattle.std.proofs.Math.Option.{none, some}
use Rattle.faults.specs.Numbers.{fault_of}
use Rattle.faults.specs.declared.Fault.{Fault as FaultNamed}
use Rattle.laws.specs.Check.{Fault}
use Rattle.model.specs.declared.Operation.{Operation}
use Rattle.model.specs.declared.Operations.{Operations}

-- success, or the fault of this number
abbrev pub as_checked : Fault → Result (Unit {0}) FaultNamed
as_checked none = Ok tt
as_checked (some k) = Err (fault_of k)

-- the first n operations, the last first
abbrev pub before : Operations → ℕ → List Operation
before o n = reverse (take n o.list)
