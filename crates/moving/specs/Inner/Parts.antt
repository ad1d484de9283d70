-- What the functions give of an image that is read whole: the things, since nobody asks for the cells, nor for where it ends; and a fault as a refusal of it.
-- Assumes nothing.
use Rattle.std.specs.Prelude.{ℕ, Result, Ok, Err}
use Rattle.faults.specs.declared.Fault.{Fault}
use Rattle.model.specs.Seats.{Matrix}
use Rattle.model.specs.declared.Things.{Things}
use Rattle.records.specs.Reading.{Read, got, fault}
use Rattle.records.specs.Front.{Refusal}
use Rattle.records.specs.Results.{refused}
use Rattle.records.specs.declared.Refused.{Refused}

abbrev pub things_of : Read ℕ Refusal Matrix → Result Things Refused
things_of (got m next) = Ok m.things
things_of (fault f) = Err (refused f.number f.at)

abbrev pub at_start : Fault → Refused
at_start f = record { fault = f; at = 0 }
