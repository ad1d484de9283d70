-- What the functions give of a list: how it ended, or the fault that refused it as a whole; and what the things, the cells and the buffer then hold.
-- Assumes nothing.
use Rattle.std.specs.Prelude.{ℕ, List, None, Some, Result, Ok, Err}
use Rattle.faults.specs.Numbers.{fault_of}
use Rattle.faults.specs.declared.Fault.{Fault}
use Rattle.model.specs.declared.Things.{Things}
use Rattle.records.specs.Results.{refused}
use Rattle.engine.specs.Answers.{RunAnswer, Whole, Bad, Refused, Ran}
use Rattle.engine.specs.List.{Result as Run}
use Rattle.engine.specs.declared.answers.Ended.{Ended}

abbrev pub ended_as : RunAnswer → Result Ended Fault
ended_as (Whole count) = Ok (record { count = count; cut = None })
ended_as (Bad count k at) = Ok (record { count = count; cut = Some (refused k at) })
ended_as (Refused k) = Err (fault_of k)

abbrev pub Given : Type 0
Given = Result Ended Fault × Things × List ℕ × List ℕ

abbrev pub gives : Run → Given
gives r = (ended_as r.ran.answer, r.ran.things, r.cells, r.replies)

-- the same with no buffer
abbrev pub Quiet : Type 0
Quiet = Result Ended Fault × Things × List ℕ

abbrev pub gives_quietly : Ran × List ℕ → Quiet
gives_quietly r = (ended_as r.0.answer, r.0.things, r.1)
