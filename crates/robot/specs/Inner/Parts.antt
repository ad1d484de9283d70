-- What a run of a list gives, and what is told of it.
-- Assumes nothing.
use Rattle.std.specs.Prelude.{ℕ, length, Result, Ok, Err}
use Rattle.faults.specs.declared.Fault.{Fault}
use Rattle.engine.specs.declared.answers.Ended.{Ended}
use Rattle.model.specs.Seats.{Matrix}
use Rattle.model.specs.declared.Scheme.{Scheme}
use Rattle.request_list.specs.List.{Listed}
use Rattle.engine.specs.Answers.{RunAnswer}
use Rattle.engine.specs.Answers as ended
use Rattle.robot.specs.declared.run.Needed.{Needed}
use Rattle.robot.specs.Library.{Called, call, cut_short, bytes_after}

-- what is told of a list with so many bytes written
abbrev pub ending_by : ℕ → RunAnswer → Called
ending_by written (ended.Whole count) = call 0 0 0 count written
ending_by written (ended.Bad count k at) = cut_short k at count written
ending_by written (ended.Refused k) = call k 4 0 0 0

-- how many requests of a list were answered
abbrev pub count_in : Result Ended Fault → ℕ
count_in (Ok x) = x.count
count_in (Err f) = 0

-- what a run will take of the two buffers
unfoldable pub needed_by : Scheme → Matrix → Listed → Needed
needed_by s m l = record { answers = length l.requests; bytes = length (bytes_after s m l) }
